use Rattle.marks.proofs.BitLaws.{run_small, shift_fits}
use Rattle.marks.proofs.run.Goals as goal

pub overflow_cast-result : goal.overflow_cast-result
overflow_cast-result c =
    rw (shift_fits c.args.from c.args.n c.requires) (record { fits = run_small c.args.from c.args.n c.requires })
