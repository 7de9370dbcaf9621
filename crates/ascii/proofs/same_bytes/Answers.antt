use mathlib.Core.Path.{sym, ◌∙◌}
use Rattle.ascii.proofs.RunLaws.{by-run-agree}
use Rattle.std.proofs.Common.{arith, rules}
use Rattle.ascii.proofs.same_bytes.Goals as goal

pub loop-i-preserved : goal.loop-i-preserved
loop-i-preserved c =
    (omega arith, by-run-agree c.args.src.now c.args.other.now c.args.start c.args.from c.args.n (search rules) (search rules) c.loop-i.i 64 (omega arith) c.loop-i.invariant.1 (sym c.same_run.ensures ∙ c.if-not-same_run.false))

pub loop-i-2-preserved : goal.loop-i-2-preserved
loop-i-2-preserved c =
    (omega arith, by-run-agree c.args.src.now c.args.other.now c.args.start c.args.from c.args.n (search rules) (search rules) c.loop-i-2.i 8 (omega arith) c.loop-i-2.invariant.1 (sym c.same_eight-in-loop-i-2.ensures ∙ c.if-not-same_eight-3.false))
