use native.Mathlib.Omega.{arith}
use Rattle.longest.proofs.SameLaws.{by_more_same}
use Rattle.columns.proofs.tab_run.Goals as goal

pub loop-k-preserved : goal.loop-k-preserved
loop-k-preserved c =
    by_more_same c.args.text.now c.args.start 9 _ _ 16 _ (omega arith) c.all_are.ensures c.if-not-all_are.false c.loop-k.invariant
