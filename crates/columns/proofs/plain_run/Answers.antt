use native.Mathlib.Omega.{arith}
use Rattle.columns.proofs.MeasureLaws.{by_more_plain}
use Rattle.columns.proofs.plain_run.Goals as goal

pub loop-k-preserved : goal.loop-k-preserved
loop-k-preserved c =
    by_more_plain c.args.text.now c.args.start _ _ 16 _ (omega arith) c.in_run.ensures c.if-in_run.false c.loop-k.invariant
