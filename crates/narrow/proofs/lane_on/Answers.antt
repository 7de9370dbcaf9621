use native.Mathlib.Omega.{arith}
use Rattle.narrow.proofs.NarrowLaws.{row_on}
use Rattle.narrow.proofs.lane_on.Goals as goal

pub loop-i-preserved : goal.loop-i-preserved
loop-i-preserved c =
    (row_on c.args.t.now c.args.k c.loop-i.i c.loop-i.lane _ _ _ _ _ (omega arith) c.on.ensures c.max.ensures c.max-in-loop-i.ensures c.feed.ensures.0 c.loop-i.invariant.0, omega (arith, c.loop-i.invariant.1, c.feed.ensures.1))
