use native.Mathlib.Omega.{arith}
use Rattle.narrow.proofs.NarrowLaws.{laned_on}
use Rattle.narrow.proofs.sixteen_on.Goals as goal

pub loop-k-preserved : goal.loop-k-preserved
loop-k-preserved c =
    laned_on c.args.t.now c.args.u.now c.args.c.now c.args.h.now c.args.g.now c.args.n.now c.loop-k.k c.loop-k.c c.loop-k.h c.loop-k.g c.loop-k.n _ _ (omega arith) (omega arith) (omega arith) (omega arith) c.loop-k.invariant c.lane_on-half.ensures.0 c.lane_on-r.ensures.0
