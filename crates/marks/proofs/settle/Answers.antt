use Rattle.marks.proofs.SettleLaws.{settle_on}
use Rattle.marks.proofs.settle.Goals as goal

pub loop-k-preserved : goal.loop-k-preserved
loop-k-preserved c = settle_on _ _ _ _ _ _ _ c.loop-k.invariant _ _ _ c.loop-k-test.true c.reached.ensures c.ones.ensures.value c.max-reach.ensures c.ones.ensures.bound
