use Rattle.matching.proofs.ReadLaws.{passed-one}
use Rattle.matching.proofs.skip_white.Goals as goal

pub loop-at-preserved : goal.loop-at-preserved
loop-at-preserved c = passed-one _ _ _ c.loop-at.invariant c.loop-at-test.true _ c.is_white.ensures c.if-not-is_white.false
