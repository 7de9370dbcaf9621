use Rattle.std.proofs.Common.{arith}
use Rattle.matching.proofs.HighLaws.{no_block, found_here}
use Rattle.matching.proofs.first_high.Goals as goal

pub loop-block-preserved : goal.loop-block-preserved
loop-block-preserved c =
    let cut = c.in-Some.ensures.cases in
    (omega arith, no_block _ _ c.loop-block.invariant.0 c.loop-block.invariant.1 64 _ _ cut.0 cut.1 cut.2 _ c.taken.ensures c.if-taken-ge128.false)

pub returns : goal.returns
returns c = found_here _ _ c.loop-block.invariant.0 c.loop-block.invariant.1 _ c.high_from.ensures _ c.in_ok-at.was
