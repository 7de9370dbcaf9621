use Rattle.table_blocks.proofs.Chain.{span-past}
use Rattle.table_blocks.proofs.Steps.{walk-ends}
use Rattle.table_blocks.proofs.walk.Goals as goal

pub returns-then-e-t : goal.returns-then-e-t
returns-then-e-t c =
    span-past _ _ _ 0 c.if-e-t.true

pub returns-after-loop-walked : goal.returns-after-loop-walked
returns-after-loop-walked c =
    walk-ends _ _ _ _ _ c.loop-walked.invariant c.requires.e_le_n.0 c.loop-walked-test.false
