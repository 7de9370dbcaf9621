use Rattle.words.proofs.CopyLaws.{by-gap, by-no-gap}
use Rattle.words.proofs.copy_spaced.Goals as goal

pub returns-then-gap : goal.returns-then-gap
returns-then-gap c =
    by-gap _ _ _ _ c.requires c.if-gap.true

pub returns : goal.returns
returns c =
    by-no-gap _ _ _ _ c.requires c.if-gap.false
