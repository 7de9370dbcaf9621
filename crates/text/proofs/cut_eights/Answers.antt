use Rattle.text.proofs.EightLaws.{none-blanked, more-blanked, length-blanked}
use Rattle.std.proofs.Common.{rules}
use Rattle.text.proofs.cut_eights.Goals as goal

pub loop-len-init : goal.loop-len-init
loop-len-init c =
    search (rules, none-blanked)

pub loop-len-preserved : goal.loop-len-preserved
loop-len-preserved c =
    let b = more-blanked _ _ _ _ _ 8 _ c.requires.1 (search rules) c.loop-len.invariant.1 c.eight_blanks.ensures (c.if-not-eight_blanks.false) c.fill.ensures in
    (search rules, b, length-blanked _ _ _ _ c.requires.1 b)
