use Rattle.checks.proofs.Sound.{answer-sheeted}
use Rattle.convert.proofs.convert.Goals as goal

pub convert_sound-requires : goal.convert_sound-requires
convert_sound-requires c = answer-sheeted _ _ _ c.check.ensures c.in-Ok.is
