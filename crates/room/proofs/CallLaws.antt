-- A sheet that the checks found sound.
use Rattle.checks.proofs.Sound.{answer-sheeted, sound-sheeted}

pub ruleset sound = (answer-sheeted, sound-sheeted)
