use Rattle.fmt_switch.specs.Of.{switch_of}
use Rattle.judge.proofs.TokenLaws.{Walking}
use Rattle.judge.proofs.compare.Given as goal

abbrev pub invariant-loop-i : goal.invariant-loop-i
invariant-loop-i l = Walking l.sheet l.c l.text l.at l.index l.i (switch_of l.switch)
