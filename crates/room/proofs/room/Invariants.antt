use Rattle.fmt_switch.specs.Of.{switch_of}
use Rattle.room.proofs.SumLaws.{Summing}
use Rattle.room.proofs.room.Given as goal

abbrev pub invariant-loop-i : goal.invariant-loop-i
invariant-loop-i l = Summing l.sheet l.c l.o l.sum l.index l.i (switch_of l.switch)
