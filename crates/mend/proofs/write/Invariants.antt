use Rattle.mend.proofs.WriteLaws.{Writing}
use Rattle.mend.proofs.write.Given as goal

abbrev pub invariant-loop-i : goal.invariant-loop-i
invariant-loop-i l = Writing l.initial.sheet l.c l.i l.sheet
