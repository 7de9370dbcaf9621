use Rattle.ahead.proofs.Laws.{Reading}
use Rattle.ahead.proofs.read_on.Given as goal

abbrev pub invariant-loop-j : goal.invariant-loop-j
invariant-loop-j l =
    Reading l.sheet l.base l.n l.i l.o l.a l.j
