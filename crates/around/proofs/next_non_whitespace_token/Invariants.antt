use Rattle.around.proofs.Neighbours.{Ahead}
use Rattle.around.proofs.next_non_whitespace_token.Given as goal

abbrev pub invariant-loop-j : goal.invariant-loop-j
invariant-loop-j l = Ahead l.sheet l.base l.n l.i l.j
