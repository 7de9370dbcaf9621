use Rattle.around.proofs.Neighbours.{Back}
use Rattle.around.proofs.previous_non_whitespace_token.Given as goal

abbrev pub invariant-loop-j : goal.invariant-loop-j
invariant-loop-j l = Back l.sheet l.base l.n l.i l.j
