use Rattle.matching.proofs.ReadLaws.{Passed}
use Rattle.matching.proofs.skip_white.Given as goal

abbrev pub invariant-loop-at : goal.invariant-loop-at
invariant-loop-at l = Passed l.text l.from l.at
