use Rattle.ascii.specs.Part.{part}
use Rattle.matching.proofs.ReadLaws.{Reading}
use Rattle.matching.proofs.reach.Given as goal

abbrev pub invariant-loop-b : goal.invariant-loop-b
invariant-loop-b l = Reading (part l.sheet l.start l.n) l.casing l.text l.from l.at l.b-index
