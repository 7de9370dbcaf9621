use lib.ListN.{get_or}
use Rattle.steps.specs.Steps.{Mapped}
use Rattle.parts.specs.Parts.{above_of}
use Rattle.parts.proofs.raise.Given as goal

abbrev pub invariant-loop-k : goal.invariant-loop-k
invariant-loop-k l =
    Mapped l.k (λ k x. above_of (get_or l.c k 0)) l.initial.to l.to
