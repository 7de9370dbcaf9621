use Rattle.std.proofs.Common.{◌+◌, get_or}
use Rattle.steps.specs.Steps.{Mapped}
use Rattle.steps.proofs.add.Given as goal

abbrev pub invariant-loop-k : goal.invariant-loop-k
invariant-loop-k l =
    Mapped l.k (λ k x. x + get_or l.n k 0) l.initial.to l.to
