use Rattle.steps.specs.Steps.{code_of, Mapped}
use Rattle.steps.proofs.codes.Given as goal

abbrev pub invariant-loop-x : goal.invariant-loop-x
invariant-loop-x l =
    Mapped l.x-index (λ k x. code_of x) l.initial.t l.t
