use Prim.Native.Nat.{◌+◌, ◌%◌}
use lib.ListN.{get_or}
use Rattle.steps.specs.Steps.{Mapped}
use Rattle.lanes.proofs.phases.Given as goal

abbrev pub invariant-loop-k : goal.invariant-loop-k
invariant-loop-k l =
    Mapped l.k (λ k x. get_or l.at k 0 % 8 + 120) l.initial.c l.c
