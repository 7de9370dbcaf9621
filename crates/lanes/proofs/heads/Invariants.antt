use Prim.Native.Nat.{◌+◌, ◌-◌, ◌%◌}
use lib.ListN.{get_or}
use Rattle.steps.specs.Steps.{Mapped}
use Rattle.lanes.proofs.heads.Given as goal

abbrev pub invariant-loop-k : goal.invariant-loop-k
invariant-loop-k l =
    Mapped l.k (λ k x. x - x % 8 + (get_or l.h k 0 - 120)) l.initial.at l.at
