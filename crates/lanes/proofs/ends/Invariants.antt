use lib.Dec.{ltb}
use lib.ListN.{get_or}
use Rattle.std.specs.Prelude.{if◌then◌else◌}
use Rattle.steps.specs.Steps.{Mapped}
use Rattle.lanes.proofs.ends.Given as goal

abbrev pub invariant-loop-k : goal.invariant-loop-k
invariant-loop-k l =
    Mapped l.k (λ k x. if ltb (get_or l.c k 0) 128 then get_or l.c k 0 else x) l.initial.at l.at
