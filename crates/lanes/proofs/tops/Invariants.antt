use Prim.Native.Nat.{max}
use lib.Bits.{bit_and}
use lib.ListN.{get_or}
use Rattle.steps.specs.Steps.{Mapped}
use Rattle.lanes.proofs.tops.Given as goal

abbrev pub invariant-loop-k : goal.invariant-loop-k
invariant-loop-k l =
    Mapped l.k (λ k x. max (bit_and (get_or l.at k 0) l.mask) x) l.initial.to l.to
