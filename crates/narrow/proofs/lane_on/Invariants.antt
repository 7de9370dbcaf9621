use mathlib.Core.Path.{◌≡◌}
use Prim.Native.Nat.{◌+◌, ◌-◌, ◌≤◌}
use Rattle.steps.specs.Steps.{down}
use Rattle.narrow.specs.Narrow.{lane_on}
use Rattle.narrow.proofs.lane_on.Given as goal

abbrev pub invariant-loop-i : goal.invariant-loop-i
invariant-loop-i l =
    (lane_on l.lane (down l.t l.k l.i (8 - l.i)) ≡ lane_on l.initial.lane (down l.t l.k 0 8)) × (l.lane.feeds ≤ l.initial.lane.feeds + l.i)
