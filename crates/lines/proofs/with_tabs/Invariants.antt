use Prim.Native.Nat.{◌-◌}
use Rattle.columns.proofs.MeasureLaws.{Counted}
use Rattle.lines.proofs.with_tabs.Given as goal

abbrev pub invariant-loop-i : goal.invariant-loop-i
invariant-loop-i l =
    Counted l.text l.start l.n l.initial.m l.i l.m

abbrev pub decreases-loop-i : goal.decreases-loop-i
decreases-loop-i l =
    l.n - l.i
