use mathlib.Core.Path.{◌≡◌}
use Prim.Native.Nat.{◌-◌, ◌≤◌}
use lib.ListN.{take, drop}
use Rattle.rules.specs.Text.{is_white, trim_start}
use Rattle.report.proofs.white_start.Given as goal

abbrev pub invariant-loop-i : goal.invariant-loop-i
invariant-loop-i l =
    (l.i ≤ l.len) × (trim_start is_white (drop l.i (take l.len l.text)) ≡ trim_start is_white (take l.len l.text))

abbrev pub decreases-loop-i : goal.decreases-loop-i
decreases-loop-i l =
    l.len - l.i
