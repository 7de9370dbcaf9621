use mathlib.Core.Path.{◌≡◌}
use Prim.Native.Nat.{◌+◌, ◌-◌, ◌≤◌}
use lib.ListN.{take}
use Rattle.rules.specs.Text.{line_feeds}
use Rattle.columns.proofs.MeasureLaws.{Counted}
use Rattle.lines.proofs.lines_width.Given as goal

abbrev pub invariant-loop-i : goal.invariant-loop-i
invariant-loop-i l =
    Counted l.text 0 l.len (record { at = 0; best = 0 }) l.i l.m × (l.lines ≤ l.i + 1) × (l.lines ≡ line_feeds (take l.i l.text) + 1)

abbrev pub decreases-loop-i : goal.decreases-loop-i
decreases-loop-i l =
    l.len - l.i
