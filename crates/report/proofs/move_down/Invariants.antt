use mathlib.Core.Path.{◌≡◌}
use Prim.Native.Nat.{◌-◌, ◌≤◌}
use lib.ListN.{length}
use Rattle.ascii.specs.Part.{part}
use Rattle.text.specs.Put.{put}
use Rattle.report.proofs.move_down.Given as goal

abbrev pub invariant-loop-i : goal.invariant-loop-i
invariant-loop-i l =
    (l.i ≤ l.n) × (l.text ≡ put l.initial.text 0 (part l.initial.text l.from l.i)) × (length l.text ≡ length l.initial.text)

abbrev pub decreases-loop-i : goal.decreases-loop-i
decreases-loop-i l =
    l.n - l.i
