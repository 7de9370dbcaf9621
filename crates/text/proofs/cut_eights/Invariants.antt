use mathlib.Core.Path.{◌≡◌}
use Prim.Native.Nat.{◌≤◌}
use lib.ListN.{length}
use Rattle.text.specs.Put.{Blanked}
use Rattle.text.proofs.cut_eights.Given as goal

abbrev pub invariant-loop-len : goal.invariant-loop-len
invariant-loop-len l =
    (l.floor ≤ l.len) × Blanked l.initial.text l.len l.full l.text × (length l.text ≡ length l.initial.text)

abbrev pub decreases-loop-len : goal.decreases-loop-len
decreases-loop-len l =
    l.len
