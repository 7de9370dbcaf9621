use mathlib.Core.Path.{◌≡◌}
use Prim.Native.Nat.{◌-◌, ◌≤◌}
use lib.ListN.{length}
use Rattle.rules.specs.Text.{in_case}
use Rattle.ascii.specs.Part.{part}
use Rattle.words.specs.Words.{Joins}
use Rattle.words.proofs.join_bytes.Given as goal

abbrev pub invariant-loop-i : goal.invariant-loop-i
invariant-loop-i l =
    (l.i ≤ l.n) × Joins l.at l.initial.text (record { end = l.initial.end; gap = l.initial.gap }) (in_case l.k (part l.src l.start l.i)) l.text (record { end = l.end; gap = l.gap }) × (length l.text ≡ length l.initial.text)

abbrev pub decreases-loop-i : goal.decreases-loop-i
decreases-loop-i l =
    l.n - l.i
