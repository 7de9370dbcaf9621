use mathlib.Core.Path.{◌≡◌}
use Prim.Native.Nat.{◌-◌, ◌≤◌}
use lib.ListN.{length}
use Rattle.rules.specs.Text.{in_case}
use Rattle.ascii.specs.Part.{part}
use Rattle.text.specs.Put.{put}
use Rattle.words.proofs.copy_cased.Given as goal

abbrev pub invariant-loop-i : goal.invariant-loop-i
invariant-loop-i l =
    (l.i ≤ l.n) × (l.text ≡ put l.initial.text l.at (in_case l.k (part l.src l.start l.i))) × (length l.text ≡ length l.initial.text)

abbrev pub decreases-loop-i : goal.decreases-loop-i
decreases-loop-i l =
    l.n - l.i
