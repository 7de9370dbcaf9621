use mathlib.Core.Path.{◌≡◌}
use Prim.Native.Nat.{◌+◌, ◌-◌, ◌≤◌}
use lib.Dec.{ltb}
use lib.ListN.{length, drop}
use Rattle.rules.specs.Text.{equalize_whitespace}
use Rattle.ascii.specs.Part.{part}
use Rattle.words.specs.Words.{piece}
use Rattle.words.proofs.joined_len.Given as goal

abbrev pub invariant-loop-i : goal.invariant-loop-i
invariant-loop-i l =
    (l.i ≤ l.n) × (l.len + length (piece (ltb 0 l.len) l.gap (drop l.i (part l.src l.start l.n))) ≡ length (equalize_whitespace (part l.src l.start l.n)))

abbrev pub decreases-loop-i : goal.decreases-loop-i
decreases-loop-i l =
    l.n - l.i
