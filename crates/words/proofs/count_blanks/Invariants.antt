use mathlib.Core.Path.{◌≡◌}
use Prim.Native.Nat.{◌+◌, ◌-◌, ◌≤◌}
use lib.ListN.{drop}
use Rattle.ascii.specs.Part.{part}
use Rattle.words.specs.Words.{blanks}
use Rattle.words.proofs.count_blanks.Given as goal

abbrev pub invariant-loop-i : goal.invariant-loop-i
invariant-loop-i l =
    (l.i ≤ l.n) × (l.i + blanks (drop l.i (part l.src l.start l.n)) ≡ blanks (part l.src l.start l.n))

abbrev pub decreases-loop-i : goal.decreases-loop-i
decreases-loop-i l =
    l.n - l.i
