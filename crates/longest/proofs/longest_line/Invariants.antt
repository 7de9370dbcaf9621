use mathlib.Core.Path.{◌≡◌}
use Prim.Native.Nat.{◌+◌, ◌-◌, ◌≤◌}
use lib.ListN.{drop}
use Rattle.rules.specs.Columns.{longest_from}
use Rattle.ascii.specs.Part.{part}
use Rattle.longest.proofs.longest_line.Given as goal

abbrev pub invariant-loop-i : goal.invariant-loop-i
invariant-loop-i l =
    (l.i ≤ l.n + 1) × (longest_from 0 l.best (drop l.i (part l.text l.start l.n)) ≡ longest_from 0 l.known (part l.text l.start l.n))

abbrev pub decreases-loop-i : goal.decreases-loop-i
decreases-loop-i l =
    l.n - l.i
