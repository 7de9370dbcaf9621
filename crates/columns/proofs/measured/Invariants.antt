use mathlib.Core.Path.{◌≡◌}
use Prim.Native.Nat.{◌+◌, ◌*◌, ◌≤◌}
use lib.ListN.{drop}
use Rattle.ascii.specs.Part.{part}
use Rattle.columns.specs.Measured.{measure}
use Rattle.columns.proofs.measured.Given as goal

abbrev pub invariant-loop-i : goal.invariant-loop-i
invariant-loop-i l =
    (l.at ≤ l.initial.at + 8 * l.i)
    × (measure (record { at = l.at; best = l.best }) (drop l.i (part l.text l.start l.n)) ≡ measure (record { at = l.initial.at; best = l.initial.best }) (part l.text l.start l.n))
