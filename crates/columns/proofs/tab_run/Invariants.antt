use mathlib.Core.Path.{◌≡◌}
use Prim.Native.Nat.{◌*◌}
use Rattle.ascii.specs.Part.{part}
use Rattle.columns.specs.Measured.{tabs}
use Rattle.columns.proofs.tab_run.Given as goal

abbrev pub invariant-loop-k : goal.invariant-loop-k
invariant-loop-k l =
    part l.text l.start (16 * l.k) ≡ tabs (16 * l.k)
