use mathlib.Core.Path.{◌≡◌}
use mathlib.Core.Bool.{false}
use Prim.Native.Nat.{◌*◌}
use Rattle.ascii.specs.Part.{part, has}
use Rattle.columns.proofs.plain_run.Given as goal

abbrev pub invariant-loop-k : goal.invariant-loop-k
invariant-loop-k l =
    has 9 10 (part l.text l.start (16 * l.k)) ≡ false
