-- Two counters that say one number are one. Assumes nothing.
use mathlib.Core.Path.{◌≡◌, ap}
use Prim.Native.Nat.{ℕ}
use Rattle.lent.specs.declared.Counter.{Counter}

pub counter-one : (a b : Counter) → a.at ≡ b.at → a ≡ b
counter-one a b e = ap (λ (n : ℕ). record { at = n }) e
