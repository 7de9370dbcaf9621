-- Building a packed word and taking it apart undo each other.
use mathlib.Core.Bool.{Bool, true, false}
use mathlib.Core.Path.{◌≡◌, refl}
use Prim.Native.Nat.{ℕ, zero, suc, ◌*◌, ◌<◌}
use native.Mathlib.Omega.{arith}
use lib.Dec.{eqb}
use borrow.Author.Tests.{eq-eqb, ne_eqb}
use Rattle.std.specs.Prelude.{if◌then◌else◌}
use Rattle.rules.specs.Words.{kind_bits, class_bits, create_bit, upper_bits, packed_of}

-- the parts of a word
pub record Parts (w kind class : ℕ) (create : Bool) : Type 0 where
  pub kind_part : kind_bits w ≡ kind
  pub class_part : class_bits w ≡ class
  pub create_part : eqb (create_bit w) 1 ≡ create
  pub upper_part : upper_bits w ≡ 0

-- what was built has the parts it was built from
pub built_apart : (kind class : ℕ) (create : Bool) → kind < 32 → class < 4 → Parts (packed_of kind class create) kind class create
built_apart kind class true hk hc =
    record { kind_part = omega arith; class_part = omega arith; create_part = eq-eqb (create_bit (packed_of kind class true)) 1 (omega arith); upper_part = omega arith }
built_apart kind class false hk hc =
    record { kind_part = omega arith; class_part = omega arith; create_part = ne_eqb (create_bit (packed_of kind class false)) 1 (λ e. omega arith); upper_part = omega arith }

-- a bit at its place
bit : (b : ℕ) → b < 2 → (if eqb b 1 then 128 else 0) ≡ b * 128
bit zero h = refl
bit (suc zero) h = refl
bit (suc (suc n)) h = absurd (omega arith)

-- the parts of a word build it again
pub apart-built : (w : ℕ) → upper_bits w ≡ 0 → packed_of (kind_bits w) (class_bits w) (eqb (create_bit w) 1) ≡ w
apart-built w h = rw (bit (create_bit w) (omega arith)) (omega arith)
