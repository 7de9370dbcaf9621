-- The bits of a word: of two words together, of a run, of a list after a store. Assumes nothing.
use mathlib.Core.Path.{◌≡◌, refl, sym, ap, ◌∙◌}
use mathlib.Core.Bool.{Bool, true, false, ◌&&◌, ◌||◌}
use mathlib.Core.List.{List}
use Prim.Native.Nat.{ℕ, suc, ◌+◌, ◌-◌, ◌*◌, ◌/◌, ◌%◌, ◌^◌, ◌≤◌, ◌<◌, min, max}
use native.Mathlib.Nat.{mod-lt, mod-eq_of_lt, div-eq_of_lt, lt_of_lt_of_le, mul_assoc}
use native.Mathlib.Omega.{arith}
use lib.Dec.{eqb, leb, ltb, lit<}
use lib.Arith.{digits_mod}
use lib.Pow.{pow_mono, pow-lt, pow-add, shl-shr, shr-shr, shl_lt, high, ones_split, ones_lt}
use lib.Bits.{bit_or, or_step, or_shr, shifted_even}
use lib.ListN.{length, set}
use lib.Seq.{get_or-set_same, get_or-set_other}
use borrow.Author.Tests.{leb-true, leb-false, ltb-true, ltb-false}
use Rattle.std.proofs.lemmas.Bool.Decides.{nat_tests}
use Rattle.marks.specs.Marks.{bit_at, bit_of}

-- ---- two words together

digit_or : (p q : ℕ) → p < 2 → q < 2 → eqb (max p q) 1 ≡ (eqb p 1 || eqb q 1)
digit_or p q hp hq = grind (arith, nat_tests)

pub bit-or : (a b i : ℕ) → bit_at (bit_or a b) i ≡ (bit_at a i || bit_at b i)
unfolding bit_at
bit-or a b i =
    let x = a / 2 ^ i in
    let y = b / 2 ^ i in
    let p : x % 2 < 2 = mod-lt x (lit< tt) in
    let q : y % 2 < 2 = mod-lt y (lit< tt) in
    let l : max (x % 2) (y % 2) < 2 = omega arith in
    let m : bit_or a b / 2 ^ i % 2 ≡ max (x % 2) (y % 2) = ap (λ (z : ℕ). z % 2) (or_shr a b i ∙ or_step x y) ∙ digits_mod (bit_or (x / 2) (y / 2)) l in
    rw m (digit_or (x % 2) (y % 2) p q)

-- ---- a run: n bits from bit `from` on

module _ (from n : ℕ) where
  pub run_small : from + n ≤ 32 → (2 ^ n - 1) * 2 ^ from < 2 ^ 32
  run_small h = let e : n + from ≤ 32 = omega arith in lt_of_lt_of_le (shl_lt n from (ones_lt n)) (pow_mono e)

  -- as it is built by shifts
  pub power_fits : from + n ≤ 32 → 1 * 2 ^ n % 2 ^ 64 ≡ 2 ^ n
  power_fits h = let e : 1 * 2 ^ n ≡ 2 ^ n = omega arith in let l : n < 64 = omega arith in rw e (mod-eq_of_lt (pow-lt l))

  pub shift_fits : from + n ≤ 32 → (1 * 2 ^ n % 2 ^ 64 - 1) * 2 ^ from % 2 ^ 64 ≡ (2 ^ n - 1) * 2 ^ from
  shift_fits h = let k = run_small h in rw (power_fits h) (mod-eq_of_lt (omega arith))

  module _ (i : ℕ) where
    bit_below : i < from → bit_at ((2 ^ n - 1) * 2 ^ from) i ≡ false
    unfolding bit_at
    bit_below h =
        let d = from - i - 1 in
        let e : from ≡ suc d + i = omega arith in
        let a = 2 ^ n - 1 in
        let m : a * 2 ^ from / 2 ^ i % 2 ≡ 0
        = ap (λ (f : ℕ). a * 2 ^ f / 2 ^ i % 2) e ∙ ap (λ (x : ℕ). a * x / 2 ^ i % 2) (pow-add 2 (suc d) i)
        ∙ ap (λ (x : ℕ). x / 2 ^ i % 2) (sym (mul_assoc a (2 ^ suc d) (2 ^ i))) ∙ ap (λ (x : ℕ). x % 2) (shl-shr (a * 2 ^ suc d) i) ∙ shifted_even a d in
        rw m

    from_on : from ≤ i → (2 ^ n - 1) * 2 ^ from / 2 ^ i ≡ (2 ^ n - 1) / 2 ^ (i - from)
    from_on h =
        let e : i ≡ from + (i - from) = omega arith in
        ap (λ (k : ℕ). (2 ^ n - 1) * 2 ^ from / 2 ^ k) e ∙ sym (shr-shr ((2 ^ n - 1) * 2 ^ from) from (i - from)) ∙ ap (λ (x : ℕ). x / 2 ^ (i - from)) (shl-shr (2 ^ n - 1) from)

    bit-inside : from ≤ i → i < from + n → bit_at ((2 ^ n - 1) * 2 ^ from) i ≡ true
    unfolding bit_at
    bit-inside h l =
        let d = i - from in
        let e = n - d - 1 in
        let s : n ≡ e + 1 + d = omega arith in
        let p : (2 ^ n - 1) / 2 ^ d ≡ 2 ^ (e + 1) - 1 = ap (λ (k : ℕ). (2 ^ k - 1) / 2 ^ d) s ∙ ap (λ (x : ℕ). x / 2 ^ d) (ones_split (e + 1) d) ∙ high (2 ^ (e + 1) - 1) d (ones_lt d) in
        let o : (2 ^ (e + 1) - 1) % 2 ≡ 1 = ap (λ (x : ℕ). x % 2) (ones_split e 1) ∙ digits_mod (2 ^ e - 1) (lit< tt) in
        rw (from_on h, p, o)

    bit_past : from ≤ i → from + n ≤ i → bit_at ((2 ^ n - 1) * 2 ^ from) i ≡ false
    unfolding bit_at
    bit_past h l =
        let m : n ≤ i - from = omega arith in
        let z : (2 ^ n - 1) / 2 ^ (i - from) ≡ 0 = div-eq_of_lt (lt_of_lt_of_le (ones_lt n) (pow_mono m)) in
        rw (from_on h, z)

    pub run-bit : bit_at ((2 ^ n - 1) * 2 ^ from) i ≡ (leb from i && ltb i (from + n))
    run-bit = by_tests (leb from i) (ltb i (from + n)) refl refl
      where
        by_tests : (x y : Bool) → leb from i ≡ x → ltb i (from + n) ≡ y → bit_at ((2 ^ n - 1) * 2 ^ from) i ≡ (x && y)
        by_tests false y p q = bit_below (leb-false from i p)
        by_tests true true p q = bit-inside (leb-true from i p) (ltb-true i (from + n) q)
        by_tests true false p q = bit_past (leb-true from i p) (ltb-false i (from + n) q)

-- the first n bits; those that stand for numbers below `reach`
reach-test : (reach first n i : ℕ) → n ≡ min (reach - first) 32 → i < 32 → (leb 0 i && ltb i (0 + n)) ≡ ltb (first + i) reach
reach-test reach first n i e h = grind (arith, nat_tests)

pub reach_bits : (reach first n r : ℕ) → n ≡ min (reach - first) 32 → r ≡ (2 ^ n - 1) * 2 ^ 0 → (i : ℕ) → i < 32 → bit_at r i ≡ ltb (first + i) reach
reach_bits reach first n r e f i h = ap (λ (x : ℕ). bit_at x i) f ∙ run-bit 0 n i ∙ reach-test reach first n i e h

-- ---- a list of words after a store

module _ (bits : List ℕ) (k v j : ℕ) where
  pub bit-set-same : k < length bits → j / 32 ≡ k → bit_of (set bits k v) j ≡ bit_at v (j % 32)
  bit-set-same l e = rw (e, get_or-set_same bits k v 0 l)

  pub bit-set-other : (j / 32 ≡ k → ⊥) → bit_of (set bits k v) j ≡ bit_of bits j
  bit-set-other n = rw (get_or-set_other bits k (j / 32) v 0 n)
