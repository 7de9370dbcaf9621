-- Reading a converted sheet. Assumes nothing.
use mathlib.Core.Bool.{Bool, true, false}
use mathlib.Core.Path.{◌≡◌, refl}
use mathlib.Core.List.{List, [], ◌∷◌}
use Prim.Native.Nat.{ℕ, zero, suc, ◌+◌, ◌<◌}
use native.Mathlib.Omega.{arith}
use lib.ListN.{length, get_or, set, length-set}
use lib.Seq.{get_or-set_same, get_or-set_other}
use borrow.Author.Tests.{eqb-true, eq-eqb, ne_eqb}
use Rattle.std.specs.Prelude.{if◌then◌else◌}
use Rattle.rules.specs.Words.{word_at, place_at, counts_of}
use Rattle.rules.specs.Answer.{is_withdrawn}
use Rattle.converted.specs.Converted.{converted}

-- two sheets that differ in byte 28 alone
pub record Alike (s t : List ℕ) : Type 0 where
  pub others : (i : ℕ) → (i ≡ 28 → ⊥) → get_or t i 0 ≡ get_or s i 0
  pub longs : length t ≡ length s

module _ (s t : List ℕ) (a : Alike s t) where
  -- a word that has not that byte
  pub word-before : (at : ℕ) → at < 25 → word_at t at ≡ word_at s at
  unfolding word_at
  word-before at l =
      let o = a.others in
      rw (o at (λ e. omega arith), o (at + 1) (λ e. omega arith), o (at + 2) (λ e. omega arith), o (at + 3) (λ e. omega arith))

  pub word_after : (at : ℕ) → 28 < at → word_at t at ≡ word_at s at
  unfolding word_at
  word_after at l =
      let o = a.others in
      rw (o at (λ e. omega arith), o (at + 1) (λ e. omega arith), o (at + 2) (λ e. omega arith), o (at + 3) (λ e. omega arith))

  pub place_after : (at : ℕ) → 28 < at → place_at t at ≡ place_at s at
  unfolding place_at
  place_after at l = rw (word_after at l, word_after (at + 4) (omega arith))

  pub same-counts : counts_of t ≡ counts_of s
  unfolding counts_of
  same-counts = rw (word-before 0 (omega arith), word-before 4 (omega arith), word-before 8 (omega arith), word-before 12 (omega arith))

-- a byte that is not 0 stands in the list
within : (l : List ℕ) (i : ℕ) → get_or l i 0 ≡ 1 → i < length l
within [] i e = absurd (omega arith)
within (x ∷ xs) zero e = omega arith
within (x ∷ xs) (suc i) e = omega (arith, within xs i e)

module _ (s : List ℕ) where
  -- ---- by the test

  pub is-withdrawn : is_withdrawn s ≡ true → converted s ≡ set s 28 2
  unfolding converted
  is-withdrawn e = rw e

  pub not-withdrawn : is_withdrawn s ≡ false → converted s ≡ s
  unfolding converted
  not-withdrawn e = rw e

  pub one-withdrawn : word_at s 28 ≡ 1 → is_withdrawn s ≡ true
  unfolding is_withdrawn
  one-withdrawn e = eq-eqb (word_at s 28) 1 e

  pub other-kept : (word_at s 28 ≡ 1 → ⊥) → is_withdrawn s ≡ false
  unfolding is_withdrawn
  other-kept n = ne_eqb (word_at s 28) 1 n

  pub word-one : is_withdrawn s ≡ true → word_at s 28 ≡ 1
  unfolding is_withdrawn
  word-one e = eqb-true (word_at s 28) 1 e

  -- ---- its bytes

  pub in-sheet : is_withdrawn s ≡ true → 28 < length s
  unfolding word_at
  in-sheet e = within s 28 (omega (arith, word-one e))

  pub set-alike : Alike s (set s 28 2)
  set-alike = record { others = λ i n. get_or-set_other s 28 i 2 0 n; longs = length-set s 28 2 }

  pub word_two : is_withdrawn s ≡ true → word_at (set s 28 2) 28 ≡ 2
  unfolding word_at
  word_two e =
      let o = set-alike.others in
      let two = get_or-set_same s 28 2 0 (in-sheet e) in
      omega (arith, word-one e, two, o 29 (λ z. omega arith), o 30 (λ z. omega arith), o 31 (λ z. omega arith))

  alike-by : (b : Bool) → is_withdrawn s ≡ b → Alike s (if b then set s 28 2 else s)
  alike-by true e = set-alike
  alike-by false e = record { others = λ i n. refl; longs = refl }

  pub alike : Alike s (converted s)
  unfolding converted
  alike = alike-by (is_withdrawn s) refl

  -- ---- word 7 is not 1 afterwards

  pub becomes-two : word_at s 28 ≡ 1 → word_at (converted s) 28 ≡ 2
  becomes-two e = let w = one-withdrawn e in rw (is-withdrawn w) (word_two w)

left_by : (s : List ℕ) (b : Bool) → is_withdrawn s ≡ b → is_withdrawn (if b then set s 28 2 else s) ≡ false
left_by s true e = other-kept (set s 28 2) (λ z. omega (arith, word_two s e))
left_by s false e = e

pub none_left : (s : List ℕ) → is_withdrawn (converted s) ≡ false
unfolding converted
none_left s = left_by s (is_withdrawn s) refl

pub not_one : (s : List ℕ) → word_at (converted s) 28 ≡ 1 → ⊥
not_one s e = let w = one-withdrawn (converted s) e in let n = none_left s in cc

pub twice : (s : List ℕ) → converted (converted s) ≡ converted s
twice s = not-withdrawn (converted s) (none_left s)
