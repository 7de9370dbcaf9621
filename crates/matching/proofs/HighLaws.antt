-- Laws of the bytes of 128 or more. Assumes nothing.
use Rattle.std.proofs.Common.{◌≡◌, refl, sym, ◌∙◌, Bool, true, false, ◌||◌, Option, Some, None, List, [], ◌∷◌, ◌++◌, ℕ, suc, ◌+◌, ◌-◌, ◌≤◌, ◌<◌, leb, ltb, length, take, drop, fold, position, cond, not, ap, add-zero, arith}
use Rattle.std.proofs.Math.Bool.{or-false, or_assoc}
use Rattle.std.proofs.lemmas.Bool.{leb-true, leb-false, le-leb, lt-leb, lt-ltb}
use Rattle.std.proofs.lemmas.Bool.Decides.{nat_tests}
use Rattle.std.proofs.lemmas.List.{take-append-drop, length-append}
use Rattle.std.specs.List.{position_or_len}
use Rattle.std.specs.Option.{option_map}
use Rattle.std.specs.Prelude.{if◌then◌else◌}
use lib.Bits.{bit_or, or_add_and, or_lt, and_le_l, and_le_r}
use Rattle.rules.specs.Base.{any_of, find}

-- bytes taken together by `|`
or_high : (a x : ℕ) → leb 128 (bit_or a x) ≡ (leb 128 a || leb 128 x)
or_high a x = go (leb 128 a) refl (leb 128 x) refl
  where
    go : (p : Bool) → leb 128 a ≡ p → (q : Bool) → leb 128 x ≡ q → leb 128 (bit_or a x) ≡ (p || q)
    go true e q f = le-leb 128 (bit_or a x) (omega (arith, leb-true 128 a e, or_add_and a x, and_le_r a x))
    go false e true f = le-leb 128 (bit_or a x) (omega (arith, leb-true 128 x f, or_add_and a x, and_le_l a x))
    go false e false f = lt-leb 128 (bit_or a x) (or_lt 7 a x (leb-false 128 a e) (leb-false 128 x f))

high-taken : (v : List ℕ) (all : ℕ) → leb 128 (fold bit_or all v) ≡ (leb 128 all || any_of (leb 128) v)
high-taken [] all = sym (or-false (leb 128 all))
high-taken (x ∷ v) all = high-taken v (bit_or all x) ∙ rw (or_high all x) (or_assoc (leb 128 all) (leb 128 x) (any_of (leb 128) v))

low-past : (v w : List ℕ) (n : ℕ) → any_of (leb 128) v ≡ false → find (leb 128) (n + length v) w ≡ find (leb 128) n (v ++ w)
low-past [] w n e = rw add-zero
low-past (x ∷ v) w n e = go (leb 128 x) e (low-past v w (suc n))
  where
    go : (b : Bool) → (b || any_of (leb 128) v) ≡ false → (any_of (leb 128) v ≡ false → find (leb 128) (suc n + length v) w ≡ find (leb 128) (suc n) (v ++ w))
        → find (leb 128) (n + suc (length v)) w ≡ (if b then Some n else find (leb 128) (suc n) (v ++ w))
    go true k ih = cc
    go false k ih = let m : n + suc (length v) ≡ suc n + length v = omega arith in rw m (ih k)

test-more : (p l : ℕ) → ltb (1 + p) (suc l) ≡ ltb p l
test-more p l = grind (arith, nat_tests)

one-more : (n p : ℕ) (c : Bool) → option_map (λ i. suc n + i) (cond c (Some p) None) ≡ option_map (λ i. n + i) (cond c (Some (1 + p)) None)
one-more n p true = ap (λ (m : ℕ). Some m) (omega arith)
one-more n p false = refl

find-place : (v : List ℕ) (n : ℕ) → find (leb 128) n v ≡ option_map (λ i. n + i) (position (leb 128) v)
find-place [] n = refl
find-place (x ∷ v) n = go (leb 128 x) (find-place v (suc n))
  where
    go : (b : Bool) → find (leb 128) (suc n) v ≡ option_map (λ i. suc n + i) (position (leb 128) v)
        → (if b then Some n else find (leb 128) (suc n) v) ≡ option_map (λ i. n + i) (cond (ltb (cond (not b) (1 + position_or_len (leb 128) v) 0) (suc (length v))) (Some (cond (not b) (1 + position_or_len (leb 128) v) 0)) None)
    go true ih = rw (lt-ltb 0 (suc (length v)) (omega arith), add-zero)
    go false ih = ih ∙ rw test-more (one-more n (position_or_len (leb 128) v) (ltb (position_or_len (leb 128) v) (length v)))

-- left is what is left of whole after blocks without such a byte
module _ (whole left : List ℕ) (f : length left ≤ length whole) (e : find (leb 128) (length whole - length left) left ≡ find (leb 128) 0 whole) where
  pub no_block : (k : ℕ) (block after : List ℕ) → block ≡ take k left → after ≡ drop k left → length after + k ≡ length left → (t : ℕ) → t ≡ fold bit_or 0 block → t < 128
      → find (leb 128) (length whole - length after) after ≡ find (leb 128) 0 whole
  no_block k block after a d l t g h =
      let p : left ≡ block ++ after = rw (a, d) (sym (take-append-drop k left)) in
      let m : length block + length after ≡ length left = sym (ap length p ∙ length-append block after) in
      let n : length whole - length after ≡ length whole - length left + length block = omega arith in
      let low : any_of (leb 128) block ≡ false = sym (high-taken block 0) ∙ lt-leb 128 (fold bit_or 0 block) (rw g at h) in
      rw n (low-past block after (length whole - length left) low ∙ ap (find (leb 128) (length whole - length left)) (sym p) ∙ e)

  pub found_here : (o : Option ℕ) → o ≡ position (leb 128) left → (i : ℕ) → o ≡ Some i → Some (length whole - length left + i) ≡ find (leb 128) 0 whole
  found_here o g i h = sym (sym e ∙ find-place left (length whole - length left) ∙ rw (← g, h))

  pub found_none : (o : Option ℕ) → o ≡ position (leb 128) left → o ≡ None → None ≡ find (leb 128) 0 whole
  found_none o g h = sym (sym e ∙ find-place left (length whole - length left) ∙ rw (← g, h))

pub ruleset highs = (no_block, found_here, found_none)
