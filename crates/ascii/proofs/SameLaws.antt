-- Laws of the comparison of two parts. Assumes nothing.
use mathlib.Core.Path.{◌≡◌, refl, sym, ap, ◌∙◌}
use mathlib.Core.Bool.{Bool, true, false, ◌&&◌}
use mathlib.Core.List.{List, [], ◌∷◌, map}
use Prim.Native.Nat.{ℕ, ◌+◌, ◌≤◌}
use native.Mathlib.Omega.{arith}
use lib.Dec.{eqb}
use lib.ListN.{length, length-map}
use Rattle.std.specs.Prelude.{fold}
use Rattle.std.specs.List.{list_all, zip}
use Rattle.rules.specs.Base.{same}
use Rattle.rules.specs.Text.{to_lower, is_lower}
use Rattle.ascii.specs.Part.{part}
use Rattle.ascii.proofs.PartLaws.{length_part}

and-false : (b : Bool) → b && false ≡ false
and-false true = refl
and-false false = refl

pub unlike : (v w : List ℕ) → (length v ≡ length w → ⊥) → same v w ≡ false
unlike [] [] h = absurd (h refl)
unlike [] (y ∷ ys) h = refl
unlike (x ∷ xs) [] h = refl
unlike (x ∷ xs) (y ∷ ys) h = rw (unlike xs ys (λ e. h (omega arith))) (and-false (eqb x y))

module _ (s o : List ℕ) (start n from m : ℕ) (h : (start + n ≤ length s) × (from + m ≤ length o)) where
  pub by_lengths : (n ≡ m → ⊥) → false ≡ same (part s start n) (part o from m)
  by_lengths z =
      let l = length_part s start n h.0 in
      let r = length_part o from m h.1 in
      sym (unlike (part s start n) (part o from m) (λ e. z (omega arith)))

-- ---- the bytes taken together, by `&`

abbrev taken : Bool → ℕ × ℕ → Bool
taken all p = all && eqb p.0 p.1

taken-false : (v : List (ℕ × ℕ)) → fold taken false v ≡ false
taken-false [] = refl
taken-false (p ∷ ps) = taken-false ps

fold_same : (v w : List ℕ) → length v ≡ length w → fold taken true (zip v w) ≡ same v w
fold_same [] [] h = refl
fold_same [] (y ∷ ys) h = absurd (omega arith)
fold_same (x ∷ xs) [] h = absurd (omega arith)
fold_same (x ∷ xs) (y ∷ ys) h = go (eqb x y) (fold_same xs ys (omega arith))
  where
    go : (c : Bool) → fold taken true (zip xs ys) ≡ same xs ys → fold taken c (zip xs ys) ≡ (c && same xs ys)
    go true f = f
    go false f = taken-false (zip xs ys)

pub by_pairs : (s o : List ℕ) (start from n : ℕ) → (start + n ≤ length s) × (from + n ≤ length o) → (r : Bool) → r ≡ fold (λ all (p : ℕ × ℕ). all && eqb p.0 p.1) true (zip (part s start n) (part o from n)) → r ≡ same (part s start n) (part o from n)
by_pairs s o start from n h r f =
    let l = length_part s start n h.0 in
    let k = length_part o from n h.1 in
    f ∙ fold_same (part s start n) (part o from n) (omega arith)

-- ---- in small letters

abbrev lower_at : ℕ × ℕ → Bool
lower_at p = eqb (to_lower p.0) p.1

lower-all : (v w : List ℕ) → length v ≡ length w → list_all lower_at (zip v w) ≡ is_lower v w
lower-all [] [] h = refl
lower-all [] (y ∷ ys) h = absurd (omega arith)
lower-all (x ∷ xs) [] h = absurd (omega arith)
lower-all (x ∷ xs) (y ∷ ys) h = ap (λ (b : Bool). lower_at (x, y) && b) (lower-all xs ys (omega arith))

module _ (s w : List ℕ) (start n : ℕ) (h : start + n ≤ length s) where
  pub by_lower : n ≡ length w → (r : Bool) → r ≡ list_all (λ (p : ℕ × ℕ). eqb (to_lower p.0) p.1) (zip (part s start n) w) → r ≡ is_lower (part s start n) w
  by_lower e r f = let l = length_part s start n h in f ∙ lower-all (part s start n) w (omega arith)

  pub by_no_lower : (n ≡ length w → ⊥) → false ≡ is_lower (part s start n) w
  by_no_lower z =
      let l = length_part s start n h in
      let k = length-map (part s start n) to_lower in
      sym (unlike (map to_lower (part s start n)) w (λ e. z (omega arith)))

pub ruleset lowers = (by_lower, by_no_lower)
