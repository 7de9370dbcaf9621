-- Laws of a word copied in a case. Assumes nothing.
use mathlib.Core.Path.{◌≡◌, refl, sym, ap, ◌∙◌}
use mathlib.Core.Bool.{Bool, true, false, ◌&&◌}
use mathlib.Core.List.{List, [], ◌∷◌, ◌++◌, map-append}
use Prim.Native.Nat.{ℕ, ◌+◌, ◌-◌, ◌≤◌, ◌<◌}
use native.Mathlib.Omega.{arith}
use lib.Dec.{leb}
use lib.ListN.{length, set, get_or, length-map}
use borrow.Author.Tests.{leb-true, le-leb, lt-leb, ne_eqb}
use Rattle.rules.specs.declared.Case.{Case}
use Rattle.rules.specs.declared.Case.TheVariants as case
use Rattle.std.specs.Prelude.{if◌then◌else◌}
use Rattle.rules.specs.Text.{is_white, byte_in_case, in_case}
use Rattle.ascii.specs.Part.{part}
use Rattle.ascii.proofs.PartLaws.{length_part, part-suc, part-more}
use Rattle.text.specs.Put.{put}
use Rattle.text.proofs.PutLaws.{put-snoc}

module _ (k : Case) (s : List ℕ) (start : ℕ) where
  pub length-cased : (n : ℕ) → start + n ≤ length s → length (in_case k (part s start n)) ≡ n
  length-cased n h = length-map (part s start n) (byte_in_case k) ∙ length_part s start n h

  pub cased-more : (i n : ℕ) → in_case k (part s start (i + n)) ≡ in_case k (part s start i) ++ in_case k (part s (start + i) n)
  cased-more i n = ap (in_case k) (part-more s start i n) ∙ map-append (byte_in_case k) (part s start i) (part s (start + i) n)

  cased-suc : (i : ℕ) → start + i < length s → in_case k (part s start (i + 1)) ≡ in_case k (part s start i) ++ (byte_in_case k (get_or s (start + i) 0) ∷ [])
  cased-suc i h = ap (in_case k) (part-suc s start i h) ∙ map-append (byte_in_case k) (part s start i) _

  module _ (d t : List ℕ) (at n i : ℕ) (h : (at + n ≤ length d) × (start + n ≤ length s)) where
    pub by-cased : (b : ℕ) → i < n → b ≡ byte_in_case k (get_or s (start + i) 0) → t ≡ put d at (in_case k (part s start i))
        → set t (at + i) b ≡ put d at (in_case k (part s start (i + 1)))
    by-cased b c f e =
        let p = h.0 in
        let q = h.1 in
        let l = length-cased i (omega arith) in
        let g = put-snoc d at (in_case k (part s start i)) b (omega arith) in
        cc (cased-suc i (omega arith))

    pub by-cased-all : i ≤ n → n ≤ i → t ≡ put d at (in_case k (part s start i)) → t ≡ put d at (in_case k (part s start n))
    by-cased-all c f e = let j : i ≡ n = omega arith in e ∙ ap (λ (m : ℕ). put d at (in_case k (part s start m))) j

-- ---- white

black : (x : ℕ) → 33 ≤ x → is_white x ≡ false
black x h = simp (ne_eqb x 32 (λ e. omega arith), le-leb 9 x (omega arith), lt-leb x 13 (omega arith))

-- a letter gives a letter
letter : (x y low : ℕ) (a b : Bool) → leb low x ≡ a → 33 ≤ low → (low ≤ x → 33 ≤ y) → is_white (if a && b then y else x) ≡ is_white x
letter x y low true true e l h = let g = leb-true low x e in black y (h g) ∙ sym (black x (omega arith))
letter x y low true false e l h = refl
letter x y low false b e l h = refl

-- a case makes no byte white, and leaves none white that was not
pub case_white : (k : Case) (x : ℕ) → is_white (byte_in_case k x) ≡ is_white x
case_white case.AsIs x = refl
case_white case.Upper x = letter x (x - 32) 97 (leb 97 x) (leb x 122) refl (omega arith) (λ h. omega arith)
case_white case.Lower x = letter x (x + 32) 65 (leb 65 x) (leb x 90) refl (omega arith) (λ h. omega arith)
