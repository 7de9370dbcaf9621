-- There is one last line feed: two results that fit the promise of `past_last` are one. Assumes nothing.
use mathlib.Core.Path.{◌≡◌, refl, sym, ◌∙◌}
use mathlib.Core.Bool.{Bool, true, false, ◌||◌, false≢true}
use mathlib.Core.List.{List, [], ◌∷◌}
use Prim.Native.Nat.{ℕ, zero, suc, ◌+◌, ◌-◌, ◌≤◌, ◌<◌}
use native.Mathlib.Omega.{arith}
use lib.Dec.{eqb}
use lib.ListN.{length, drop, get_or}
use lib.Seq.{get_or-take, get_or-drop}
use borrow.Author.Tests.{eq-eqb}
use Rattle.ascii.specs.Part.{part, has}
use Rattle.ascii.proofs.PartLaws.{length_part}
use Rattle.longest.specs.Short.{Last}

fed-there : (v : List ℕ) (i : ℕ) → i < length v → get_or v i 0 ≡ 10 → has 10 10 v ≡ true
fed-there [] i h e = absurd (omega arith)
fed-there (x ∷ xs) zero h e = rw (eq-eqb x 10 e)
fed-there (x ∷ xs) (suc i) h e = right (eqb x 10) (fed-there xs i (omega arith) e)
  where
    right : (b : Bool) → has 10 10 xs ≡ true → ((b || b) || has 10 10 xs) ≡ true
    right true f = refl
    right false f = f

module _ (d : List ℕ) (start n : ℕ) (h : start + n ≤ length d) where
  no-later : (r s : ℕ) → Last d start n r → Last d start n s → r < s → ⊥
  no-later r s a b c =
      let w = b.within in
      let i = s - 1 - r in
      let e : start + r + i ≡ start + s - 1 = omega arith in
      let l = length_part d (start + r) (n - r) (omega arith) in
      let f : get_or (part d (start + r) (n - r)) i 0 ≡ 10 = get_or-take (n - r) (drop (start + r) d) i 0 (omega arith) ∙ get_or-drop (start + r) d i 0 ∙ rw e (b.fed (omega arith)) in
      false≢true (sym a.none ∙ fed-there (part d (start + r) (n - r)) i (omega arith) f)

  pub last_one : (r s : ℕ) → Last d start n r → Last d start n s → r ≡ s
  last_one r s a b =
      let p = no-later r s a b in
      let q = no-later s r b a in
      omega arith
