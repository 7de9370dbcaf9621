-- The parts that the code compares are the places' bytes. Assumes nothing.
use mathlib.Core.Path.{◌≡◌, refl, sym, ap, ◌∙◌}
use mathlib.Core.Bool.{Bool, true, false}
use mathlib.Core.List.{List, [], ◌∷◌}
use Prim.Native.Nat.{ℕ, ◌+◌}
use lib.Dec.{eqb}
use lib.ListN.{take, drop}
use borrow.Author.Tests.{eq-eqb, eqb-true, eqb-false}
use Rattle.rules.specs.declared.Place.{Place}
use Rattle.rules.specs.Base.{same}
use Rattle.rules.specs.Sheet.{body_part}
use Rattle.tokens.specs.Placed.{Inside}
use Rattle.ascii.proofs.SameLaws.{unlike}
use Rattle.places.proofs.Laws.{length_part}

-- ---- two places with one start

same_self : (v : List ℕ) → same v v ≡ true
same_self [] = refl
same_self (x ∷ xs) = rw (eq-eqb x x refl) (same_self xs)

one_place : (s : List ℕ) (base : ℕ) (p q : Place) → p.start ≡ q.start → p.len ≡ q.len → body_part s base p ≡ body_part s base q
unfolding body_part
one_place s base p q e f = rw (e, f)

module _ (s : List ℕ) (base : ℕ) (p q : Place) where
  pub parts : same (body_part s base p) (body_part s base q) ≡ same (take p.len (drop (base + p.start) s)) (take q.len (drop (base + q.start) s))
  unfolding body_part
  parts = refl

  pub other_length : Inside s base p → Inside s base q → (p.len ≡ q.len → ⊥) → false ≡ same (body_part s base p) (body_part s base q)
  other_length hp hq z = sym (unlike (body_part s base p) (body_part s base q) (λ g. z (sym (length_part s base p hp) ∙ g ∙ length_part s base q hq)))

  pub one_start : Inside s base p → Inside s base q → p.start ≡ q.start → same (body_part s base p) (body_part s base q) ≡ eqb p.len q.len
  one_start hp hq e = go (eqb p.len q.len) refl
    where
      go : (b : Bool) → eqb p.len q.len ≡ b → same (body_part s base p) (body_part s base q) ≡ b
      go true f = ap (λ (v : List ℕ). same v (body_part s base q)) (one_place s base p q e (eqb-true p.len q.len f)) ∙ same_self (body_part s base q)
      go false f = sym (other_length hp hq (eqb-false p.len q.len f))
