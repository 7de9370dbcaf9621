-- Laws of a place's bytes, and of the records that a loop over a table reads in turn. Assumes nothing.
use mathlib.Core.Path.{◌≡◌}
use mathlib.Core.List.{List, [], ◌∷◌}
use Prim.Native.Nat.{ℕ, suc, ◌+◌, ◌-◌, ◌≤◌, ◌<◌}
use native.Mathlib.Numerals.{add-one}
use native.Mathlib.Omega.{arith}
use lib.ListN.{length, length-take, length-drop}
use Rattle.rules.specs.declared.Place.{Place}
use Rattle.rules.specs.Sheet.{body_part, list_of}
use Rattle.tokens.specs.Placed.{Inside}

pub length_part : (s : List ℕ) (base : ℕ) (p : Place) → Inside s base p → length (body_part s base p) ≡ p.len
unfolding body_part
length_part s base p h = let k = h.inside in simp (length-take, length-drop) (omega arith)

pub part_empty : (s : List ℕ) (base : ℕ) (p : Place) → p.len ≡ 0 → body_part s base p ≡ []
unfolding body_part
part_empty s base p h = rw h

-- of n records those from the i-th on: the i-th and those after it, or none
module _ {A : Type 0} (f : ℕ → A) (i n : ℕ) where
  pub list_next : i < n → list_of f i (n - i) ≡ f i ∷ list_of f (i + 1) (n - (i + 1))
  unfolding list_of
  list_next h = let e : n - i ≡ suc (n - (i + 1)) = omega arith in rw (e, add-one)

  pub list_end : n ≤ i → list_of f i (n - i) ≡ []
  unfolding list_of
  list_end h = let e : n - i ≡ 0 = omega arith in rw e
