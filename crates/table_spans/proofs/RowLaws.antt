-- A row that is written is there, and the others are as they were; and it is read as it was written. Assumes nothing.
use mathlib.Core.Bool.{Bool, true, false}
use mathlib.Core.Path.{◌≡◌, refl, ap, ◌∙◌}
use mathlib.Core.List.{List, [], ◌∷◌, ◌++◌}
use Prim.Native.Nat.{ℕ, ◌+◌, ◌-◌, ◌*◌, ◌/◌, ◌%◌, ◌≤◌, ◌<◌}
use native.Mathlib.Omega.{arith}
use lib.Dec.{eqb}
use lib.ListN.{length}
use borrow.Author.Tests.{eqb-true, eqb-false}
use Rattle.table.specs.Table.{word_of, with_words}
use Rattle.table.proofs.Words.{Put, put_is, more_put}
use Rattle.table_spans.specs.declared.Rest.{Rest}
use Rattle.table_spans.specs.declared.Rests.{Rests}
use Rattle.table_spans.specs.Back.{bit_of, Few, FewRests}
use Rattle.table_spans.specs.Rows.{counts_of, marks_of, row_words, Holds, with_row, rest_in, row_in}

pub above : (x y : ℕ) → x ≤ y → (y ≡ x → ⊥) → x + 1 ≤ y
above x y h n = by-eq (eqb y x) refl
  where
    by-eq : (b : Bool) → eqb y x ≡ b → x + 1 ≤ y
    by-eq true e = absurd (n (eqb-true y x e))
    by-eq false e = omega (arith, eqb-false y x e)

-- ---- a row, written

pub row_put : (t u v : List ℕ) (i : ℕ) (f : Rests) (a b c : ℕ) → u ≡ with_words t i 0 (f.inner.full ∷ a ∷ []) → v ≡ with_words u i 2 (f.outer.full ∷ b ∷ []) → a ≡ counts_of f.inner → b ≡ counts_of f.outer → c ≡ marks_of f
    → with_words v i 4 (f.total ∷ c ∷ []) ≡ with_row t i f
unfolding with_row
row_put t u v i f a b c eu ev ea eb ec =
    let x : List ℕ = f.inner.full ∷ counts_of f.inner ∷ [] in
    let y : List ℕ = f.outer.full ∷ counts_of f.outer ∷ [] in
    rw (ev, eu, ea, eb, ec)
    (ap (λ (w : List ℕ). with_words w i 4 (f.total ∷ marks_of f ∷ [])) (more_put t i 0 2 x y refl)
    ∙ more_put t i 0 4 (x ++ y) (f.total ∷ marks_of f ∷ []) refl)

module _ (t : List ℕ) (i : ℕ) (f : Rests) where
  put : Put t (with_row t i f) i 0 (row_words f)
  unfolding with_row
  put = put_is t (with_words t i 0 (row_words f)) i 0 (row_words f) refl

  pub row-holds : 6 * i + 6 ≤ length t → Holds (with_row t i f) i f
  row-holds r =
      let here = put.here (omega arith) in
      record {
        inner_full = here 0 0 refl (omega arith);
        inner_counts = here 1 1 refl (omega arith);
        outer_full = here 2 2 refl (omega arith);
        outer_counts = here 3 3 refl (omega arith);
        total = here 4 4 refl (omega arith);
        marks = here 5 5 refl (omega arith);
      }

  pub row_other : (k j : ℕ) → (k ≡ i → ⊥) → j < 6 → word_of (with_row t i f) k j ≡ word_of t k j
  row_other k j n h = put.others (6 * k + j) (λ l. let m = above i k (omega arith) n in omega arith)

  pub held-still : (k : ℕ) (g : Rests) → (k ≡ i → ⊥) → Holds t k g → Holds (with_row t i f) k g
  held-still k g n h =
      record {
        inner_full = row_other k 0 n (omega arith) ∙ h.inner_full;
        inner_counts = row_other k 1 n (omega arith) ∙ h.inner_counts;
        outer_full = row_other k 2 n (omega arith) ∙ h.outer_full;
        outer_counts = row_other k 3 n (omega arith) ∙ h.outer_counts;
        total = row_other k 4 n (omega arith) ∙ h.total;
        marks = row_other k 5 n (omega arith) ∙ h.marks;
      }

-- ---- a row, read

bit-small : (b : Bool) → bit_of b ≤ 1
bit-small true = omega arith
bit-small false = omega arith

bit-back : (b : Bool) → eqb (bit_of b) 1 ≡ b
bit-back true = refl
bit-back false = refl

rest_back : (r : Rest) (full counts m : ℕ) → Few r → full ≡ r.full → counts ≡ counts_of r → m ≡ bit_of r.first → rest_in full counts m ≡ r
rest_back r full counts m h p q e =
    let c = h.commas in
    let z = bit-small r.first in
    let x : counts / 65536 ≡ r.blocks = omega arith in
    let y : counts % 65536 - m ≡ r.commas = omega arith in
    let w : eqb m 1 ≡ r.first = ap (λ (k : ℕ). eqb k 1) e ∙ bit-back r.first in rw (x, y, w, p)

pub row_back : (t : List ℕ) (i : ℕ) (f : Rests) → FewRests f → Holds t i f → row_in t i ≡ f
unfolding row_in
row_back t i f s h =
    let a = bit-small f.inner.first in
    let b = bit-small f.outer.first in
    let c = s.close in
    let m = h.marks in
    let x : word_of t i 5 / 4096 % 2 ≡ bit_of f.inner.first = omega arith in
    let y : word_of t i 5 / 2048 % 2 ≡ bit_of f.outer.first = omega arith in
    let z : word_of t i 5 / 8192 ≡ f.others = omega arith in
    let w : word_of t i 5 % 2048 ≡ f.close = omega arith in
    let u = rest_back f.inner (word_of t i 0) (word_of t i 1) (word_of t i 5 / 4096 % 2) s.inner h.inner_full h.inner_counts x in
    let v = rest_back f.outer (word_of t i 2) (word_of t i 3) (word_of t i 5 / 2048 % 2) s.outer h.outer_full h.outer_counts y in
    by-fields _ _ u v h.total z w
  where
    by-fields : (g k : Rests) → g.inner ≡ k.inner → g.outer ≡ k.outer → g.total ≡ k.total → g.others ≡ k.others → g.close ≡ k.close → g ≡ k
    by-fields g k a b c d e = rw (a, b, c, d, e)
