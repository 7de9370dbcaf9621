-- Laws of a reserved word: white joined in one pass, and what a part of it writes. Assumes nothing.
use mathlib.Core.Path.{◌≡◌, refl, sym, ap, ◌∙◌}
use mathlib.Core.Bool.{Bool, true, false, ◌&&◌, ◌||◌, beq, false≢true, and_assoc}
use mathlib.Core.List.{List, [], ◌∷◌, ◌++◌, append_assoc}
use Prim.Native.Nat.{ℕ, ◌+◌, ◌≤◌}
use native.Mathlib.Nat.{add-zero, add_assoc}
use native.Mathlib.Omega.{arith}
use lib.Dec.{eqb, ltb}
use lib.ListN.{length, length-append}
use borrow.Author.Tests.{lt-ltb, le-ltb}
use Rattle.rules.specs.declared.Case.{Case}
use Rattle.rules.specs.Text.{is_white, trim_start, blank_before, squeeze, equalize_whitespace, in_case}
use Rattle.words.specs.Words.{spaced, piece, gap_after, fresh, piece_at, all_white}
use Rattle.words.proofs.CaseLaws.{case_white}

-- ---- a byte

module _ (begun gap : Bool) (x : ℕ) (xs : List ℕ) where
  pub piece-white : is_white x ≡ true → piece begun gap (x ∷ xs) ≡ piece begun begun xs
  piece-white h = rw h

  pub piece-black : is_white x ≡ false → piece begun gap (x ∷ xs) ≡ spaced gap x ++ piece true false xs
  piece-black h = rw h

  gap-white : is_white x ≡ true → gap_after begun gap (x ∷ xs) ≡ gap_after begun begun xs
  gap-white h = rw h

  pub gap-black : is_white x ≡ false → gap_after begun gap (x ∷ xs) ≡ gap_after true false xs
  gap-black h = rw h

pub length-spaced : (gap : Bool) (x y : ℕ) → length (spaced gap x) ≡ length (spaced gap y)
length-spaced true x y = refl
length-spaced false x y = refl

-- ---- a whole word

blank-there : (y : ℕ) (ys : List ℕ) → eqb y 32 ≡ true → blank_before (y ∷ ys) ≡ y ∷ ys
blank-there y ys e = rw e

blank-new : (y : ℕ) (ys : List ℕ) → eqb y 32 ≡ false → blank_before (y ∷ ys) ≡ 32 ∷ y ∷ ys
blank-new y ys e = rw e

trim-blank : (v : List ℕ) → trim_start is_white (blank_before v) ≡ trim_start is_white v
trim-blank [] = refl
trim-blank (y ∷ ys) = go (eqb y 32) refl
  where
    go : (b : Bool) → eqb y 32 ≡ b → trim_start is_white (blank_before (y ∷ ys)) ≡ trim_start is_white (y ∷ ys)
    go true e = ap (trim_start is_white) (blank-there y ys e)
    go false e = ap (trim_start is_white) (blank-new y ys e)

blank-once : (v : List ℕ) → blank_before (blank_before v) ≡ blank_before v
blank-once [] = refl
blank-once (y ∷ ys) = go (eqb y 32) refl
  where
    go : (b : Bool) → eqb y 32 ≡ b → blank_before (blank_before (y ∷ ys)) ≡ blank_before (y ∷ ys)
    go true e = rw (e, e)
    go false e = rw e

no-blank : (a b : Bool) → a || b ≡ false → a ≡ false
no-blank true b h = h
no-blank false b h = refl

squeeze-white : (x : ℕ) (xs : List ℕ) → is_white x ≡ true → squeeze (x ∷ xs) ≡ blank_before (squeeze xs)
squeeze-white x xs h = rw h

squeeze-black : (x : ℕ) (xs : List ℕ) → is_white x ≡ false → squeeze (x ∷ xs) ≡ x ∷ squeeze xs
squeeze-black x xs h = rw h

-- what follows a byte, without and with a gap
squeezed : (v : List ℕ) → (squeeze v ≡ piece true false v) × (blank_before (squeeze v) ≡ piece true true v)
squeezed [] = (refl, refl)
squeezed (x ∷ xs) = go (is_white x) refl (squeezed xs)
  where
    go : (b : Bool) → is_white x ≡ b → (squeeze xs ≡ piece true false xs) × (blank_before (squeeze xs) ≡ piece true true xs)
        → (squeeze (x ∷ xs) ≡ piece true false (x ∷ xs)) × (blank_before (squeeze (x ∷ xs)) ≡ piece true true (x ∷ xs))
    go true e p =
        rw (squeeze-white x xs e, blank-once (squeeze xs), piece-white true false x xs e, piece-white true true x xs e)
        (p.1, p.1)
    go false e p =
        rw (squeeze-black x xs e, piece-black true false x xs e, piece-black true true x xs e, no-blank (eqb x 32) _ e)
        (ap (λ (v : List ℕ). x ∷ v) p.0, ap (λ (v : List ℕ). 32 ∷ x ∷ v) p.0)

pub joined : (v : List ℕ) → equalize_whitespace v ≡ piece false false v
joined [] = refl
joined (x ∷ xs) = go (is_white x) refl (joined xs)
  where
    go : (b : Bool) → is_white x ≡ b → equalize_whitespace xs ≡ piece false false xs → equalize_whitespace (x ∷ xs) ≡ piece false false (x ∷ xs)
    go true e p = ap (trim_start is_white) (squeeze-white x xs e) ∙ trim-blank (squeeze xs) ∙ p ∙ sym (piece-white false false x xs e)
    go false e p =
        ap (trim_start is_white) (squeeze-black x xs e) ∙ rw e (ap (λ (v : List ℕ). x ∷ v) (squeezed xs).0) ∙ sym (piece-black false false x xs e)

pub joined_at : (at : ℕ) (v : List ℕ) → equalize_whitespace v ≡ piece_at at (fresh at) v
joined_at at v = joined v ∙ rw (le-ltb at at (omega arith))

-- ---- one part after another: a byte was written where `at` is below `end`

some_spaced : (gap : Bool) (x : ℕ) → 1 ≤ length (spaced gap x)
some_spaced true x = omega arith
some_spaced false x = omega arith

pub then_begun : (at end : ℕ) (gap : Bool) (x : ℕ) → at ≤ end → ltb at (end + length (spaced gap x)) ≡ true
then_begun at end gap x h = let l = some_spaced gap x in lt-ltb at (end + length (spaced gap x)) (omega arith)

module _ (at : ℕ) (w : List ℕ) where
  -- the part w after v
  abbrev Then : ℕ → Bool → List ℕ → Type 0
  Then end gap v =
      (piece (ltb at end) gap (v ++ w) ≡ piece (ltb at end) gap v ++ piece (ltb at (end + length (piece (ltb at end) gap v))) (gap_after (ltb at end) gap v) w)
      × (gap_after (ltb at end) gap (v ++ w) ≡ gap_after (ltb at (end + length (piece (ltb at end) gap v))) (gap_after (ltb at end) gap v) w)

  pub piece-more : (end : ℕ) (gap : Bool) (v : List ℕ) → at ≤ end → Then end gap v
  piece-more end gap [] h = rw (add-zero end) (refl, refl)
  piece-more end gap (x ∷ xs) h = go (is_white x) refl (piece-more end (ltb at end) xs h) (piece-more (end + length (spaced gap x)) false xs (omega arith))
    where
      go : (b : Bool) → is_white x ≡ b → Then end (ltb at end) xs → Then (end + length (spaced gap x)) false xs → Then end gap (x ∷ xs)
      go true e p q =
          rw (piece-white (ltb at end) gap x xs e, piece-white (ltb at end) gap x (xs ++ w) e, gap-white (ltb at end) gap x xs e, gap-white (ltb at end) gap x (xs ++ w) e) p
      go false e p q =
          rw (piece-black (ltb at end) gap x xs e, piece-black (ltb at end) gap x (xs ++ w) e, gap-black (ltb at end) gap x xs e, gap-black (ltb at end) gap x (xs ++ w) e, length-append (spaced gap x) (piece true false xs), append_assoc, ← add_assoc)
          (let r = rw (then_begun at end gap x h) at q in
          (ap (λ (v : List ℕ). spaced gap x ++ v) r.0, r.1))

-- ---- parts that are white, or have none

both_true : (a b : Bool) → a && b ≡ true → (a ≡ true) × (b ≡ true)
both_true true b h = (refl, h)
both_true false b h = absurd (false≢true h)

beq_true : (a b : Bool) → beq a b ≡ true → a ≡ b
beq_true true true h = refl
beq_true true false h = sym h
beq_true false true h = h
beq_true false false h = refl

module _ (white : Bool) where
  first-white : (x : ℕ) (xs : List ℕ) → all_white white (x ∷ xs) ≡ true → (is_white x ≡ white) × (all_white white xs ≡ true)
  first-white x xs h =
      let e = both_true (beq (is_white x) white) (all_white white xs) h in
      (beq_true (is_white x) white e.0, e.1)

  pub all_more : (v w : List ℕ) → all_white white (v ++ w) ≡ (all_white white v && all_white white w)
  all_more [] w = refl
  all_more (x ∷ xs) w = rw (all_more xs w) (sym (and_assoc (beq (is_white x) white) (all_white white xs) (all_white white w)))

  pub all-cased : (k : Case) (v : List ℕ) → all_white white (in_case k v) ≡ all_white white v
  all-cased k [] = refl
  all-cased k (x ∷ xs) = rw (case_white k x, all-cased k xs)

pub white-piece : (begun gap : Bool) (v : List ℕ) → all_white true v ≡ true → piece begun gap v ≡ []
white-piece begun gap [] h = refl
white-piece begun gap (x ∷ xs) h = piece-white begun gap x xs (first-white true x xs h).0 ∙ white-piece begun begun xs (first-white true x xs h).1

white-gap-on : (begun : Bool) (v : List ℕ) → all_white true v ≡ true → gap_after begun begun v ≡ begun
white-gap-on begun [] h = refl
white-gap-on begun (x ∷ xs) h = gap-white begun begun x xs (first-white true x xs h).0 ∙ white-gap-on begun xs (first-white true x xs h).1

pub white-gap : (begun gap : Bool) (v : List ℕ) → all_white true v ≡ true → 1 ≤ length v → gap_after begun gap v ≡ begun
white-gap begun gap [] h l = absurd (let z : 1 ≤ 0 = l in omega arith)
white-gap begun gap (x ∷ xs) h l = gap-white begun gap x xs (first-white true x xs h).0 ∙ white-gap-on begun xs (first-white true x xs h).1

-- where no gap is before it
pub black-piece : (begun : Bool) (v : List ℕ) → all_white false v ≡ true → piece begun false v ≡ v
black-piece begun [] h = refl
black-piece begun (x ∷ xs) h =
    piece-black begun false x xs (first-white false x xs h).0 ∙ ap (λ (v : List ℕ). x ∷ v) (black-piece true xs (first-white false x xs h).1)

-- a gap only makes it longer
pub black-long : (begun gap : Bool) (v : List ℕ) → all_white false v ≡ true → length v ≤ length (piece begun gap v)
black-long begun gap [] h = omega arith
black-long begun gap (x ∷ xs) h =
    let e = ap length (piece-black begun gap x xs (first-white false x xs h).0) ∙ length-append (spaced gap x) (piece true false xs) in
    let f = ap length (black-piece true xs (first-white false x xs h).1) in
    let l = some_spaced gap x in
    omega arith

pub black-gap : (begun : Bool) (v : List ℕ) → all_white false v ≡ true → gap_after begun false v ≡ false
black-gap begun [] h = refl
black-gap begun (x ∷ xs) h = gap-black begun false x xs (first-white false x xs h).0 ∙ black-gap true xs (first-white false x xs h).1
