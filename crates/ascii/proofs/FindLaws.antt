-- Laws of the first byte of a kind. Assumes nothing.
use mathlib.Core.Path.{◌≡◌, refl, sym, ap, ◌∙◌}
use mathlib.Core.Bool.{Bool, true, false, ◌||◌, not}
use mathlib.Core.List.{List, [], ◌∷◌, ◌++◌}
use Prim.Native.Nat.{ℕ, suc, ◌+◌, ◌≤◌, ◌<◌}
use native.Mathlib.Omega.{arith}
use lib.Dec.{eqb, ltb}
use lib.ListN.{length, take, drop, take-append-drop, length-append}
use borrow.Author.Tests.{eqb-true, ltb-false}
use Rattle.std.specs.Prelude.{Option, Some, None, cond, fold, unwrap_or}
use Rattle.std.specs.List.{position, position_or_len}
use Rattle.std.proofs.lemmas.List.Recursion.{is_position_or_len}
use Rattle.std.proofs.lemmas.List.Sums.{prefix_len-le-length}
use Rattle.ascii.specs.Part.{has, before}

pub has_both : (a b : ℕ) (v w : List ℕ) → has a b (v ++ w) ≡ (has a b v || has a b w)
has_both a b [] w = refl
has_both a b (y ∷ ys) w = go (eqb y a || eqb y b) (has_both a b ys w)
  where
    go : (c : Bool) → has a b (ys ++ w) ≡ (has a b ys || has a b w) → (c || has a b (ys ++ w)) ≡ ((c || has a b ys) || has a b w)
    go true f = refl
    go false f = f

abbrev taken : ℕ → ℕ → Bool → ℕ → Bool
taken a b all x = all || eqb x a || eqb x b

taken-true : (a b : ℕ) (v : List ℕ) → fold (taken a b) true v ≡ true
taken-true a b [] = refl
taken-true a b (x ∷ xs) = taken-true a b xs

-- the bytes taken together, by `|`
fold_has : (a b : ℕ) (v : List ℕ) → fold (λ all x. all || eqb x a || eqb x b) false v ≡ has a b v
fold_has a b [] = refl
fold_has a b (x ∷ xs) = go (eqb x a || eqb x b) (fold_has a b xs)
  where
    go : (c : Bool) → fold (taken a b) false xs ≡ has a b xs → fold (taken a b) c xs ≡ (c || has a b xs)
    go true f = taken-true a b xs
    go false f = f

pub by_fold : (a b : ℕ) (v : List ℕ) (r : Bool) → r ≡ fold (λ all x. all || eqb x a || eqb x b) false v → r ≡ has a b v
by_fold a b v r e = e ∙ fold_has a b v

-- ---- the bytes before it

before-none : (b : ℕ) (v w : List ℕ) → has b b v ≡ false → before b (v ++ w) ≡ length v + before b w
before-none b [] w h = omega arith
before-none b (x ∷ xs) w h = go (eqb x b) refl (before-none b xs w)
  where
    go : (c : Bool) → eqb x b ≡ c → (has b b xs ≡ false → before b (xs ++ w) ≡ length xs + before b w) → before b ((x ∷ xs) ++ w) ≡ length (x ∷ xs) + before b w
    go true e g = absurd (let f : true ≡ false = rw e at h in let z : ◌≡◌ {A = ℕ} 0 1 = cc in omega arith)
    go false e g =
        let f = g (rw e at h) in
        let k : before b ((x ∷ xs) ++ w) ≡ suc (before b (xs ++ w)) = rw e in
        omega arith

pub before-next : (b : ℕ) (v : List ℕ) → before b v < length v → drop (before b v) v ≡ b ∷ drop (before b v + 1) v
before-next b [] h = absurd (omega arith)
before-next b (x ∷ xs) h = go (eqb x b) refl (before-next b xs)
  where
    go : (c : Bool) → eqb x b ≡ c → (before b xs < length xs → drop (before b xs) xs ≡ b ∷ drop (before b xs + 1) xs)
        → drop (before b (x ∷ xs)) (x ∷ xs) ≡ b ∷ drop (before b (x ∷ xs) + 1) (x ∷ xs)
    go true e f = rw e (ap (λ (y : ℕ). y ∷ xs) (eqb-true x b e))
    go false e f =
        let k : before b (x ∷ xs) ≡ suc (before b xs) = rw e in
        let m : suc (before b xs) + 1 ≡ suc (before b xs + 1) = omega arith in
        rw (k, m) (f (omega arith))

one_more : (n : ℕ) → suc n ≡ 1 + n
one_more n = omega arith

first_place : (b : ℕ) (v : List ℕ) → before b v ≡ position_or_len (λ x. eqb x b) v
first_place b v = is_position_or_len (before b) (λ x. eqb x b) refl (λ x xs. rw one_more) v

-- the first b, or the length where there is none
pub first_or : (b : ℕ) (v : List ℕ) (o : Option ℕ) → o ≡ position (λ x. eqb x b) v → (r : ℕ) → r ≡ unwrap_or o (length v) → r ≡ before b v
first_or b v o e r f =
    let p = position_or_len (λ x. eqb x b) v in
    let q : p ≤ length v = prefix_len-le-length (λ x. not (eqb x b)) v in
    f ∙ rw (e, first_place b v) (go (ltb p (length v)) refl q)
  where
    go : (c : Bool) → ltb (position_or_len (λ x. eqb x b) v) (length v) ≡ c → position_or_len (λ x. eqb x b) v ≤ length v
        → unwrap_or (cond c (Some (position_or_len (λ x. eqb x b) v)) None) (length v) ≡ position_or_len (λ x. eqb x b) v
    go true k q = refl
    go false k q = let m = ltb-false (position_or_len (λ x. eqb x b) v) (length v) k in omega arith

-- whole is the part, left what is left of it after blocks without b
module _ (b n : ℕ) (whole left : List ℕ) (e : before b left + n ≡ before b whole + length left) where
  pub no_block : (k : ℕ) (block after : List ℕ) → block ≡ take k left → after ≡ drop k left → length after + k ≡ length left → (r : Bool) → r ≡ fold (λ all x. all || eqb x b || eqb x b) false block → r ≡ false
      → before b after + n ≡ before b whole + length after
  no_block k block after f g l r t z =
      let h : has b b block ≡ false = sym (by_fold b b block r t) ∙ z in
      let p : left ≡ block ++ after = rw (f, g) (sym (take-append-drop k left)) in
      let q = ap (before b) p ∙ before-none b block after h in
      let m : length block ≡ k = let u = ap length p ∙ length-append block after in omega arith in
      omega arith

pub ruleset finds = (first_or, no_block)
