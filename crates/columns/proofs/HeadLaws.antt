-- A text is its first line and what follows: the column before moves the first line alone. Assumes nothing.
use mathlib.Core.Path.{◌≡◌, refl, sym, ap, ◌∙◌}
use mathlib.Core.Bool.{Bool, true, false}
use mathlib.Core.List.{List, [], ◌∷◌}
use Prim.Native.Nat.{ℕ, suc, ◌+◌, ◌*◌, ◌/◌, ◌≤◌, max}
use native.Mathlib.Omega.{arith}
use lib.Dec.{eqb}
use lib.ListN.{length}
use Rattle.std.specs.Prelude.{if◌then◌else◌}
use Rattle.rules.specs.Text.{column_after}
use Rattle.ascii.specs.Part.{has}
use Rattle.columns.specs.declared.Measure.{Measure}
use Rattle.columns.specs.Measured.{measure}
use Rattle.columns.proofs.MeasureLaws.{column-most, measure-most}

-- the column where the first line ends: at its line feed, or at the end
abbrev pub head_at : ℕ → List ℕ → ℕ
head_at at [] = at
head_at at (x ∷ xs) = if eqb x 10 then at else head_at (column_after at x) xs

-- what follows the first line feed, measured
abbrev pub after : List ℕ → Measure
after [] = record { at = 0; best = 0 }
after (x ∷ xs) = if eqb x 10 then measure (record { at = 0; best = 0 }) xs else after xs

-- ---- the largest column so far moves no column

pub best_free : (a b : ℕ) (v : List ℕ) → ((measure (record { at = a; best = b }) v).at ≡ (measure (record { at = a; best = 0 }) v).at) × ((measure (record { at = a; best = b }) v).best ≡ max b (measure (record { at = a; best = 0 }) v).best)
best_free a b [] = (refl, omega arith)
best_free a b (x ∷ xs) =
    let k = column_after a x in
    let p = best_free k (max k b) xs in
    let q = best_free k (max k 0) xs in
    (p.0 ∙ sym q.0, omega (arith, p.1, q.1))

pub best_most : (a b : ℕ) (v : List ℕ) → (measure (record { at = a; best = b }) v).best ≤ max b (a + 8 * length v)
best_most a b [] = omega arith
best_most a b (x ∷ xs) =
    let c = column-most a x in
    let p = best_most (column_after a x) (max (column_after a x) b) xs in
    omega (arith, p, c)

-- ---- the first line

-- a byte that is no line feed
pub on_line : (a x : ℕ) → eqb x 10 ≡ false → suc a ≤ column_after a x
on_line a x e = rw e (go (eqb x 9))
  where
    go : (t : Bool) → suc a ≤ (if t then (a / 8 + 1) * 8 else suc a)
    go true = omega arith
    go false = omega arith

on-line-far : (q a x : ℕ) → eqb x 10 ≡ false → column_after (8 * q + a) x ≡ 8 * q + column_after a x
on-line-far q a x e = rw e (go (eqb x 9))
  where
    go : (t : Bool) → (if t then ((8 * q + a) / 8 + 1) * 8 else suc (8 * q + a)) ≡ 8 * q + (if t then (a / 8 + 1) * 8 else suc a)
    go true = omega arith
    go false = omega arith

pub head-above : (a : ℕ) (v : List ℕ) → a ≤ head_at a v
head-above a [] = omega arith
head-above a (x ∷ xs) = go (eqb x 10) refl (head-above (column_after a x) xs)
  where
    go : (f : Bool) → eqb x 10 ≡ f → column_after a x ≤ head_at (column_after a x) xs → a ≤ (if f then a else head_at (column_after a x) xs)
    go true e h = omega arith
    go false e h = let l = on_line a x e in omega arith

pub head-most : (a : ℕ) (v : List ℕ) → head_at a v ≤ a + 8 * length v
head-most a [] = omega arith
head-most a (x ∷ xs) = go (eqb x 10) (head-most (column_after a x) xs)
  where
    go : (f : Bool) → head_at (column_after a x) xs ≤ column_after a x + 8 * length xs → (if f then a else head_at (column_after a x) xs) ≤ a + 8 * suc (length xs)
    go true h = omega arith
    go false h = let c = column-most a x in omega arith

-- eights before it stay before it
pub head-far : (q a : ℕ) (v : List ℕ) → head_at (8 * q + a) v ≡ 8 * q + head_at a v
head-far q a [] = refl
head-far q a (x ∷ xs) = go (eqb x 10) refl (head-far q (column_after a x) xs)
  where
    go : (f : Bool) → eqb x 10 ≡ f → head_at (8 * q + column_after a x) xs ≡ 8 * q + head_at (column_after a x) xs
        → (if f then 8 * q + a else head_at (column_after (8 * q + a) x) xs) ≡ 8 * q + (if f then a else head_at (column_after a x) xs)
    go true e h = refl
    go false e h = ap (λ (k : ℕ). head_at k xs) (on-line-far q a x e) ∙ h

-- ---- the first line, and what follows

-- no column after a line feed is far
pub after-most : (v : List ℕ) → (after v).best ≤ 8 * length v
after-most [] = omega arith
after-most (x ∷ xs) = go (eqb x 10) (after-most xs)
  where
    go : (f : Bool) → (after xs).best ≤ 8 * length xs → (if f then measure (record { at = 0; best = 0 }) xs else after xs).best ≤ 8 * suc (length xs)
    go true h = let b = best_most 0 0 xs in omega arith
    go false h = omega arith

-- the column before moves the first line alone
pub record Split (a b : ℕ) (v : List ℕ) (m : Measure) : Type 0 where
  pub within : has 10 10 v ≡ false → m.at ≡ head_at a v
  pub past : has 10 10 v ≡ true → m.at ≡ (after v).at
  pub most : m.best ≡ max (max b (head_at a v)) (after v).best

pub split : (a b : ℕ) (v : List ℕ) → a ≤ b → Split a b v (measure (record { at = a; best = b }) v)
split a b [] h = record { within = λ e. refl; past = λ e. absurd (let y : ◌≡◌ {A = ℕ} 0 1 = cc in omega arith); most = omega arith }
split a b (x ∷ xs) h = go (eqb x 10) refl (split (column_after a x) (max (column_after a x) b) xs (omega arith))
  where
    go : (f : Bool) → eqb x 10 ≡ f → Split (column_after a x) (max (column_after a x) b) xs (measure (record { at = column_after a x; best = max (column_after a x) b }) xs)
        → Split a b (x ∷ xs) (measure (record { at = column_after a x; best = max (column_after a x) b }) xs)
    go true e s =
        let k : column_after a x ≡ 0 = rw e in
        let p = best_free 0 (max 0 b) xs in
        let o : head_at a (x ∷ xs) ≡ a = rw e in
        let q : after (x ∷ xs) ≡ measure (record { at = 0; best = 0 }) xs = rw e in
        record {
          within = λ z. absurd (let w : true ≡ false = rw e at z in let y : ◌≡◌ {A = ℕ} 0 1 = cc in omega arith);
          past = λ z. rw (q, k) p.0;
          most = rw (o, q, k) (p.1 ∙ (omega arith));
        }
    go false e s =
        let o : head_at a (x ∷ xs) ≡ head_at (column_after a x) xs = rw e in
        let q : after (x ∷ xs) ≡ after xs = rw e in
        let l = head-above (column_after a x) xs in
        record {
          within = λ z. rw o (s.within (rw e at z));
          past = λ z. rw q (s.past (rw e at z));
          most = rw (o, q) (s.most ∙ (omega arith));
        }

pub after-end : (w : List ℕ) → has 10 10 w ≡ true → (after w).at ≤ 8 * length w
after-end w z = let e = (split 0 0 w (omega arith)).past z in let n = (measure-most (record { at = 0; best = 0 }) w).narrow in omega (arith, n, e)
