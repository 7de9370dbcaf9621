-- What narrow lanes mean: where no line reaches 120 columns they are the true count, and else they say so. Assumes nothing.
use mathlib.Core.Path.{◌≡◌, refl, sym, ap, ◌∙◌}
use mathlib.Core.Bool.{Bool, true, false}
use mathlib.Core.List.{List, [], ◌∷◌, ◌++◌}
use Prim.Native.Nat.{ℕ, suc, ◌+◌, ◌*◌, ◌/◌, ◌%◌, ◌≤◌, ◌<◌, max}
use native.Mathlib.Omega.{arith}
use lib.Dec.{eqb, ltb}
use borrow.Author.Tests.{ltb-true, ltb-false}
use Rattle.std.specs.Prelude.{if◌then◌else◌}
use Rattle.rules.specs.Text.{column_after}
use Rattle.columns.specs.Measured.{count, measure}
use Rattle.columns.proofs.MeasureLaws.{column-most}
use Rattle.columns.proofs.HeadLaws.{best_free}
use Rattle.steps.specs.Steps.{code_of, on_by, feed_of, codes_of}
use Rattle.steps.proofs.StepLaws.{on-code, codes_both}
use Rattle.narrow.specs.declared.Lane.{Lane}
use Rattle.narrow.specs.Narrow.{lane_on, fresh}
use Rattle.narrow.proofs.NarrowLaws.{lane, to, next, lane-both}

-- ---- bytes after bytes

-- the line feeds move no column
feeds-free : (a b c e f : ℕ) (xs : List ℕ) → ((lane_on (lane a b c e) xs).at ≡ (lane_on (lane a b c f) xs).at) × ((lane_on (lane a b c e) xs).top ≡ (lane_on (lane a b c f) xs).top) × ((lane_on (lane a b c e) xs).inner ≡ (lane_on (lane a b c f) xs).inner)
feeds-free a b c e f [] = (refl, refl, refl)
feeds-free a b c e f (x ∷ xs) = feeds-free (on_by a x) (max (on_by a x) b) (max (on_by a x % 128) c) (e + feed_of x) (f + feed_of x) xs

-- the columns go on where they stood, whatever the line feeds are
pub narrow_both : (m : Lane) (v w : List ℕ)
    → ((lane_on (fresh (lane_on m (codes_of v)).at (lane_on m (codes_of v)).top (lane_on m (codes_of v)).inner) (codes_of w)).at ≡ (lane_on m (codes_of (v ++ w))).at)
    × ((lane_on (fresh (lane_on m (codes_of v)).at (lane_on m (codes_of v)).top (lane_on m (codes_of v)).inner) (codes_of w)).top ≡ (lane_on m (codes_of (v ++ w))).top)
    × ((lane_on (fresh (lane_on m (codes_of v)).at (lane_on m (codes_of v)).top (lane_on m (codes_of v)).inner) (codes_of w)).inner ≡ (lane_on m (codes_of (v ++ w))).inner)
narrow_both m v w =
    let r = lane_on m (codes_of v) in
    let p = feeds-free r.at r.top r.inner 0 r.feeds (codes_of w) in
    let q = sym (ap (lane_on m) (codes_both v w) ∙ lane-both m (codes_of v) (codes_of w)) in
    (p.0 ∙ ap (λ (n : Lane). n.at) q, p.1 ∙ ap (λ (n : Lane). n.top) q, p.2 ∙ ap (λ (n : Lane). n.inner) q)

-- ---- below 120 columns

-- a column goes on in the same way without the offset
offset-on : (x b : ℕ) → x % 128 < 120 → column_after x b % 128 ≡ column_after (x % 128) b
offset-on x b h = go (eqb b 10) (eqb b 9)
  where
    go : (f t : Bool) → (if f then 0 else if t then (x / 8 + 1) * 8 else suc x) % 128 ≡ (if f then 0 else if t then (x % 128 / 8 + 1) * 8 else suc (x % 128))
    go true t = refl
    go false true = omega arith
    go false false = omega arith

-- the largest column only grows
inner-grows : (m : Lane) (xs : List ℕ) → m.inner ≤ (lane_on m xs).inner
inner-grows m [] = omega arith
inner-grows m (x ∷ xs) = let p = inner-grows (next m x) xs in omega (arith, p)

best_grows : (a b : ℕ) (v : List ℕ) → b ≤ (measure (count a b) v).best
best_grows a b v = let p = (best_free a b v).1 in omega (arith, p)

-- lane m has become r over v: the true count if r is below 120 columns, and if it is not then neither is the true one
pub record Meant (m r : Lane) (v : List ℕ) : Type 0 where
  pub held : r.inner < 120 → (count r.at r.top ≡ measure (count m.at m.top) v) × (r.inner ≡ (measure (count (m.at % 128) m.inner) v).best)
  pub past : 120 ≤ r.inner → 120 ≤ (measure (count (m.at % 128) m.inner) v).best

-- a byte more, to column y
module _ (m r : Lane) (y x b : ℕ) (v : List ℕ) (ey : y ≡ column_after m.at b) (ez : y % 128 ≡ column_after (m.at % 128) b) where
  truly : (measure (count (y % 128) (max (y % 128) m.inner)) v).best ≡ (measure (count (m.at % 128) m.inner) (b ∷ v)).best
  truly = ap (λ (k : ℕ). (measure (count k (max k m.inner)) v).best) ez

  meant-on : Meant (to m y x) r v → Meant m r (b ∷ v)
  meant-on p =
      record {
        held = λ l. ((p.held l).0 ∙ ap (λ (k : ℕ). measure (count k (max k m.top)) v) ey, (p.held l).1 ∙ truly);
        past = λ l. let q = p.past l in omega (arith, q, truly);
      }

  -- the first column past 119
  meant-far : 120 ≤ max (y % 128) m.inner → max (y % 128) m.inner ≤ r.inner → Meant m r (b ∷ v)
  meant-far l k = record { held = λ n. absurd (omega arith); past = λ n. let p = best_grows (y % 128) (max (y % 128) m.inner) v in omega (arith, p, l, truly) }

pub meant : (m : Lane) (v : List ℕ) → m.at < 256 → m.at % 128 ≤ m.inner → m.inner < 120 → Meant m (lane_on m (codes_of v)) v
meant m [] h u l = record { held = λ n. (refl, refl); past = λ n. n }
meant m (b ∷ bs) h u l = go (on_by m.at (code_of b)) (code_of b) (on-code m.at b (omega arith)) (meant (next m (code_of b)) bs)
  where
    go : (y x : ℕ) → y ≡ column_after m.at b → (y < 256 → y % 128 ≤ max (y % 128) m.inner → max (y % 128) m.inner < 120 → Meant (to m y x) (lane_on (to m y x) (codes_of bs)) bs) → Meant m (lane_on (to m y x) (codes_of bs)) (b ∷ bs)
    go y x e p = by (ltb (max (y % 128) m.inner) 120) refl
      where
        o : y % 128 ≡ column_after (m.at % 128) b
        o = ap (λ (k : ℕ). k % 128) e ∙ offset-on m.at b (omega arith)

        by : (t : Bool) → ltb (max (y % 128) m.inner) 120 ≡ t → Meant m (lane_on (to m y x) (codes_of bs)) (b ∷ bs)
        by true z = let n = column-most m.at b in meant-on m (lane_on (to m y x) (codes_of bs)) y x b bs e o (p (omega (arith, e, n)) (omega arith) (ltb-true _ 120 z))
        by false z = meant-far m (lane_on (to m y x) (codes_of bs)) y x b bs e o (ltb-false _ 120 z) (inner-grows (to m y x) (codes_of bs))

-- ---- a part of a text, from the offset

pub narrow-held : (v : List ℕ) → (lane_on (fresh 128 128 0) (codes_of v)).inner < 120
    → (count (lane_on (fresh 128 128 0) (codes_of v)).at (lane_on (fresh 128 128 0) (codes_of v)).top ≡ measure (count 128 128) v) × ((lane_on (fresh 128 128 0) (codes_of v)).inner ≡ (measure (count 0 0) v).best)
narrow-held v h = (meant (fresh 128 128 0) v (omega arith) (omega arith) (omega arith)).held h

pub narrow-past : (v : List ℕ) → 120 ≤ (lane_on (fresh 128 128 0) (codes_of v)).inner → 120 ≤ (measure (count 0 0) v).best
narrow-past v h = (meant (fresh 128 128 0) v (omega arith) (omega arith) (omega arith)).past h
