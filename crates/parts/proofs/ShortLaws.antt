-- Laws of sixteen parts told by narrow lanes: either all lines are short, or a line of 120 columns is there. Assumes nothing.
use mathlib.Core.Path.{◌≡◌, refl, sym, ap, ◌∙◌}
use mathlib.Core.Bool.{Bool, true, false, false≢true}
use mathlib.Core.List.{List, ◌++◌}
use Prim.Native.Nat.{ℕ, ◌+◌, ◌-◌, ◌*◌, ◌%◌, ◌≤◌, ◌<◌, max}
use native.Mathlib.Omega.{arith}
use lib.Dec.{ltb}
use lib.ListN.{length, get_or}
use borrow.Author.Tests.{lt-ltb, le-ltb}
use Rattle.rules.specs.Text.{line_feeds}
use Rattle.rules.proofs.Short.{feeds-few}
use Rattle.ascii.specs.Part.{part, has}
use Rattle.ascii.proofs.PartLaws.{length_part, part-more}
use Rattle.columns.specs.declared.Measure.{Measure}
use Rattle.columns.specs.Measured.{count, measure}
use Rattle.columns.proofs.HeadLaws.{head_at, after, split, head-far, best_free}
use Rattle.columns.proofs.MeasureLaws.{measure-both, measure-most}
use Rattle.steps.specs.Steps.{codes_of, Below}
use Rattle.steps.proofs.ArrayLaws.{all-below}
use Rattle.narrow.specs.declared.Lane.{Lane}
use Rattle.narrow.specs.Narrow.{lane_on, fresh, lane_at, NarrowOn}
use Rattle.narrow.proofs.MeaningLaws.{narrow_both, narrow-held, narrow-past}
use Rattle.std.specs.Prelude.{Option, None, Some, MatchOption, is_some}
use Rattle.parts.specs.declared.Counted.{Counted}
use Rattle.parts.specs.Parts.{Told, ToldAll, counted_of, above_of}
use Rattle.parts.proofs.JoinLaws.{same-measure, told-known, head-mono, past-part, feeds-both}

-- ---- the loop: j bytes of each of sixteen parts

-- a lane from the start of a part
abbrev lane : List ℕ → Lane
lane v = lane_on (fresh 128 128 0) (codes_of v)

pub record Narrows (d : List ℕ) (start far j : ℕ) (c h g feeds : List ℕ) : Type 0 where
  pub within : j ≤ far
  pub sixteens : j % 16 ≡ 0
  pub column : (k : ℕ) → k < 16 → get_or c k 0 ≡ (lane (part d (start + k * far) j)).at
  pub largest : (k : ℕ) → k < 16 → get_or h k 0 ≡ (lane (part d (start + k * far) j)).top
  pub inner : (k : ℕ) → k < 16 → get_or g k 0 ≡ (lane (part d (start + k * far) j)).inner
  pub fed : (k : ℕ) → k < 16 → get_or feeds k 0 ≡ line_feeds (part d (start + k * far) j)
  pub columns_long : length c ≡ 16
  pub largest_long : length h ≡ 16
  pub inner_long : length g ≡ 16
  pub feeds_long : length feeds ≡ 16

-- the same lane, read from lists
same-lane : (a b c : ℕ) (m : Lane) → a ≡ m.at → b ≡ m.top → c ≡ m.inner → fresh a b c ≡ fresh m.at m.top m.inner
same-lane a b c m e f g = rw (e, f, g)

module _ (d : List ℕ) (start far j : ℕ) (c h g feeds : List ℕ) (q : (start + 16 * far ≤ length d) × (far % 16 ≡ 0) × (far ≤ 4064)) (s : Narrows d start far j c h g feeds) where
  pub narrow-more : j < far → j + 16 ≤ far
  narrow-more l = omega (arith, s.sixteens, q.1)

  pub narrow-fed : Below feeds 65280
  narrow-fed = all-below feeds 65280 s.feeds_long (omega arith) (λ k l.
      let p = past-part k far l in
      let n = length_part d (start + k * far) j (omega (arith, q.0, s.within)) in
      let e = s.fed k l in
      let f = feeds-few (part d (start + k * far) j) in
      omega (arith, q.2, s.within))

  pub narrows_on : j < far → (c' h' g' f' : List ℕ) → NarrowOn d (start + j) far c h g feeds c' h' g' f' → Narrows d start far (j + 16) c' h' g' f'
  narrows_on l c' h' g' f' o =
      record {
        within = narrow-more l;
        sixteens = omega (arith, s.sixteens);
        column = λ k b. o.column k b ∙ went k b (λ (m : Lane). m.at) (narrow_both (fresh 128 128 0) (part d (start + k * far) j) (part d (start + k * far + j) 16)).0;
        largest = λ k b. o.largest k b ∙ went k b (λ (m : Lane). m.top) (narrow_both (fresh 128 128 0) (part d (start + k * far) j) (part d (start + k * far + j) 16)).1;
        inner = λ k b. o.inner k b ∙ went k b (λ (m : Lane). m.inner) (narrow_both (fresh 128 128 0) (part d (start + k * far) j) (part d (start + k * far + j) 16)).2;
        fed = λ k b. rw (here k) at (o.fed k b) ∙ ap (λ (n : ℕ). n + line_feeds (next k)) (s.fed k b) ∙ sym (feeds-both (part d (start + k * far) j) (next k)) ∙ ap line_feeds (sym (part-more d (start + k * far) j 16));
        columns_long = o.columns_long ∙ s.columns_long;
        largest_long = o.largest_long ∙ s.largest_long;
        inner_long = o.inner_long ∙ s.inner_long;
        feeds_long = o.feeds_long ∙ s.feeds_long;
      }
    where
      here : (k : ℕ) → start + j + k * far ≡ start + k * far + j
      here k = omega arith

      next : ℕ → List ℕ
      next k = part d (start + k * far + j) 16

      went : (k : ℕ) → k < 16 → (f : Lane → ℕ)
          → f (lane_on (fresh (lane (part d (start + k * far) j)).at (lane (part d (start + k * far) j)).top (lane (part d (start + k * far) j)).inner) (codes_of (part d (start + k * far + j) 16))) ≡ f (lane (part d (start + k * far) j ++ part d (start + k * far + j) 16))
          → f (lane_on (lane_at c h g k) (codes_of (part d (start + j + k * far) 16))) ≡ f (lane (part d (start + k * far) (j + 16)))
      went k b f e =
          ap (λ (m : Lane). f (lane_on m (codes_of (part d (start + j + k * far) 16)))) (same-lane _ _ _ (lane (part d (start + k * far) j)) (s.column k b) (s.largest k b) (s.inner k b))
          ∙ ap (λ (i : ℕ). f (lane_on (fresh (lane (part d (start + k * far) j)).at (lane (part d (start + k * far) j)).top (lane (part d (start + k * far) j)).inner) (codes_of (part d i 16)))) (here k)
          ∙ e ∙ ap (λ (v : List ℕ). f (lane v)) (sym (part-more d (start + k * far) j 16))

-- ---- all lines are short

-- the offset of a byte, raised to that of a wide lane
module _ (v : List ℕ) (c h g : ℕ) (e : count c h ≡ measure (count 128 128) v) (f : g ≡ (measure (count 0 0) v).best) (l : g < 120) where
  low : (head_at 0 v < 120) × ((after v).best < 120)
  low = let p = (split 0 0 v (omega arith)).most in (omega arith, omega arith)

  top : h ≡ 128 + head_at 0 v
  top =
      let m : h ≡ (measure (count 128 128) v).best = ap (λ (r : Measure). r.best) e in
      let p = (split 128 128 v (omega arith)).most in
      let k = head-far 16 0 v in
      let a = low in
      omega (arith, a.0, a.1)

  wide_top : above_of h ≡ (measure (count 32768 32768) v).best
  wide_top =
      let m = top in
      let p = (split 32768 32768 v (omega arith)).most in
      let k = head-far 4096 0 v in
      let a = low in
      let y : ltb h 128 ≡ false = le-ltb h 128 (omega arith) in
      rw y (omega (arith, a.0, a.1))

  wide_at : above_of c ≡ (measure (count 32768 32768) v).at
  wide_at = go (has 10 10 v) refl
    where
      m : c ≡ (measure (count 128 128) v).at
      m = ap (λ (r : Measure). r.at) e

      go : (z : Bool) → has 10 10 v ≡ z → above_of c ≡ (measure (count 32768 32768) v).at
      go true z =
          let a = (split 128 128 v (omega arith)).past z in
          let b = (split 32768 32768 v (omega arith)).past z in
          let n = (split 0 0 v (omega arith)).past z in
          let u = (measure-most (count 0 0) v).under (omega arith) in
          let k = m in
          let y : ltb c 128 ≡ true = lt-ltb c 128 (omega arith) in
          rw y (omega arith)
      go false z =
          let a = (split 128 128 v (omega arith)).within z in
          let b = (split 32768 32768 v (omega arith)).within z in
          let i = head-far 16 0 v in
          let j = head-far 4096 0 v in
          let k = m in
          let y : ltb c 128 ≡ false = le-ltb c 128 (omega arith) in
          rw y (omega arith)

  raised : Told v 0 (above_of c) (above_of h) (above_of g)
  raised =
      let y : ltb g 128 ≡ true = lt-ltb g 128 (omega arith) in
      let z : above_of g ≡ g = rw y in
      let n : max (above_of g) 0 ≡ g = omega arith in
      record { measured = same-measure (above_of c) (above_of h) (measure (count 32768 32768) v) wide_at wide_top; inner = n ∙ f }

-- each of sixteen lanes, raised
abbrev pub Raised : List ℕ → List ℕ → Type 0
Raised c l = (k : ℕ) → k < 16 → get_or l k 0 ≡ above_of (get_or c k 0)

-- whether a lane has reached 120 columns
pub wide-at : (P : Type 0) (Q : ℕ → Type 0) (r : Option ℕ) → MatchOption r P Q → is_some r ≡ true → (k : ℕ) × Q k
wide-at P Q None m e = absurd (false≢true e)
wide-at P Q (Some k) m e = (k, m)

pub none-wide : (P : Type 0) (Q : ℕ → Type 0) (r : Option ℕ) → MatchOption r P Q → is_some r ≡ false → P
none-wide P Q None m e = m
none-wide P Q (Some k) m e = absurd (false≢true (sym e))

pub all-narrow : (d : List ℕ) (start far j n : ℕ) (c h g feeds at head best : List ℕ) → Narrows d start far j c h g feeds → far ≤ j → ((k : ℕ) → k < 16 → get_or g k 0 < 120)
    → Raised c at → Raised h head → Raised g best → ToldAll d start far far n at head best feeds
all-narrow d start far j n c h g feeds at head best s b l ma mh mb =
    record { each = each; fed = λ k i. let e : j ≡ far = omega (arith, s.within) in rw e at (s.fed k i) }
  where
    each : (k : ℕ) → k < 16 → Told (part d (start + k * far) far) n (get_or at k 0) (get_or head k 0) (get_or best k 0)
    each k i =
        let v = part d (start + k * far) far in
        let z : j ≡ far = omega (arith, s.within) in
        let ec : get_or c k 0 ≡ (lane v).at = rw z at (s.column k i) in
        let eh : get_or h k 0 ≡ (lane v).top = rw z at (s.largest k i) in
        let eg : get_or g k 0 ≡ (lane v).inner = rw z at (s.inner k i) in
        let o = narrow-held v (rw eg at (l k i)) in
        let p : count (get_or c k 0) (get_or h k 0) ≡ measure (count 128 128) v = same-measure (get_or c k 0) (get_or h k 0) (count (lane v).at (lane v).top) ec eh ∙ o.0 in
        rw (ma k i, mh k i, mb k i) (told-known v 0 n (above_of (get_or c k 0)) (above_of (get_or h k 0)) (above_of (get_or g k 0)) (omega arith) (raised v (get_or c k 0) (get_or h k 0) (get_or g k 0) p (eg ∙ o.1) (l k i)))

-- ---- a line of 120 columns is there

-- a column before moves no column back
best_mono : (m : Measure) (v : List ℕ) → m.at ≤ m.best → (measure (count 0 0) v).best ≤ (measure m v).best
best_mono m v u =
    let p = (split 0 0 v (omega arith)).most in
    let q = (split m.at m.best v u).most in
    let h = head-mono v 0 m.at (omega arith) in
    omega (arith, p, q, h)

best_more : (m : Measure) (v : List ℕ) → m.best ≤ (measure m v).best
best_more m v = let e = (best_free m.at m.best v).1 in omega (arith, e)

within-parts : (m : Measure) (v w x : List ℕ) (n : ℕ) → m.at ≤ m.best → n ≤ (measure (count 0 0) w).best → n ≤ (measure m (v ++ (w ++ x))).best
within-parts m v w x n u h =
    let a = measure m v in
    let b = best_mono a w ((measure-most m v).under u) in
    let c = best_more (measure a w) x in
    rw (measure-both m v (w ++ x), measure-both a w x) (omega (arith, b, c, h))

pub a_wide_line : (d : List ℕ) (start far j k : ℕ) (c h g feeds : List ℕ) (from : Measure) → from.at ≤ from.best → Narrows d start far j c h g feeds → far ≤ j → k < 16 → 120 ≤ get_or g k 0
    → 120 ≤ (measure from (part d start (16 * far))).best
a_wide_line d start far j k c h g feeds from u s b i w =
    let v = part d (start + k * far) far in
    let z : j ≡ far = omega (arith, s.within) in
    let eg : get_or g k 0 ≡ (lane v).inner = rw z at (s.inner k i) in
    let p = past-part k far i in
    let n : 16 * far ≡ k * far + (far + (16 * far - (k * far + far))) = omega arith in
    let y : part d start (16 * far) ≡ part d start (k * far) ++ (v ++ part d (start + k * far + far) (16 * far - (k * far + far))) =
    ap (part d start) n ∙ part-more d start (k * far) (far + (16 * far - (k * far + far))) ∙ ap (λ (x : List ℕ). part d start (k * far) ++ x) (part-more d (start + k * far) far (16 * far - (k * far + far))) in
    rw y (within-parts from (part d start (k * far)) v (part d (start + k * far + far) (16 * far - (k * far + far))) 120 u (narrow-past v (rw eg at w)))

abbrev counted : ℕ → Measure → Counted
counted n m = record { feeds = n; columns = m }

-- what is there may as well be known
pub known-too : (from : Measure) (b : ℕ) (v : List ℕ) → b ≡ max from.best 120 → 120 ≤ (measure from v).best → counted_of (count from.at b) v ≡ counted_of from v
known-too from b v e h =
    let p = best_free from.at b v in
    let q = best_free from.at from.best v in
    let i : (measure (count from.at b) v).at ≡ (measure from v).at = p.0 ∙ sym q.0 in
    let j : (measure (count from.at b) v).best ≡ (measure from v).best = omega (arith, p.1, q.1) in
    ap (counted (line_feeds v)) (same-measure (measure (count from.at b) v).at (measure (count from.at b) v).best (measure from v) i j)
