-- Laws of sixteen parts told by wide lanes: a line of 120 columns is known. Assumes nothing.
use mathlib.Core.Path.{◌≡◌, refl, sym, ap, ◌∙◌}
use mathlib.Core.Bool.{Bool, true, false}
use mathlib.Core.List.{List, ◌++◌}
use Prim.Native.Nat.{ℕ, ◌+◌, ◌*◌, ◌%◌, ◌≤◌, ◌<◌, max}
use native.Mathlib.Omega.{arith}
use lib.ListN.{length, get_or}
use Rattle.rules.specs.Text.{line_feeds}
use Rattle.rules.proofs.Short.{feeds-few}
use Rattle.ascii.specs.Part.{part, has}
use Rattle.ascii.proofs.PartLaws.{length_part, part-more}
use Rattle.columns.specs.declared.Measure.{Measure}
use Rattle.columns.specs.Measured.{count, measure}
use Rattle.columns.proofs.HeadLaws.{split, head-far, head-most, best_free}
use Rattle.columns.proofs.MeasureLaws.{measure-both, measure-most}
use Rattle.steps.proofs.ArrayLaws.{all-below}
use Rattle.lanes.specs.Lanes.{Ready, OnSixteen}
use Rattle.parts.specs.Parts.{Told, ToldAll}
use Rattle.parts.proofs.JoinLaws.{same-measure, told-head, told-known, past-part, feeds-both}

-- what is told of a part of at most 4064 bytes, where 120 columns are known
module _ (v : List ℕ) (at head best : ℕ) (s : length v ≤ 4064) (t : Told v 120 at head best) (b : 120 ≤ best) where
  -- the offset leaves the column as from 0
  told_at : at % 32768 ≡ (measure (count 0 120) v).at
  told_at = go (has 10 10 v) refl
    where
      go : (f : Bool) → has 10 10 v ≡ f → at % 32768 ≡ (measure (count 0 120) v).at
      go true e =
          let a : at ≡ _ = ap (λ (r : Measure). r.at) t.measured ∙ (split 32768 32768 v (omega arith)).past e in
          let p = (split 0 120 v (omega arith)).past e in
          let n = (measure-most (count 0 120) v).narrow in
          omega arith
      go false e =
          let a : at ≡ _ = ap (λ (r : Measure). r.at) t.measured ∙ (split 32768 32768 v (omega arith)).within e in
          let p = (split 0 120 v (omega arith)).within e in
          let n = (measure-most (count 0 120) v).narrow in
          let f = head-far 4096 0 v in
          omega arith

  told-inner : best ≡ (measure (count 0 120) v).best
  told-inner = let i = t.inner in omega arith

  -- w more bytes, the column without its offset for the largest from 0
  told-on : (w : List ℕ) (a h g : ℕ) → count a h ≡ measure (count at head) w → g ≡ (measure (count (at % 32768) best) w).best → Told (v ++ w) 120 a h g × (120 ≤ g)
  told-on w a h g e f =
      let k : count (at % 32768) best ≡ measure (count 0 120) v = same-measure (at % 32768) best (measure (count 0 120) v) told_at told-inner in
      let i : g ≡ (measure (count 0 120) (v ++ w)).best = f ∙ ap (λ (r : Measure). (measure r w).best) k ∙ ap (λ (r : Measure). r.best) (sym (measure-both (count 0 120) v w)) in
      let l : 120 ≤ g = let q = (best_free (at % 32768) best w).1 in omega (arith, f, q) in
      let m : max g 120 ≡ g = omega arith in
      (record { measured = e ∙ ap (λ (r : Measure). measure r w) t.measured ∙ sym (measure-both (count 32768 32768) v w); inner = m ∙ i }, l)

  told_under : at ≤ head
  told_under = rw (← t.measured) at ((measure-most (count 32768 32768) v).under (omega arith))

  told-low : at % 32768 ≤ best
  told-low = rw (← told_at, ← told-inner) at ((measure-most (count 0 120) v).under (omega arith))

  told-room : at % 32768 ≤ 8 * length v
  told-room = let a = told_at in let n = (measure-most (count 0 120) v).narrow in omega arith

  told-far : head ≤ 32768 + 8 * length v
  told-far = let e = told-head v 120 at head best s t in let m = head-most 0 v in omega arith

-- ---- the loop: j bytes of each of sixteen parts are told

pub record Lanes (d : List ℕ) (start far j : ℕ) (at head best feeds : List ℕ) : Type 0 where
  pub within : j ≤ far
  pub sixteens : j % 16 ≡ 0
  pub told : ToldAll d start far j 120 at head best feeds
  pub known : (k : ℕ) → k < 16 → 120 ≤ get_or best k 0
  pub columns_long : length at ≡ 16
  pub largest_long : length head ≡ 16
  pub inner_long : length best ≡ 16
  pub feeds_long : length feeds ≡ 16

module _ (d : List ℕ) (start far j : ℕ) (at head best feeds : List ℕ) (q : (start + 16 * far ≤ length d) × (far % 16 ≡ 0) × (far ≤ 4064)) (s : Lanes d start far j at head best feeds) (c : j < far) where
  lane-length : (k : ℕ) → k < 16 → length (part d (start + k * far) j) ≡ j
  lane-length k h = let p = past-part k far h in length_part d (start + k * far) j (omega (arith, q.0))

  pub lane-more : j + 16 ≤ far
  lane-more = omega (arith, s.sixteens, q.1)

  module _ (k : ℕ) (h : k < 16) where
    bytes : List ℕ
    bytes = part d (start + k * far) j

    few : length bytes ≤ 4048
    unfolding bytes
    few = let l = lane-length k h in let m = lane-more in omega (arith, q.2)

    short : length bytes ≤ 4064
    short = let l = few in omega arith

  pub lane-ready : Ready at head best feeds
  unfolding bytes
  lane-ready =
      let z = s.told in
      record {
        columns_long = s.columns_long;
        largest_long = s.largest_long;
        inner_long = s.inner_long;
        feeds_long = s.feeds_long;
        column = λ k h. told_under (bytes k h) (get_or at k 0) (get_or head k 0) (get_or best k 0) (short k h) (z.each k h) (s.known k h);
        offset = λ k h. let e = told-head (bytes k h) 120 (get_or at k 0) (get_or head k 0) (get_or best k 0) (short k h) (z.each k h) in omega arith;
        inner = λ k h. told-low (bytes k h) (get_or at k 0) (get_or head k 0) (get_or best k 0) (short k h) (z.each k h) (s.known k h);
        known = s.known;
        room = λ k h. let l = few k h in let r = told-room (bytes k h) (get_or at k 0) (get_or head k 0) (get_or best k 0) (short k h) (z.each k h) (s.known k h) in omega arith;
        below = all-below at 65280 s.columns_long (omega arith) (λ k h.
            let l = few k h in
            let u = told_under (bytes k h) (get_or at k 0) (get_or head k 0) (get_or best k 0) (short k h) (z.each k h) (s.known k h) in
            let f = told-far (bytes k h) (get_or at k 0) (get_or head k 0) (get_or best k 0) (short k h) (z.each k h) (s.known k h) in
            omega arith);
        fed = all-below feeds 65280 s.feeds_long (omega arith) (λ k h. let l = few k h in let e = z.fed k h in let f = feeds-few (bytes k h) in omega arith);
      }

  pub lanes_on : (a h b f : List ℕ) → OnSixteen d (start + j) far at head best feeds a h b f → Lanes d start far (j + 16) a h b f
  unfolding bytes
  lanes_on a h b f o =
      record {
        within = lane-more;
        sixteens = omega (arith, s.sixteens);
        told = record { each = λ k l. rw (part-more d (start + k * far) j 16) (more k l).0; fed = λ k l. fed-on k l };
        known = λ k l. (more k l).1;
        columns_long = o.columns_long ∙ s.columns_long;
        largest_long = o.largest_long ∙ s.largest_long;
        inner_long = o.inner_long ∙ s.inner_long;
        feeds_long = o.feeds_long ∙ s.feeds_long;
      }
    where
      next : ℕ → List ℕ
      next k = part d (start + k * far + j) 16

      here : (k : ℕ) → start + j + k * far ≡ start + k * far + j
      here k = omega arith

      more : (k : ℕ) → k < 16 → Told (part d (start + k * far) j ++ part d (start + k * far + j) 16) 120 (get_or a k 0) (get_or h k 0) (get_or b k 0) × (120 ≤ get_or b k 0)
      more k l = told-on (part d (start + k * far) j) (get_or at k 0) (get_or head k 0) (get_or best k 0) (short k l) (s.told.each k l) (s.known k l) (part d (start + k * far + j) 16) (get_or a k 0) (get_or h k 0) (get_or b k 0) (rw (here k) at (o.measured k l)) (rw (here k) at (o.inner k l))

      fed-on : (k : ℕ) → k < 16 → get_or f k 0 ≡ line_feeds (part d (start + k * far) (j + 16))
      fed-on k l = rw (here k) at (o.fed k l) ∙ ap (λ (n : ℕ). n + line_feeds (part d (start + k * far + j) 16)) (s.told.fed k l) ∙ sym (feeds-both (part d (start + k * far) j) (part d (start + k * far + j) 16)) ∙ ap line_feeds (sym (part-more d (start + k * far) j 16))

-- after the loop all of each part is told
pub all_told : (d : List ℕ) (start far j n : ℕ) (at head best feeds : List ℕ) → Lanes d start far j at head best feeds → far ≤ j → 120 ≤ n → ToldAll d start far far n at head best feeds
all_told d start far j n at head best feeds s c h =
    let e : j ≡ far = omega (arith, s.within) in
    let t : ToldAll d start far far 120 at head best feeds = rw e at s.told in
    record { each = λ k l. told-known (part d (start + k * far) far) 120 n (get_or at k 0) (get_or head k 0) (get_or best k 0) h (t.each k l); fed = t.fed }
