-- Laws of a lane: what bytes tell of sixteen steps, above 120, is told of a wide lane, above 32768. Assumes nothing.
use mathlib.Core.Path.{◌≡◌, refl, sym, ap, ◌∙◌}
use mathlib.Core.Bool.{Bool, true, false}
use mathlib.Core.List.{List, [], ◌∷◌}
use Prim.Native.Nat.{ℕ, suc, ◌+◌, ◌-◌, ◌*◌, ◌/◌, ◌%◌, ◌^◌, ◌≤◌, ◌<◌, max}
use native.Mathlib.Nat.{mod-eq_of_lt, mul-le-mul_right}
use native.Mathlib.Omega.{arith}
use lib.Dec.{eqb, ltb}
use lib.Bits.{bit_and, and_mask}
use lib.ListN.{length, get_or}
use borrow.Author.Tests.{ltb-true, ltb-false, lt-ltb, le-ltb}
use Rattle.std.specs.Prelude.{if◌then◌else◌}
use Rattle.rules.specs.Text.{column_after, line_feeds}
use Rattle.ascii.specs.Part.{part, has}
use Rattle.ascii.proofs.PartLaws.{length_part}
use Rattle.columns.specs.declared.Measure.{Measure}
use Rattle.columns.specs.Measured.{count, measure}
use Rattle.columns.proofs.MeasureLaws.{measure-most}
use Rattle.columns.proofs.HeadLaws.{head_at, after, Split, split, head-far, head-above, head-most, best_most, on_line}
use Rattle.steps.specs.Steps.{codes_of, Mapped, Coded, rows}
use Rattle.steps.proofs.StepLaws.{rows-part}
use Rattle.narrow.specs.declared.Lane.{Lane}
use Rattle.narrow.specs.Narrow.{lane_on, fresh, lane_at, Laned}
use Rattle.narrow.proofs.NarrowLaws.{lane-feeds}
use Rattle.lanes.specs.Lanes.{Over, Ready, OnSixteen}
use Rattle.lanes.proofs.LaneLaws.{counted, lane-count}

-- ---- the first line, and what follows

-- the eights of a column stand before the first line's end
eights : (a : ℕ) (w : List ℕ) → head_at a w ≡ 8 * (a / 8) + head_at (a % 8) w
eights a w = let e : a ≡ 8 * (a / 8) + a % 8 = omega arith in ap (λ (k : ℕ). head_at k w) e ∙ head-far (a / 8) (a % 8) w

-- each byte of a line takes a column at least
head-long : (a : ℕ) (w : List ℕ) → has 10 10 w ≡ false → a + length w ≤ head_at a w
head-long a [] z = omega arith
head-long a (x ∷ xs) z = go (eqb x 10) refl (head-long (column_after a x) xs)
  where
    go : (f : Bool) → eqb x 10 ≡ f → (has 10 10 xs ≡ false → column_after a x + length xs ≤ head_at (column_after a x) xs) → a + suc (length xs) ≤ (if f then a else head_at (column_after a x) xs)
    go true e h = absurd (let n : true ≡ false = rw e at z in let y : ◌≡◌ {A = ℕ} 0 1 = cc in omega arith)
    go false e h = let k = h (rw e at z) in let o = on_line a x e in omega (arith, k, o)

-- the line feed takes a byte
after_less : (w : List ℕ) → has 10 10 w ≡ true → ((after w).at + 8 ≤ 8 * length w) × ((after w).best + 8 ≤ 8 * length w)
after_less [] z = absurd (let y : ◌≡◌ {A = ℕ} 0 1 = cc in omega arith)
after_less (x ∷ xs) z = go (eqb x 10) refl (after_less xs)
  where
    go : (f : Bool) → eqb x 10 ≡ f → (has 10 10 xs ≡ true → ((after xs).at + 8 ≤ 8 * length xs) × ((after xs).best + 8 ≤ 8 * length xs))
        → ((if f then measure (count 0 0) xs else after xs).at + 8 ≤ 8 * suc (length xs)) × ((if f then measure (count 0 0) xs else after xs).best + 8 ≤ 8 * suc (length xs))
    go true e h = let n = (measure-most (count 0 0) xs).narrow in let b = best_most 0 0 xs in (omega (arith, n), omega (arith, b))
    go false e h = let k = h (rw e at z) in (omega (arith, k.0), omega (arith, k.1))

after_none : (w : List ℕ) → has 10 10 w ≡ false → (after w).best ≡ 0
after_none [] z = refl
after_none (x ∷ xs) z = go (eqb x 10) refl (after_none xs)
  where
    go : (f : Bool) → eqb x 10 ≡ f → (has 10 10 xs ≡ false → (after xs).best ≡ 0) → (if f then measure (count 0 0) xs else after xs).best ≡ 0
    go true e h = absurd (let n : true ≡ false = rw e at z in let y : ◌≡◌ {A = ℕ} 0 1 = cc in omega arith)
    go false e h = h (rw e at z)

-- of sixteen bytes, a line that begins there has at most fifteen
after-sixteen : (w : List ℕ) → length w ≡ 16 → (after w).best ≤ 120
after-sixteen w l = go (has 10 10 w) refl
  where
    go : (f : Bool) → has 10 10 w ≡ f → (after w).best ≤ 120
    go true z = let k = (after_less w z).1 in omega (arith, k)
    go false z = let k = after_none w z in omega (arith, k)

-- the offset is no part of the column
less-offset : (at k : ℕ) → at < 65280 → at % 32768 < 32512 → k < 136 → (at - at % 8 + k) % 32768 ≡ 8 * (at % 32768 / 8) + k
less-offset at k b r h = go (ltb at 32768) refl
  where
    go : (z : Bool) → ltb at 32768 ≡ z → (at - at % 8 + k) % 32768 ≡ 8 * (at % 32768 / 8) + k
    go true z = let l = ltb-true at 32768 z in omega arith
    go false z = let l = ltb-false at 32768 z in omega arith

-- ---- a lane

module _ (at top best c h : ℕ) (w : List ℕ) (l : length w ≡ 16) (u : at ≤ top) (o : 32768 ≤ top) (i : at % 32768 ≤ best) (j : 120 ≤ best) (r : at % 32768 < 32512) (b : at < 65280)
    (e : count c h ≡ measure (count (at % 8 + 120) (at % 8 + 120)) w) where
  -- the first line of the sixteen bytes, from the column's last three bits
  first : head_at (at % 8 + 120) w ≡ 120 + head_at (at % 8) w
  first = let z : at % 8 + 120 ≡ 8 * 15 + at % 8 = omega arith in ap (λ (k : ℕ). head_at k w) z ∙ head-far 15 (at % 8) w ∙ (omega arith)

  told : Split (at % 8 + 120) (at % 8 + 120) w (count c h)
  told = rw e (split (at % 8 + 120) (at % 8 + 120) w (omega arith))

  h_told : h ≡ 120 + head_at (at % 8) w
  h_told =
      let m = told.most in
      let q = first in
      let a = head-above (at % 8) w in
      let k = after-sixteen w l in
      omega (arith, m, q, a, k)

  by-head : at - at % 8 + (h - 120) ≡ head_at at w
  by-head =
      let t = h_told in
      let q = eights at w in
      omega (arith, t, q)

  h_less : (at - at % 8 + (h - 120)) % 32768 ≡ 8 * (at % 32768 / 8) + head_at (at % 8) w
  h_less =
      let t = h_told in
      let d = head-most (at % 8) w in
      let k : h - 120 ≡ head_at (at % 8) w = omega (arith, t) in
      rw k (less-offset at (head_at (at % 8) w) b r (omega (arith, d)))

  -- the column at the end: bytes tell by the offset whether a line feed came
  lane-end : (if ltb c 128 then c else at - at % 8 + (h - 120)) ≡ (measure (count at top) w).at
  lane-end = go (has 10 10 w) refl
    where
      go : (z : Bool) → has 10 10 w ≡ z → (if ltb c 128 then c else at - at % 8 + (h - 120)) ≡ (measure (count at top) w).at
      go true z =
          let d = told.past z in
          let k = (after_less w z).0 in
          let y : ltb c 128 ≡ true = lt-ltb c 128 (omega (arith, d, k)) in
          rw y (d ∙ sym ((split at top w u).past z))
      go false z =
          let d = told.within z in
          let k = head-long (at % 8 + 120) w z in
          let y : ltb c 128 ≡ false = le-ltb c 128 (omega (arith, d, k)) in
          rw y (by-head ∙ sym ((split at top w u).within z))

  lane-top : max (at - at % 8 + (h - 120)) top ≡ (measure (count at top) w).best
  lane-top =
      let x = by-head in
      let k = after-sixteen w l in
      let m = (split at top w u).most in
      omega (arith, x, k, m)

  by-lane : (x : ℕ) → x ≡ at - at % 8 + (h - 120) → count (if ltb c 128 then c else x) (max x top) ≡ measure (count at top) w
  by-lane x z =
      let p : (if ltb c 128 then c else x) ≡ (measure (count at top) w).at = rw z lane-end in
      let q : max x top ≡ (measure (count at top) w).best = rw z lane-top in
      ap (λ (k : ℕ). count k (max x top)) p ∙ ap (count (measure (count at top) w).at) q

  -- what stands after the first line feed is known
  by-inner : (x : ℕ) → x ≡ at - at % 8 + (h - 120) → max (x % 32768) best ≡ (measure (count (at % 32768) best) w).best
  by-inner x z =
      let p : at % 32768 % 8 ≡ at % 8 = omega arith in
      let q : head_at (at % 32768) w ≡ 8 * (at % 32768 / 8) + head_at (at % 8) w = rw p at (eights (at % 32768) w) in
      let y : x % 32768 ≡ head_at (at % 32768) w = ap (λ (k : ℕ). k % 32768) z ∙ h_less ∙ sym q in
      let m = (split (at % 32768) best w i).most in
      let k = after-sixteen w l in
      omega (arith, y, m, k)

-- ---- all lanes

all-bits : (x : ℕ) → x < 2 ^ 16 → bit_and x 65535 ≡ x
all-bits x h = and_mask x 16 ∙ mod-eq_of_lt h

-- the way of a block: the codes, the phases, and sixteen steps
module _ (d t u at c₀ c g n c' h' g' n' : List ℕ) (start far : ℕ) (s : Coded d start far t) (v : Coded d (start + 8) far u) (room : start + 15 * far + 16 ≤ length d) (p : Mapped 16 (λ k a. get_or at k 0 % 8 + 120) c₀ c)
    (on : Laned t u 16 c c g n c' h' g' n') where
  module _ (k : ℕ) (l : k < 16) where
    long : length (part d (start + k * far) 16) ≡ 16
    long = let m : k * far ≤ 15 * far = mul-le-mul_right far (omega arith) in length_part d (start + k * far) 16 (omega arith)

    all-steps : lane_on (lane_at c c g k) (rows t u k) ≡ lane_on (fresh (get_or at k 0 % 8 + 120) (get_or at k 0 % 8 + 120) (get_or g k 0)) (codes_of (part d (start + k * far) 16))
    all-steps = ap (lane_on (lane_at c c g k)) (rows-part d t u start far k s v l room) ∙ ap (λ (z : ℕ). lane_on (fresh z z (get_or g k 0)) (codes_of (part d (start + k * far) 16))) (p.new k l)

    stepped : count (get_or c' k 0) (get_or h' k 0) ≡ measure (count (get_or at k 0 % 8 + 120) (get_or at k 0 % 8 + 120)) (part d (start + k * far) 16)
    stepped =
        let n = long in
        rw (on.columns.new k l, on.largest.new k l) (ap counted all-steps ∙ lane-count (fresh (get_or at k 0 % 8 + 120) (get_or at k 0 % 8 + 120) (get_or g k 0)) (part d (start + k * far) 16) (omega arith))

    fed : get_or n' k 0 ≡ line_feeds (part d (start + k * far) 16)
    fed =
        let e = lane-feeds (fresh (get_or at k 0 % 8 + 120) (get_or at k 0 % 8 + 120) (get_or g k 0)) (part d (start + k * far) 16) in
        on.feeds.new k l ∙ ap (λ (m : Lane). m.feeds) all-steps ∙ e ∙ (omega arith)

  pub over : Over h'
  over =
      record {
        from = λ k l. let e = ap (λ (m : Measure). m.best) (stepped k l) in let m = (split (get_or at k 0 % 8 + 120) (get_or at k 0 % 8 + 120) (part d (start + k * far) 16) (omega arith)).most in omega (arith, e, m);
        below = λ k l. let n = long k l in let e = ap (λ (m : Measure). m.best) (stepped k l) in let m = best_most (get_or at k 0 % 8 + 120) (get_or at k 0 % 8 + 120) (part d (start + k * far) 16) in omega (arith, e, m, n);
      }

  -- and back to wide lanes
  module _ (top best feeds x top' best' at' feeds' : List ℕ) (r : Ready at top best feeds) (ex : Mapped 16 (λ k a. a - a % 8 + (get_or h' k 0 - 120)) at x) (et : Mapped 16 (λ k a. max (bit_and (get_or x k 0) 65535) a) top top')
      (eb : Mapped 16 (λ k a. max (bit_and (get_or x k 0) 32767) a) best best') (ea : Mapped 16 (λ k a. if ltb (get_or c' k 0) 128 then get_or c' k 0 else a) x at') (ef : Mapped 16 (λ k a. a + get_or n' k 0) feeds feeds') where
    lane-measured : (k : ℕ) → k < 16 → count (get_or at' k 0) (get_or top' k 0) ≡ measure (count (get_or at k 0) (get_or top k 0)) (part d (start + k * far) 16)
    lane-measured k l =
        let n = r.below.each k in
        let y = ex.new k l in
        let z = over.below k l in
        let m : bit_and (get_or x k 0) 65535 ≡ get_or x k 0 = all-bits (get_or x k 0) (omega (arith, y, n, z)) in
        rw (ea.new k l, et.new k l, m)
        (by-lane (get_or at k 0) (get_or top k 0) (get_or best k 0) (get_or c' k 0) (get_or h' k 0) (part d (start + k * far) 16) (long k l) (r.column k l) (r.offset k l) (r.inner k l) (r.known k l) (r.room k l) n (stepped k l) (get_or x k 0) y)

    lane-inner : (k : ℕ) → k < 16 → get_or best' k 0 ≡ (measure (count (get_or at k 0 % 32768) (get_or best k 0)) (part d (start + k * far) 16)).best
    lane-inner k l =
        let m : bit_and (get_or x k 0) 32767 ≡ get_or x k 0 % 32768 = and_mask (get_or x k 0) 15 in
        rw (eb.new k l, m)
        (by-inner (get_or at k 0) (get_or top k 0) (get_or best k 0) (get_or c' k 0) (get_or h' k 0) (part d (start + k * far) 16) (long k l) (r.column k l) (r.offset k l) (r.inner k l) (r.known k l) (r.room k l) (r.below.each k) (stepped k l)
        (get_or x k 0) (ex.new k l))

    lane-fed : (k : ℕ) → k < 16 → get_or feeds' k 0 ≡ get_or feeds k 0 + line_feeds (part d (start + k * far) 16)
    lane-fed k l = ef.new k l ∙ ap (λ (m : ℕ). get_or feeds k 0 + m) (fed k l)

    pub on-sixteen : OnSixteen d start far at top best feeds at' top' best' feeds'
    on-sixteen = record { columns_long = ea.long ∙ ex.long; largest_long = et.long; inner_long = eb.long; feeds_long = ef.long; measured = lane-measured; inner = lane-inner; fed = lane-fed }
