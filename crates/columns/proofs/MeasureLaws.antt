-- Laws of the count of columns. Assumes nothing.
use mathlib.Core.Path.{◌≡◌, refl, sym, ap, ◌∙◌}
use mathlib.Core.Bool.{Bool, true, false, ◌||◌}
use mathlib.Core.List.{List, [], ◌∷◌, ◌++◌}
use Prim.Native.Nat.{ℕ, zero, suc, ◌+◌, ◌-◌, ◌*◌, ◌/◌, ◌%◌, ◌^◌, ◌≤◌, ◌<◌, max}
use native.Mathlib.Nat.{mod-eq_of_lt}
use native.Mathlib.Numerals.{add-one}
use native.Mathlib.Omega.{arith}
use lib.Bits.{bit_or, bit_and, or_block, or_lt, or_add_and, and_le_l, or_zero_r, and_zero_r, and_mask}
use lib.Dec.{eqb}
use lib.ListN.{length, drop, get_or}
use Rattle.std.specs.Prelude.{if◌then◌else◌}
use Rattle.rules.specs.Text.{column_after}
use Rattle.ascii.specs.Part.{part, has}
use Rattle.ascii.proofs.PartLaws.{length_part, part-more, part-next, part-drop}
use Rattle.ascii.proofs.FindLaws.{has_both}
use Rattle.columns.specs.declared.Measure.{Measure}
use Rattle.columns.specs.Measured.{one_on, measure, onward, tabs}

-- ---- one byte

-- seven more than the last multiple of eight
to-stop : (at : ℕ) → bit_or at 7 ≡ at / 8 * 8 + 7
to-stop at =
    let r : at % 8 < 8 = omega arith in
    let e : at / 8 * 2 ^ 3 + at % 8 ≡ at = omega arith in
    let o : bit_or (at / 8 * 2 ^ 3 + at % 8) (0 * 2 ^ 3 + 7) ≡ bit_or (at / 8) 0 * 2 ^ 3 + bit_or (at % 8) 7 = or_block 3 (at / 8) 0 (at % 8) 7 (omega arith) (omega arith) in
    let l : bit_or (at % 8) 7 < 2 ^ 3 = or_lt 3 (at % 8) 7 (omega arith) (omega arith) in
    let a = or_add_and (at % 8) 7 in
    let b = and_le_l (at % 8) 7 in
    rw (e, or_zero_r (at / 8)) at o ∙ (omega arith)

-- in w bits, where the next multiple of eight fits
pub stop_fits : (w at b s : ℕ) → at / 8 * 8 + 8 < 2 ^ w → s ≡ (if eqb b 9 then 7 else 0) → bit_or at s + 1 < 2 ^ w
stop_fits w at b s h e = rw e (go (eqb b 9))
  where
    go : (t : Bool) → bit_or at (if t then 7 else 0) + 1 < 2 ^ w
    go true = let e = to-stop at in omega arith
    go false = rw (or_zero_r at) (omega arith)

pub by-column : (w at b s k : ℕ) → at / 8 * 8 + 8 < 2 ^ w → s ≡ (if eqb b 9 then 7 else 0) → k ≡ (if eqb b 10 then 0 else 2 ^ w - 1) → bit_and (bit_or at s + 1) k ≡ column_after at b
by-column w at b s k h es ek = rw (es, ek) (go (eqb b 10) (eqb b 9))
  where
    whole : (x : ℕ) → x < 2 ^ w → bit_and x (2 ^ w - 1) ≡ x
    whole x l = and_mask x w ∙ mod-eq_of_lt l

    go : (f t : Bool) → bit_and (bit_or at (if t then 7 else 0) + 1) (if f then 0 else 2 ^ w - 1) ≡ (if f then 0 else if t then (at / 8 + 1) * 8 else suc at)
    go true t = and_zero_r (bit_or at (if t then 7 else 0) + 1)
    go false true = let e = to-stop at in whole (bit_or at 7 + 1) (omega arith) ∙ (omega arith)
    go false false = rw (or_zero_r at) (whole (at + 1) (omega arith) ∙ add-one at)

pub column-most : (at x : ℕ) → column_after at x ≤ at + 8
column-most at x = go (eqb x 10) (eqb x 9)
  where
    go : (f t : Bool) → (if f then 0 else if t then (at / 8 + 1) * 8 else suc at) ≤ at + 8
    go true t = omega arith
    go false true = omega arith
    go false false = omega arith

-- ---- a list of bytes

-- how far the column goes at most over n bytes; and it is never above the largest
pub record Most (m r : Measure) (n : ℕ) : Type 0 where
  pub narrow : r.at ≤ m.at + 8 * n
  pub under : m.at ≤ m.best → r.at ≤ r.best

pub measure-most : (m : Measure) (v : List ℕ) → Most m (measure m v) (length v)
measure-most m [] = record { narrow = omega arith; under = λ h. h }
measure-most m (x ∷ xs) =
    let k = measure-most (one_on m x) xs in
    let c = column-most m.at x in
    record { narrow = omega (arith, k.narrow); under = λ h. k.under (omega arith) }

pub measure-both : (m : Measure) (v w : List ℕ) → measure m (v ++ w) ≡ measure (measure m v) w
measure-both m [] w = refl
measure-both m (x ∷ xs) w = measure-both (one_on m x) xs w

module _ (d : List ℕ) (start n i : ℕ) (h : start + n ≤ length d) (c : i < n) (a : ℕ) where
  -- a turn of the loop
  pub by_byte : (b k m : ℕ) (r : Measure) → k ≡ column_after a (get_or d (start + i) 0) → m ≡ max b k → measure (record { at = a; best = b }) (drop i (part d start n)) ≡ r
      → measure (record { at = k; best = m }) (drop (i + 1) (part d start n)) ≡ r
  by_byte b k m r ek em e =
      let o : measure (record { at = a; best = b }) (drop i (part d start n)) ≡ measure (one_on (record { at = a; best = b }) (get_or d (start + i) 0)) (drop (i + 1) (part d start n)) =
      ap (measure (record { at = a; best = b })) (part-next d start n i h c) in
      let f : m ≡ max k b = omega (arith, em) in
      rw (f, ek) (sym o ∙ e)

-- ---- bytes without a tab or a line feed

or_neither : (p q : Bool) → p ≡ false → q ≡ false → (p || q) ≡ false
or_neither p q e f = rw e f

pub by_more_plain : (d : List ℕ) (start i j k : ℕ) (b : Bool) → j ≡ i + k → b ≡ has 9 10 (part d (start + i) k) → b ≡ false → has 9 10 (part d start i) ≡ false → has 9 10 (part d start j) ≡ false
by_more_plain d start i j k b z e f g =
    rw z (ap (has 9 10) (part-more d start i k) ∙ has_both 9 10 (part d start i) (part d (start + i) k) ∙ or_neither (has 9 10 (part d start i)) (has 9 10 (part d (start + i) k)) g (sym e ∙ f))

-- a byte of the run is neither
plain_byte : (x : ℕ) (v : List ℕ) → has 9 10 (x ∷ v) ≡ false → (eqb x 9 ≡ false) × ((eqb x 10 ≡ false) × (has 9 10 v ≡ false))
plain_byte x v h = go (eqb x 9) (eqb x 10) refl refl
  where
    go : (t f : Bool) → eqb x 9 ≡ t → eqb x 10 ≡ f → (eqb x 9 ≡ false) × ((eqb x 10 ≡ false) × (has 9 10 v ≡ false))
    go true f e g = absurd (let z : true ≡ false = rw e at h in let y : ◌≡◌ {A = ℕ} 0 1 = cc in omega arith)
    go false true e g = absurd (let z : true ≡ false = rw (e, g) at h in let y : ◌≡◌ {A = ℕ} 0 1 = cc in omega arith)
    go false false e g = (e, (g, rw (e, g) at h))

count : ℕ → ℕ → Measure
count a b = record { at = a; best = b }

measure-plain : (m : Measure) (v : List ℕ) → m.at ≤ m.best → has 9 10 v ≡ false → measure m v ≡ onward m (length v)
unfolding count
measure-plain m [] u h =
    let a : m.at ≡ m.at + 0 = omega arith in
    let b : m.best ≡ max (m.at + 0) m.best = omega arith in
    ap (λ (k : ℕ). count k m.best) a ∙ ap (count (m.at + 0)) b
measure-plain m (x ∷ xs) u h =
    let p = plain_byte x xs h in
    let o : one_on m x ≡ count (suc m.at) (max (suc m.at) m.best) = rw (p.0, p.1.0) in
    let w = measure-plain (count (suc m.at) (max (suc m.at) m.best)) xs (omega arith) p.1.1 in
    let a : suc m.at + length xs ≡ m.at + suc (length xs) = omega arith in
    let b : max (suc m.at + length xs) (max (suc m.at) m.best) ≡ max (m.at + suc (length xs)) m.best = omega arith in
    ap (λ (k : Measure). measure k xs) o ∙ w ∙ ap (λ (k : ℕ). count k (max (suc m.at + length xs) (max (suc m.at) m.best))) a ∙ ap (count (m.at + suc (length xs))) b

pub by_plain : (d : List ℕ) (start n : ℕ) (m : Measure) → start + n ≤ length d → m.at ≤ m.best → has 9 10 (part d start n) ≡ false → onward m n ≡ measure m (part d start n)
by_plain d start n m h u p = ap (onward m) (sym (length_part d start n h)) ∙ sym (measure-plain m (part d start n) u p)

-- ---- tabs in a row

-- each goes to the next multiple of 8
measure-tabs : (m : Measure) (n : ℕ) → measure m (tabs (suc n)) ≡ record { at = (m.at / 8 + suc n) * 8; best = max ((m.at / 8 + suc n) * 8) m.best }
measure-tabs m zero = refl
measure-tabs m (suc n) =
    let a : ((m.at / 8 + 1) * 8 / 8 + suc n) * 8 ≡ (m.at / 8 + suc (suc n)) * 8 = omega arith in
    let b : max ((m.at / 8 + suc (suc n)) * 8) (max ((m.at / 8 + 1) * 8) m.best) ≡ max ((m.at / 8 + suc (suc n)) * 8) m.best = omega arith in
    measure-tabs (one_on m 9) n ∙ rw (a, b)

pub by_tabbed : (m : Measure) (n b : ℕ) → (n ≡ 0 → ⊥) → b ≡ max ((m.at / 8 + n) * 8) m.best → record { at = (m.at / 8 + n) * 8; best = b } ≡ measure m (tabs n)
by_tabbed m zero b z e = absurd (z refl)
by_tabbed m (suc n) b z e = rw e (sym (measure-tabs m n))

-- ---- the loop

-- i of n bytes are counted
pub record Counted (d : List ℕ) (start n : ℕ) (from : Measure) (i : ℕ) (m : Measure) : Type 0 where
  pub within : i ≤ n
  pub narrow : m.at ≤ from.at + 8 * i
  pub under : m.at ≤ m.best
  pub left : measure m (drop i (part d start n)) ≡ measure from (part d start n)

pub none-counted : (d : List ℕ) (start n : ℕ) (from : Measure) → from.at ≤ from.best → Counted d start n from 0 from
none-counted d start n from u = record { within = omega arith; narrow = omega arith; under = u; left = refl }

-- the next k bytes
next-bytes : (d : List ℕ) (start n i k : ℕ) → i + k ≤ n → drop i (part d start n) ≡ part d (start + i) k ++ drop (i + k) (part d start n)
next-bytes d start n i k h =
    let e : n - i ≡ k + (n - (i + k)) = omega arith in
    let a : start + (i + k) ≡ start + i + k = omega arith in
    part-drop d start n i ∙ ap (part d (start + i)) e ∙ part-more d (start + i) k (n - (i + k)) ∙ ap (λ (v : List ℕ). part d (start + i) k ++ v) (sym (rw a at (part-drop d start n (i + k))))

module _ (d : List ℕ) (start n : ℕ) (from : Measure) (i : ℕ) (m : Measure) (h : start + n ≤ length d) (s : Counted d start n from i m) where
  module _ (k : ℕ) (c : i + k ≤ n) (e : Measure) (f : e ≡ measure m (part d (start + i) k)) where
    grown : Most m e k
    grown =
        let l = length_part d (start + i) k (omega arith) in
        rw f (rw l at (measure-most m (part d (start + i) k)))

    pub counted-on : Counted d start n from (i + k) e
    counted-on =
        let g = grown in
        record {
          within = c;
          narrow = omega (arith, g.narrow, s.narrow);
          under = g.under s.under;
          left = ap (λ (r : Measure). measure r (drop (i + k) (part d start n))) f ∙ sym (measure-both m (part d (start + i) k) (drop (i + k) (part d start n))) ∙ ap (measure m) (sym (next-bytes d start n i k c)) ∙ s.left;
        }

  -- and a run without tabs and line feeds
  counted-past : (k : ℕ) → i + k ≤ n → has 9 10 (part d (start + i) k) ≡ false → (e : Measure) → e ≡ onward m k → Counted d start n from (i + k) e
  counted-past k c p e f = counted-on k c e (f ∙ by_plain d (start + i) k m (omega arith) s.under p)

  -- the bytes that are left
  pub by_rest : (r : Measure) → r ≡ measure m (part d (start + i) (n - i)) → r ≡ measure from (part d start n)
  by_rest r e = e ∙ ap (measure m) (sym (part-drop d start n i)) ∙ s.left

-- a turn: eight bytes, a run, and tabs
module _ (d : List ℕ) (start n : ℕ) (from : Measure) (i : ℕ) (m e : Measure) (h : start + n ≤ length d) (s : Counted d start n from i m) (c : 8 ≤ n - i) (f : e ≡ measure m (part d (start + i) 8)) where
  pub by-eight : Counted d start n from (i + 8) e
  by-eight = counted-on d start n from i m h s 8 (omega arith) e f

  module _ (r : ℕ) (p : Measure) (b : r ≤ n - (i + 8)) (q : has 9 10 (part d (start + (i + 8)) r) ≡ false) (g : p ≡ onward e r) where
    pub by_run : Counted d start n from (i + 8 + r) p
    by_run = counted-past d start n from (i + 8) e h by-eight r (omega arith) q p g

    pub by_turn : (t : ℕ) (a : Measure) → t ≤ n - (i + 8 + r) → part d (start + (i + 8 + r)) t ≡ tabs t → a ≡ measure p (tabs t) → Counted d start n from (i + 8 + r + t) a
    by_turn t a l k o = counted-on d start n from (i + 8 + r) p h by_run t (omega arith) a (o ∙ ap (measure p) (sym k))
