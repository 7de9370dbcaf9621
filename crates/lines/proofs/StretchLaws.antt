-- Laws of a stretch without tabs: its columns are bytes. Assumes nothing.
use mathlib.Core.Path.{◌≡◌, refl, sym, ap, ◌∙◌}
use mathlib.Core.Bool.{Bool, true, false}
use mathlib.Core.List.{List, [], ◌∷◌, ◌++◌}
use Prim.Native.Nat.{ℕ, zero, suc, ◌+◌, ◌-◌, ◌≤◌, max}
use native.Mathlib.Omega.{arith}
use lib.Dec.{eqb}
use lib.ListN.{length, take, drop, get_or}
use lib.Seq.{take-take}
use borrow.Author.Tests.{eq-eqb}
use Rattle.std.specs.Prelude.{if◌then◌else◌}
use Rattle.rules.specs.Text.{width_from, width}
use Rattle.rules.specs.Columns.{longest_from}
use Rattle.ascii.specs.Part.{part, has, before}
use Rattle.ascii.proofs.PartLaws.{length_part, part-cons, part-more, part-drop, part_end}
use Rattle.columns.specs.declared.Measure.{Measure}
use Rattle.columns.specs.Measured.{one_on, measure, onward}
use Rattle.columns.proofs.MeasureLaws.{Counted, counted-on, by_rest, by_plain}
use Rattle.lines.proofs.MarkLaws.{has_either}
use Rattle.longest.specs.Short.{Last}
use Rattle.longest.proofs.LongestLaws.{rest, exact}

-- ---- the column at the end

-- the column after bytes without a tab: how many stand after the last line feed, or all of them and those before
abbrev pub since : ℕ → List ℕ → ℕ
since at [] = at
since at (x ∷ xs) = since (if eqb x 10 then 0 else suc at) xs

since_none : (v : List ℕ) (at : ℕ) → has 10 10 v ≡ false → at + length v ≡ since at v
since_none [] at h = omega arith
since_none (x ∷ xs) at h = go (eqb x 10) refl (since_none xs (suc at))
  where
    go : (b : Bool) → eqb x 10 ≡ b → (has 10 10 xs ≡ false → suc at + length xs ≡ since (suc at) xs) → at + length (x ∷ xs) ≡ since at (x ∷ xs)
    go true e f = absurd (let z : true ≡ false = rw e at h in let y : ◌≡◌ {A = ℕ} 0 1 = cc in omega arith)
    go false e f = let k : at + suc (length xs) ≡ suc at + length xs = omega arith in rw e (k ∙ f (rw e at h))

since-last : (v w : List ℕ) (x at : ℕ) → x ≡ 10 → has 10 10 w ≡ false → length w ≡ since at (v ++ (x ∷ w))
since-last [] w x at e h = let z : length w ≡ 0 + length w = omega arith in z ∙ since_none w 0 h ∙ ap (λ (b : Bool). since (if b then 0 else suc at) w) (sym (eq-eqb x 10 e))
since-last (y ∷ ys) w x at e h = since-last ys w x (if eqb y 10 then 0 else suc at) e h

-- where a line feed stands the column is what follows the last one
module _ (d : List ℕ) (start n at : ℕ) (h : start + n ≤ length d) where
  pub by_past : (r : ℕ) → (r ≡ 0 → ⊥) → Last d start n r → n - r ≡ since at (part d start n)
  by_past zero z l = absurd (z refl)
  by_past (suc p) z t =
      let c = t.within in
      let f = t.none in
      let a : n ≡ p + suc (n - suc p) = omega arith in
      let b : start + suc p - 1 ≡ start + p = omega arith in
      let g : start + p + 1 ≡ start + suc p = omega arith in
      let y : get_or d (start + p) 0 ≡ 10 = rw b at (t.fed (omega arith)) in
      let o : part d (start + p) (suc (n - suc p)) ≡ get_or d (start + p) 0 ∷ part d (start + suc p) (n - suc p) = rw g at (part-cons d (start + p) (n - suc p) (omega arith)) in
      let v : part d start n ≡ part d start p ++ (get_or d (start + p) 0 ∷ part d (start + suc p) (n - suc p)) =
      ap (part d start) a ∙ part-more d start p (suc (n - suc p)) ∙ ap (λ (l : List ℕ). part d start p ++ l) o in
      let l = length_part d (start + suc p) (n - suc p) (omega arith) in
      sym l ∙ since-last (part d start p) (part d (start + suc p) (n - suc p)) (get_or d (start + p) 0) at y f ∙ ap (since at) (sym v)

-- ---- the longest line

module _ (d : List ℕ) (start n : ℕ) (m : Measure) (h : start + n ≤ length d) where
  pub by_known : m.at + n ≤ m.best → m.best ≡ longest_from m.at m.best (part d start n)
  by_known c = let l = length_part d start n h in sym (rest (part d start n) m.at m.best (omega arith))

  module _ (l b : ℕ) (e : l ≡ before 10 (part d start n)) (f : b ≡ max (m.at + l) m.best) where
    first-line : longest_from 0 b (drop (suc l) (part d start n)) ≡ longest_from m.at m.best (part d start n)
    first-line = rw (f, e) (exact (part d start n) m.at m.best)

    pub by_one_line : l ≡ n → b ≡ longest_from m.at m.best (part d start n)
    by_one_line z =
        let o : max 0 b ≡ b = omega arith in
        let k : longest_from 0 b (drop (suc l) (part d start n)) ≡ max 0 b = ap (longest_from 0 b) (part_end d start n (suc l) h (omega arith)) in
        sym o ∙ sym k ∙ first-line

    pub by_more : (r : ℕ) → r ≡ longest_from 0 b (part d (start + l + 1) (n - l - 1)) → r ≡ longest_from m.at m.best (part d start n)
    by_more r g =
        let a : start + suc l ≡ start + l + 1 = omega arith in
        let c : n - suc l ≡ n - l - 1 = omega arith in
        g ∙ ap (longest_from 0 b) (sym (rw (a, c) at (part-drop d start n (suc l)))) ∙ first-line

-- ---- both are what the columns are

-- what is at most the line so far is not the longest
longest_low : (v : List ℕ) (k at best : ℕ) → k ≤ at → longest_from at (max k best) v ≡ longest_from at best v
longest_low [] k at best h = omega arith
longest_low (x ∷ xs) k at best h = go (eqb x 10) (longest_low xs k (suc at) best (omega arith))
  where
    go : (b : Bool) → longest_from (suc at) (max k best) xs ≡ longest_from (suc at) best xs
        → longest_from (if b then 0 else suc at) (if b then max at (max k best) else max k best) xs ≡ longest_from (if b then 0 else suc at) (if b then max at best else best) xs
    go true f = let m : max at (max k best) ≡ max at best = omega arith in rw m
    go false f = f

both : ℕ → ℕ → Measure
both a b = record { at = a; best = b }

lines-measured : (m : Measure) (v : List ℕ) → m.at ≤ m.best → has 9 9 v ≡ false → both (since m.at v) (longest_from m.at m.best v) ≡ measure m v
unfolding both
lines-measured m [] u h = let e : max m.at m.best ≡ m.best = omega arith in rw e
lines-measured m (x ∷ xs) u h =
    go (eqb x 9) (eqb x 10) refl refl (lines-measured (both 0 (max 0 m.best)) xs (omega arith)) (lines-measured (both (suc m.at) (max (suc m.at) m.best)) xs (omega arith))
  where
    go : (t f : Bool) → eqb x 9 ≡ t → eqb x 10 ≡ f → (has 9 9 xs ≡ false → both (since 0 xs) (longest_from 0 (max 0 m.best) xs) ≡ measure (both 0 (max 0 m.best)) xs)
        → (has 9 9 xs ≡ false → both (since (suc m.at) xs) (longest_from (suc m.at) (max (suc m.at) m.best) xs) ≡ measure (both (suc m.at) (max (suc m.at) m.best)) xs)
        → both (since m.at (x ∷ xs)) (longest_from m.at m.best (x ∷ xs)) ≡ measure m (x ∷ xs)
    go true f e g p q = absurd (let z : true ≡ false = rw e at h in let y : ◌≡◌ {A = ℕ} 0 1 = cc in omega arith)
    go false true e g p q = let k : max m.at m.best ≡ max 0 m.best = omega arith in rw (g, k) (p (rw e at h))
    go false false e g p q =
        let l = longest_low xs (suc m.at) (suc m.at) m.best (omega arith) in
        rw (g, e) (ap (both (since (suc m.at) xs)) (sym l) ∙ q (rw e at h))

module _ (d : List ℕ) (start n : ℕ) (m : Measure) (u : m.at ≤ m.best) (t : has 9 9 (part d start n) ≡ false) where
  pub by_lines : (a b : ℕ) → a ≡ since m.at (part d start n) → b ≡ longest_from m.at m.best (part d start n) → record { at = a; best = b } ≡ measure m (part d start n)
  unfolding both
  by_lines a b e f = rw (e, f) (lines-measured m (part d start n) u t)

  pub by_last_lines : (b : ℕ) → b ≡ longest_from m.at m.best (part d start n) → b ≡ (measure m (part d start n)).best
  by_last_lines b f = ap (λ (r : Measure). r.best) (by_lines (since m.at (part d start n)) b refl f)

-- ---- lines without a tab, and the line of one

pub by_no_feed : (d : List ℕ) (start n r : ℕ) (m e : Measure) → start + n ≤ length d → m.at ≤ m.best → has 9 9 (part d start n) ≡ false → r ≡ 0 → Last d start n r → e ≡ onward m n → e ≡ measure m (part d start n)
by_no_feed d start n r m e h u t z l f =
    let a : start + 0 ≡ start = omega arith in
    let b : n - 0 ≡ n = omega arith in
    let g : has 10 10 (part d start n) ≡ false = rw (z, a, b) at l.none in
    f ∙ by_plain d start n m h u (has_either 9 10 (part d start n) t g)

before-any : (b : ℕ) (v : List ℕ) (r : ℕ) → r ≤ before b v → has b b (take r v) ≡ false
before-any b v zero h = refl
before-any b [] (suc r) h = refl
before-any b (x ∷ xs) (suc r) h = go (eqb x b) refl (before-any b xs r)
  where
    go : (c : Bool) → eqb x b ≡ c → (r ≤ before b xs → has b b (take r xs) ≡ false) → has b b (x ∷ take r xs) ≡ false
    go true e f = absurd (let k : before b (x ∷ xs) ≡ 0 = rw e in omega arith)
    go false e f = let k : before b (x ∷ xs) ≡ suc (before b xs) = rw e in rw e (f (omega arith))

pub no_tab_before : (d : List ℕ) (start n tab r : ℕ) → tab ≡ before 9 (part d start n) → tab ≤ n → r ≤ tab → has 9 9 (part d start r) ≡ false
no_tab_before d start n tab r e c h =
    ap (has 9 9) (sym (take-take r n (drop start d) (omega arith))) ∙ before-any 9 (part d start n) r (omega arith)

-- a turn: b bytes without a tab, and l of the tab's line
module _ (d : List ℕ) (start n : ℕ) (from : Measure) (i : ℕ) (m : Measure) (h : start + n ≤ length d) (s : Counted d start n from i m) (b : ℕ) (p : Measure) (f : p ≡ measure m (part d (start + i) b)) where
  pub by_part : i + b ≤ n → Counted d start n from (i + b) p
  by_part c = counted-on d start n from i m h s b c p f

  pub by-tab-line : (l : ℕ) (e : Measure) → i + (b + l) ≤ n → e ≡ measure p (part d (start + i + b) l) → Counted d start n from (i + (b + l)) e
  by-tab-line l e c g =
      let a : start + i + b ≡ start + (i + b) = omega arith in
      let z : i + b + l ≡ i + (b + l) = omega arith in
      rw z at (counted-on d start n from (i + b) p h (by_part (omega arith)) l (omega arith) e (rw a at g))

-- ---- a text from its start

measure-width : (m : Measure) (v : List ℕ) → (measure m v).best ≡ width_from m.at m.best v
measure-width m [] = refl
measure-width m (x ∷ xs) = measure-width (one_on m x) xs

module _ (d : List ℕ) (len i : ℕ) (m : Measure) (s : Counted d 0 len (record { at = 0; best = 0 }) i m) where
  from_zero : (k : ℕ) → measure m (part d i k) ≡ measure m (part d (0 + i) k)
  from_zero k = let z : i ≡ 0 + i = omega arith in ap (λ (j : ℕ). measure m (part d j k)) z

  pub by-stretch : (k : ℕ) (e : Measure) → len ≤ length d → i + k ≤ len → e ≡ measure m (part d i k) → Counted d 0 len (record { at = 0; best = 0 }) (i + k) e
  by-stretch k e h c f = counted-on d 0 len (record { at = 0; best = 0 }) i m (omega arith) s k c e (f ∙ from_zero k)

  pub by_width : (w : ℕ) → len ≤ length d → w ≡ (measure m (part d i (len - i))).best → w ≡ width (take len d)
  by_width w h e =
      e ∙ ap (λ (r : Measure). r.best) (by_rest d 0 len (record { at = 0; best = 0 }) i m (omega arith) s _ (from_zero (len - i))) ∙ measure-width (record { at = 0; best = 0 }) (take len d)
