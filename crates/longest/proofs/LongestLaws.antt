-- Laws of the longest line in bytes: what may be passed. Assumes nothing.
use mathlib.Core.Path.{◌≡◌, refl, sym, ap, ◌∙◌}
use mathlib.Core.Bool.{Bool, true, false, ◌&&◌, ◌||◌, false≢true}
use mathlib.Core.List.{List, [], ◌∷◌}
use Prim.Native.Nat.{ℕ, zero, suc, ◌+◌, ◌-◌, ◌≤◌, ◌<◌, max}
use native.Mathlib.Numerals.{add-one}
use native.Mathlib.Omega.{arith}
use lib.Bits.{bit_or, or_add_and, and_le_l, and_le_r}
use lib.Dec.{eqb}
use lib.ListN.{length, take, drop, get_or, length-drop}
use lib.Seq.{drop-drop, take-take, get_or-take, get_or-drop}
use borrow.Author.Tests.{eq-eqb, ne_eqb, eqb-true, eqb-false}
use Rattle.std.specs.Prelude.{Option, None, Some, MatchOption}
use Rattle.memchr.specs.Find.{Nowhere, Passes, IsLastByte, is_byte}
use Rattle.rules.specs.Columns.{longest_from}
use Rattle.ascii.specs.Part.{part, has, before}
use Rattle.ascii.proofs.PartLaws.{length_part, part-drop, part_end, part-more}
use Rattle.ascii.proofs.FindLaws.{has_both}
use Rattle.longest.specs.Short.{Passed, InEach, Last}

-- `|` is 0 exactly where both are
pub or-zero : (s t : ℕ) → eqb (bit_or s t) 0 ≡ (eqb s 0 && eqb t 0)
or-zero s t = go (eqb s 0) (eqb t 0) refl refl
  where
    go : (p q : Bool) → eqb s 0 ≡ p → eqb t 0 ≡ q → eqb (bit_or s t) 0 ≡ (p && q)
    go true true e f =
        let a = eqb-true s 0 e in
        let b = eqb-true t 0 f in
        let o = or_add_and s t in
        eq-eqb (bit_or s t) 0 (omega arith)
    go true false e f = ne_eqb (bit_or s t) 0 (λ z. eqb-false t 0 f (let o = or_add_and s t in let k = and_le_l s t in let a = eqb-true s 0 e in omega arith))
    go false q e f = ne_eqb (bit_or s t) 0 (λ z. eqb-false s 0 e (let o = or_add_and s t in let k = and_le_r s t in omega arith))

-- ---- lists: a line of at most `best` bytes changes nothing

-- a line feed p bytes on: all up to it is passed
jump : (v : List ℕ) (p at best : ℕ) → p < length v → get_or v p 0 ≡ 10 → at + p ≤ best → longest_from 0 best (drop (suc p) v) ≡ longest_from at best v
jump [] p at best h z c = absurd (omega arith)
jump (x ∷ xs) zero at best h z c = let m : max at best ≡ best = omega arith in rw (eq-eqb x 10 z, m)
jump (x ∷ xs) (suc p) at best h z c = go (eqb x 10) refl (jump xs p 0 best (omega arith) z (omega arith)) (jump xs p (suc at) best (omega arith) z (omega arith))
  where
    go : (b : Bool) → eqb x 10 ≡ b → longest_from 0 best (drop (suc p) xs) ≡ longest_from 0 best xs → longest_from 0 best (drop (suc p) xs) ≡ longest_from (suc at) best xs
        → longest_from 0 best (drop (suc p) xs) ≡ longest_from at best (x ∷ xs)
    go true e f g = let m : max at best ≡ best = omega arith in rw (e, m) f
    go false e f g = rw e g

-- a line feed among the next bytes: a line that started earlier is no longer than best either
nearer : (v : List ℕ) (w at best : ℕ) → has 10 10 (take w v) ≡ true → at + w ≤ best + 1 → longest_from at best v ≡ longest_from 0 best v
nearer v zero at best h c = absurd (false≢true h)
nearer [] (suc w) at best h c = absurd (false≢true h)
nearer (x ∷ xs) (suc w) at best h c = go (eqb x 10) refl (λ f. nearer xs w (suc at) best f (omega arith) ∙ sym (nearer xs w 1 best f (omega arith)))
  where
    go : (b : Bool) → eqb x 10 ≡ b → (has 10 10 (take w xs) ≡ true → longest_from (suc at) best xs ≡ longest_from 1 best xs) → longest_from at best (x ∷ xs) ≡ longest_from 0 best (x ∷ xs)
    go true e g =
        let m : max at best ≡ best = omega arith in
        let n : max 0 best ≡ best = omega arith in
        rw (e, m, n)
    go false e g = rw e (g (rw e at h))

-- so a byte is passed
one_on : (v : List ℕ) (w best : ℕ) → has 10 10 (take w v) ≡ true → w ≤ best + 1 → longest_from 0 best (drop 1 v) ≡ longest_from 0 best v
one_on [] w best h c = refl
one_on (x ∷ xs) zero best h c = absurd (false≢true h)
one_on (x ∷ xs) (suc w) best h c = go (eqb x 10) refl
  where
    go : (b : Bool) → eqb x 10 ≡ b → longest_from 0 best xs ≡ longest_from 0 best (x ∷ xs)
    go true e = let m : max 0 best ≡ best = omega arith in rw (e, m)
    go false e = let f : has 10 10 (take w xs) ≡ true = rw e at h in rw e (sym (nearer xs w 1 best f (omega arith)))

-- no more bytes than best
pub rest : (v : List ℕ) (at best : ℕ) → at + length v ≤ best → longest_from at best v ≡ best
rest [] at best h = omega arith
rest (x ∷ xs) at best h = go (eqb x 10) refl (rest xs 0 best (omega arith)) (rest xs (suc at) best (omega arith))
  where
    go : (b : Bool) → eqb x 10 ≡ b → longest_from 0 best xs ≡ best → longest_from (suc at) best xs ≡ best → longest_from at best (x ∷ xs) ≡ best
    go true e f g = let m : max at best ≡ best = omega arith in rw (e, m) f
    go false e f g = rw e g

-- a line that is measured
pub exact : (v : List ℕ) (at best : ℕ) → longest_from 0 (max (at + before 10 v) best) (drop (suc (before 10 v)) v) ≡ longest_from at best v
exact [] at best = omega arith
exact (x ∷ xs) at best = go (eqb x 10) refl (exact xs (suc at) best)
  where
    go : (b : Bool) → eqb x 10 ≡ b → longest_from 0 (max (suc at + before 10 xs) best) (drop (suc (before 10 xs)) xs) ≡ longest_from (suc at) best xs
        → longest_from 0 (max (at + before 10 (x ∷ xs)) best) (drop (suc (before 10 (x ∷ xs))) (x ∷ xs)) ≡ longest_from at best (x ∷ xs)
    go true e f =
        let k : at + 0 ≡ at = omega arith in
        rw (e, k)
    go false e f = let k : at + suc (before 10 xs) ≡ suc at + before 10 xs = omega arith in rw (e, k) f

-- ---- whether a line feed is in a window

-- a part of a window has one
pub in-second : (d : List ℕ) (at far w : ℕ) → has 10 10 (part d (at + far) w) ≡ true → has 10 10 (part d at (far + w)) ≡ true
in-second d at far w e = rw (part-more d at far w, has_both 10 10 (part d at far) (part d (at + far) w), e) (right (has 10 10 (part d at far)))
  where
    right : (b : Bool) → (b || true) ≡ true
    right true = refl
    right false = refl

-- ---- parts: what is passed

pub passed_none : (d : List ℕ) (start n best : ℕ) → Passed d start n best 0
passed_none d start n best = record { within = omega arith; kept = refl }

module _ (d : List ℕ) (start n best : ℕ) (h : start + n ≤ length d) where
  pub passed_rest : n ≤ best → Passed d start n best n
  passed_rest c =
      let l = length_part d start n h in
      let m : max 0 best ≡ best = omega arith in
      record { within = omega arith; kept = rw (part_end d start n n h (omega arith), m) (sym (rest (part d start n) 0 best (omega arith))) }

  jump-at : (i p : ℕ) → i + p < n → p ≤ best → get_or d (start + (i + p)) 0 ≡ 10 → Passed d start n best i → Passed d start n best (i + (p + 1))
  jump-at i p c g z s =
      let v = drop i (part d start n) in
      let l = length_part d start n h in
      let k : length v ≡ n - i = length-drop i (part d start n) ∙ ap (λ (j : ℕ). j - i) l in
      let b : get_or v p 0 ≡ 10 = get_or-drop i (part d start n) p 0 ∙ get_or-take n (drop start d) (i + p) 0 c ∙ get_or-drop start d (i + p) 0 ∙ z in
      let f : drop (i + (p + 1)) (part d start n) ≡ drop (suc p) v = sym (drop-drop (p + 1) i (part d start n)) ∙ ap (λ (j : ℕ). drop j v) (add-one p) in
      record { within = omega arith; kept = ap (longest_from 0 best) f ∙ jump v p 0 best (omega arith) b (omega arith) ∙ s.kept }

  -- a line feed that ends r bytes
  pub by_last : (r : ℕ) → best < n → Last d start (best + 1) r → Passed d start n best r
  by_last zero c l = passed_none d start n best
  by_last (suc p) c l =
      let g = l.within in
      let a : start + suc p - 1 ≡ start + (0 + p) = omega arith in
      let b : 0 + (p + 1) ≡ suc p = omega arith in
      rw b at (jump-at 0 p (omega arith) (omega arith) (rw a at (l.fed (omega arith))) (passed_none d start n best))

  -- a line feed in each window
  by-each : (w k : ℕ) → w ≤ best + 1 → k + w ≤ n → InEach d start w k → longest_from 0 best (drop k (part d start n)) ≡ longest_from 0 best (part d start n)
  by-each w zero c g e = refl
  by-each w (suc k) c g e =
      let v = drop k (part d start n) in
      let a : take w v ≡ part d (start + k) w = ap (take w) (part-drop d start n k) ∙ take-take w (n - k) (drop (start + k) d) (omega arith) in
      let t : drop (suc k) (part d start n) ≡ drop 1 v = ap (λ (j : ℕ). drop j (part d start n)) (sym (add-one k)) ∙ sym (drop-drop 1 k (part d start n)) in
      ap (longest_from 0 best) t ∙ one_on v w best (ap (has 10 10) a ∙ e.fed k (omega arith)) c ∙ by-each w k c (omega arith) (record { fed = λ j l. e.fed j (omega arith) })

  pub by-windows : (w k : ℕ) → InEach d start w k → w ≤ best + 1 → k + w ≤ n → Passed d start n best k
  by-windows w k e c g = record { within = omega arith; kept = by-each w k c g e }

-- ---- the last line feed

none-has : (v : List ℕ) → ((k : ℕ) → k < length v → eqb (get_or v k 0) 10 ≡ true → ⊥) → has 10 10 v ≡ false
none-has [] h = refl
none-has (x ∷ xs) h = go (eqb x 10) refl (none-has xs (λ k c. h (suc k) (omega arith)))
  where
    go : (b : Bool) → eqb x 10 ≡ b → has 10 10 xs ≡ false → ((b || b) || has 10 10 xs) ≡ false
    go true e f = absurd (h 0 (omega arith) e)
    go false e f = f

module _ (d : List ℕ) (start n : ℕ) (h : start + n ≤ length d) where
  none-past : (m : ℕ) → Nowhere (Passes (is_byte 10) (part d start n)) m (length (part d start n)) → has 10 10 (part d (start + m) (n - m)) ≡ false
  none-past m f =
      let v = part d start n in
      let l = length-drop m v in
      ap (has 10 10) (sym (part-drop d start n m)) ∙ none-has (drop m v) (λ k c t. f (m + k) (omega arith) (omega arith) (rw (get_or-drop m v k 0) at t))

  -- where `memrchr` finds it
  pub by-found : (r : Option ℕ) (m : ℕ) → IsLastByte (is_byte 10) (part d start n) r → MatchOption r (m ≡ 0) (λ i. m ≡ i + 1) → Last d start n m
  by-found None m f e = record { within = omega arith; fed = λ p. absurd (omega arith); none = none-past m (λ k l c. f k (omega arith) c) }
  by-found (Some i) m f e =
      let l = length_part d start n h in
      let c = f.0.high in
      let z : start + m - 1 ≡ start + i = omega arith in
      record {
        within = omega arith;
        fed = λ p. rw z (sym (get_or-take n (drop start d) i 0 (omega arith) ∙ get_or-drop start d i 0) ∙ eqb-true (get_or (part d start n) i 0) 10 f.1);
        none = none-past m (λ k a b. f.0.after k (omega arith) b);
      }

-- ---- the loop

module _ (d : List ℕ) (start n known i best : ℕ) (s : longest_from 0 best (drop i (part d start n)) ≡ longest_from 0 known (part d start n)) where
  pub by_run : (r : ℕ) → Passed d (start + i) (n - i) best r → longest_from 0 best (drop (i + r) (part d start n)) ≡ longest_from 0 known (part d start n)
  by_run r p =
      let a = part-drop d start n i in
      ap (longest_from 0 best) (sym (drop-drop r i (part d start n)) ∙ ap (drop r) a) ∙ p.kept ∙ ap (longest_from 0 best) (sym a) ∙ s

  pub by_line : (l m : ℕ) → l ≡ before 10 (part d (start + i) (n - i)) → m ≡ max l best → longest_from 0 m (drop (i + (l + 1)) (part d start n)) ≡ longest_from 0 known (part d start n)
  by_line l m e f =
      let v = drop i (part d start n) in
      let a : l ≡ before 10 v = e ∙ ap (before 10) (sym (part-drop d start n i)) in
      let b : max l best ≡ max (0 + before 10 v) best = omega arith in
      let g : drop (i + (l + 1)) (part d start n) ≡ drop (suc (before 10 v)) v = sym (drop-drop (l + 1) i (part d start n)) ∙ ap (λ (j : ℕ). drop j v) (add-one l ∙ ap suc a) in
      rw (f, b, g) (exact v 0 best ∙ s)

  pub by_end : start + n ≤ length d → n ≤ i → best ≡ longest_from 0 known (part d start n)
  by_end h c =
      let m : longest_from 0 best (drop i (part d start n)) ≡ max 0 best = ap (longest_from 0 best) (part_end d start n i h c) in
      omega arith
