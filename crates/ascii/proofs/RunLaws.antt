-- Laws of the comparison of two parts by runs of bytes. Assumes nothing.
use mathlib.Core.Path.{◌≡◌, refl, sym, ap, ◌∙◌}
use mathlib.Core.Bool.{Bool, true, false, ◌&&◌, false≢true}
use mathlib.Core.List.{List, [], ◌∷◌, ◌++◌}
use Prim.Native.Nat.{ℕ, suc, ◌+◌, ◌-◌, ◌*◌, ◌≤◌, ◌<◌}
use native.Mathlib.Omega.{arith}
use lib.Bits.{bit_or, bit_xor, or_add_and, xor_add_and, and_le_l, and_le_r, xor_self}
use lib.Dec.{eqb}
use lib.ListN.{length, get_or}
use borrow.Author.Tests.{eq-eqb, ne_eqb, eqb-true, eqb-false}
use Rattle.rules.specs.Base.{same}
use Rattle.ascii.specs.Part.{part, number, Bytes}
use Rattle.ascii.proofs.PartLaws.{length_part, part-suc, part-more}

and-false : (b : Bool) → b && false ≡ false
and-false true = refl
and-false false = refl

and-true : (b : Bool) → b && true ≡ b
and-true true = refl
and-true false = refl

and_right : (a b : Bool) → true ≡ a && b → b ≡ true
and_right true b h = sym h
and_right false b h = absurd (let z : ◌≡◌ {A = ℕ} 0 1 = cc in omega arith)

and_both : (a b c : Bool) → (a && b) && c ≡ a && (b && c)
and_both true b c = refl
and_both false b c = refl

same-append : (v w x y : List ℕ) → length v ≡ length w → same (v ++ x) (w ++ y) ≡ same v w && same x y
same-append [] [] x y h = refl
same-append [] (b ∷ bs) x y h = absurd (let z : 0 ≡ suc (length bs) = h in omega arith)
same-append (a ∷ u) [] x y h = absurd (let z : suc (length u) ≡ 0 = h in omega arith)
same-append (a ∷ u) (b ∷ bs) x y h = rw (same-append u bs x y (omega arith)) (sym (and_both (eqb a b) (same u bs) (same x y)))

-- ---- bytes taken together: `|` of `^` is 0 exactly where each two are the same

none_in : (a x y : ℕ) → bit_or a (bit_xor x y) ≡ 0 → (a ≡ 0) × (x ≡ y)
none_in a x y h =
    let o = or_add_and a (bit_xor x y) in
    let e = xor_add_and x y in
    (omega (arith, and_le_r a (bit_xor x y)), omega (arith, and_le_l a (bit_xor x y), and_le_l x y, and_le_r x y))

zero_by : (a x y : ℕ) (p q : Bool) → eqb a 0 ≡ p → eqb x y ≡ q → eqb (bit_or a (bit_xor x y)) 0 ≡ p && q
zero_by a x y true true e f = eq-eqb (bit_or a (bit_xor x y)) 0 (rw (eqb-true a 0 e, eqb-true x y f) (xor_self y))
zero_by a x y true false e f = ne_eqb (bit_or a (bit_xor x y)) 0 (λ z. eqb-false x y f (none_in a x y z).1)
zero_by a x y false q e f = ne_eqb (bit_or a (bit_xor x y)) 0 (λ z. eqb-false a 0 e (none_in a x y z).0)

-- ---- eight bytes as one number

digit_by : (x y v w : ℕ) → x < 256 → y < 256 → (p q : Bool) → eqb x y ≡ p → eqb v w ≡ q → eqb (x + 256 * v) (y + 256 * w) ≡ p && q
digit_by x y v w h k true true e f = eq-eqb (x + 256 * v) (y + 256 * w) (rw (eqb-true x y e, eqb-true v w f))
digit_by x y v w h k true false e f = ne_eqb (x + 256 * v) (y + 256 * w) (λ z. eqb-false v w f (omega arith))
digit_by x y v w h k false q e f = ne_eqb (x + 256 * v) (y + 256 * w) (λ z. eqb-false x y e (omega arith))

by_number : (v w : List ℕ) → length v ≡ length w → Bytes v → Bytes w → eqb (number v) (number w) ≡ same v w
by_number [] [] l h k = refl
by_number [] (y ∷ ys) l h k = absurd (let z : 0 ≡ suc (length ys) = l in omega arith)
by_number (x ∷ xs) [] l h k = absurd (let z : suc (length xs) ≡ 0 = l in omega arith)
by_number (x ∷ xs) (y ∷ ys) l h k = digit_by x y (number xs) (number ys) h.0 k.0 (eqb x y) (same xs ys) refl (by_number xs ys (omega arith) h.1 k.1)

pub by_eight : (s o : List ℕ) (a b x y : ℕ) → a + 8 ≤ length s → b + 8 ≤ length o → (x ≡ number (part s a 8)) × Bytes (part s a 8)
    → (y ≡ number (part o b 8)) × Bytes (part o b 8) → eqb x y ≡ same (part s a 8) (part o b 8)
by_eight s o a b x y h g u v =
    let l = length_part s a 8 h in
    let r = length_part o b 8 g in
    rw (u.0, v.0) (by_number (part s a 8) (part o b 8) (omega arith) u.1 v.1)

-- two lists that are the same are one
pub same_true : (v w : List ℕ) → same v w ≡ true → v ≡ w
same_true [] [] h = refl
same_true [] (y ∷ ys) h = absurd (false≢true h)
same_true (x ∷ xs) [] h = absurd (false≢true h)
same_true (x ∷ xs) (y ∷ ys) h = go (eqb x y) refl h (same_true xs ys)
  where
    go : (b : Bool) → eqb x y ≡ b → (b && same xs ys) ≡ true → (same xs ys ≡ true → xs ≡ ys) → x ∷ xs ≡ y ∷ ys
    go true e h f = rw (eqb-true x y e, f h)
    go false e h f = absurd (false≢true h)

-- ---- parts of parts

grown : (s o : List ℕ) (a b i k : ℕ) → a + i ≤ length s → b + i ≤ length o
    → same (part s a (i + k)) (part o b (i + k)) ≡ same (part s a i) (part o b i) && same (part s (a + i) k) (part o (b + i) k)
grown s o a b i k h g =
    let l = length_part s a i h in
    let r = length_part o b i g in
    rw (part-more s a i k, part-more o b i k) (same-append (part s a i) (part o b i) (part s (a + i) k) (part o (b + i) k) (omega arith))

module _ (s o : List ℕ) (start from : ℕ) where
  -- the first n bytes are the same
  abbrev Same : ℕ → Bool
  Same n = same (part s start n) (part o from n)

  pub told_more : (i all : ℕ) → start + i < length s → from + i < length o → eqb all 0 ≡ same (part s start i) (part o from i)
      → eqb (bit_or all (bit_xor (get_or s (start + i) 0) (get_or o (from + i) 0))) 0 ≡ same (part s start (i + 1)) (part o from (i + 1))
  told_more i all h g e =
      let l = length_part s start i (omega arith) in
      let r = length_part o from i (omega arith) in
      let x = get_or s (start + i) 0 in
      let y = get_or o (from + i) 0 in
      rw (part-suc s start i h, part-suc o from i g, same-append (part s start i) (part o from i) (x ∷ []) (y ∷ []) (omega arith), and-true (eqb x y))
      (zero_by all x y (same (part s start i) (part o from i)) (eqb x y) e refl)

  module _ (n : ℕ) (h : start + n ≤ length s) (g : from + n ≤ length o) where
    -- the first bytes differ, or a run within the part
    pub by-start-differ : (k : ℕ) → k ≤ n → same (part s start k) (part o from k) ≡ false → false ≡ same (part s start n) (part o from n)
    by-start-differ k b e =
        let t : n ≡ k + (n - k) = omega arith in
        sym (ap Same t ∙ grown s o start from k (n - k) (omega arith) (omega arith) ∙ ap (λ (z : Bool). z && same (part s (start + k) (n - k)) (part o (from + k) (n - k))) e)

    pub by-run-differ : (i k : ℕ) → i + k ≤ n → same (part s (start + i) k) (part o (from + i) k) ≡ false → false ≡ same (part s start n) (part o from n)
    by-run-differ i k b e =
        by-start-differ (i + k) b (grown s o start from i k (omega arith) (omega arith) ∙ ap (λ (z : Bool). Same i && z) e ∙ and-false (Same i))

    pub by-run-agree : (i k : ℕ) → i + k ≤ n → same (part s start i) (part o from i) ≡ true → same (part s (start + i) k) (part o (from + i) k) ≡ true → same (part s start (i + k)) (part o from (i + k)) ≡ true
    by-run-agree i k b e f = grown s o start from i k (omega arith) (omega arith) ∙ rw (e, f)

    -- what the last k bytes have in common with the first i is told twice
    pub by-ends-agree : (i k : ℕ) → i ≤ n → k ≤ n → n ≤ i + k → same (part s start i) (part o from i) ≡ true
        → same (part s (start + (n - k)) k) (part o (from + (n - k)) k) ≡ true → true ≡ same (part s start n) (part o from n)
    by-ends-agree i k a b d e f =
        let j = i - (n - k) in
        let t : n ≡ i + (n - i) = omega arith in
        let u : k ≡ j + (n - i) = omega arith in
        let v : start + (n - k) + j ≡ start + i = omega arith in
        let w : from + (n - k) + j ≡ from + i = omega arith in
        let l = grown s o (start + (n - k)) (from + (n - k)) j (n - i) (omega arith) (omega arith) in
        let m : true ≡ same (part s (start + (n - k)) j) (part o (from + (n - k)) j) && same (part s (start + i) (n - i)) (part o (from + i) (n - i)) = sym f ∙ ap (λ (z : ℕ). same (part s (start + (n - k)) z) (part o (from + (n - k)) z)) u ∙ rw (v, w) at l in
        let x = and_right (same (part s (start + (n - k)) j) (part o (from + (n - k)) j)) (same (part s (start + i) (n - i)) (part o (from + i) (n - i))) m in
        sym (ap Same t ∙ grown s o start from i (n - i) (omega arith) (omega arith) ∙ rw (e, x))

-- ---- `same_bytes`: the first eight bytes and the last eight, and what stands between them

module _ (s o : List ℕ) (start from n m : ℕ) (h : (start + n ≤ length s) × (from + m ≤ length o)) (u : n ≡ m) (a : 8 ≤ n) where
  whole : (r : Bool) → r ≡ same (part s start n) (part o from n) → r ≡ same (part s start n) (part o from m)
  whole r e = e ∙ ap (λ (k : ℕ). same (part s start n) (part o from k)) u

  within : from + n ≤ length o
  within = let k = h.1 in omega arith

  pub by-last : same (part s (start + (n - 8)) 8) (part o (from + (n - 8)) 8) ≡ false → false ≡ same (part s start n) (part o from m)
  by-last e = whole false (by-run-differ s o start from n h.0 within (n - 8) 8 (omega arith) e)

  pub by-first : same (part s start 8) (part o from 8) ≡ false → false ≡ same (part s start n) (part o from m)
  by-first e = whole false (by-start-differ s o start from n h.0 within 8 a e)

  pub by-block : (i : ℕ) → i + 64 ≤ n → same (part s (start + i) 64) (part o (from + i) 64) ≡ false → false ≡ same (part s start n) (part o from m)
  by-block i b e = whole false (by-run-differ s o start from n h.0 within i 64 b e)

  pub by-step : (i : ℕ) → i < n - 8 → same (part s (start + i) 8) (part o (from + i) 8) ≡ false → false ≡ same (part s start n) (part o from m)
  by-step i b e = whole false (by-run-differ s o start from n h.0 within i 8 (omega arith) e)

  pub by-ends : same (part s (start + (n - 8)) 8) (part o (from + (n - 8)) 8) ≡ true → (i : ℕ) → i ≤ n → n - 8 ≤ i → same (part s start i) (part o from i) ≡ true → true ≡ same (part s start n) (part o from m)
  by-ends f i b d e = whole true (by-ends-agree s o start from n h.0 within i 8 b a (omega arith) e f)

pub ruleset compares = (by-last, by-first, by-block, by-step, by-ends)
