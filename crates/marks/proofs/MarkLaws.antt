-- Marking a run: its part in its first word, and what lies past that word by its end. Assumes nothing.
use Rattle.std.proofs.Common.{◌≡◌, refl, sym, ◌∙◌, Bool, true, false, ◌&&◌, ◌||◌, List, ℕ, zero, suc, ◌+◌, ◌-◌, ◌*◌, ◌/◌, ◌%◌, ◌^◌, ◌≤◌, ◌<◌, max, leb, ltb, eqb, length, get_or, set, arith}
use lib.Bits.{bit_or}
use Rattle.std.proofs.Math.Seq.{get_or-set_same, get_or-set_other}
use Rattle.std.proofs.lemmas.Bool.{eqb-true, eqb-false}
use Rattle.std.proofs.lemmas.Bool.Decides.{nat_tests}
use Rattle.marks.specs.Marks.{bit_of, reach, marked, Long}
use Rattle.marks.proofs.BitLaws.{bit-or, run-bit, bit-set-same, bit-set-other}

-- ---- the furthest end

-- one word more: x and a are the ends as far as it, with the new end and without
farther : (j w e k x a v b : ℕ) → ltb j x ≡ (ltb j a || (ltb w k && ltb j e)) → (w ≡ k → v ≡ max b e) → ((w ≡ k → ⊥) → v ≡ b) → ltb j (max x v) ≡ (ltb j (max a b) || (ltb w (suc k) && ltb j e))
farther j w e k x a v b h same other = grind (arith, nat_tests)

-- one more end counts from the next word on
reach-set : (far : List ℕ) (w e j : ℕ) → w < length far → (k : ℕ) → ltb j (reach (set far w (max (get_or far w 0) e)) k) ≡ (ltb j (reach far k) || (ltb w k && ltb j e))
unfolding reach
reach-set far w e j l zero = grind (arith, nat_tests)
reach-set far w e j l (suc k) =
    let v = max (get_or far w 0) e in
    farther j w e k (reach (set far w v) k) (reach far k) (get_or (set far w v) k 0) (get_or far k 0) (reach-set far w e j l k)
    (λ p. rw (← p) (get_or-set_same far w v 0 l))
    (λ n. get_or-set_other far w k v 0 (λ z. n (sym z)))

-- ---- n bits more in a word, from bit `from` on

abbrev in_word : ℕ → ℕ → ℕ → ℕ → Bool
in_word w from n j = eqb (j / 32) w && (leb from (j % 32) && ltb (j % 32) (from + n))

word-or : (bits : List ℕ) (w from n r j : ℕ) → w < length bits → r ≡ (2 ^ n - 1) * 2 ^ from → bit_of (set bits w (bit_or (get_or bits w 0) r)) j ≡ (bit_of bits j || in_word w from n j)
word-or bits w from n r j l e = by-test (eqb (j / 32) w) refl
  where
    by-test : (t : Bool) → eqb (j / 32) w ≡ t → bit_of (set bits w (bit_or (get_or bits w 0) r)) j ≡ (bit_of bits j || (t && (leb from (j % 32) && ltb (j % 32) (from + n))))
    by-test true p =
        let q = eqb-true (j / 32) w p in
        bit-set-same bits w (bit_or (get_or bits w 0) r) j l q ∙ bit-or (get_or bits w 0) r (j % 32) ∙ rw (q, e, run-bit from n (j % 32))
    by-test false p = bit-set-other bits w (bit_or (get_or bits w 0) r) j (eqb-false (j / 32) w p) ∙ grind arith

-- ---- `mark`: b tells that j was marked by its bit, f by a run; c and g after

marked-short : (start len j : ℕ) (b f c : Bool) → start % 32 + len ≤ 32 → c ≡ (b || in_word (start / 32) (start % 32) len j) → (c || f) ≡ ((b || f) || (leb start j && ltb j (start + len)))
marked-short start len j b f c h e = grind (arith, nat_tests)

marked-long : (start len j : ℕ) (b f c g : Bool) → 32 < start % 32 + len → c ≡ (b || in_word (start / 32) (start % 32) (32 - start % 32) j) → g ≡ (f || (ltb (start / 32) (j / 32) && ltb j (start + len)))
    → (c || g) ≡ ((b || f) || (leb start j && ltb j (start + len)))
marked-long start len j b f c g h e d = grind (arith, nat_tests)

module _ (bits far : List ℕ) (start len : ℕ) (l : Long bits far) (h : start + len ≤ 32768) where
  pub mark-none : len ≡ 0 → (j : ℕ) → marked bits far j ≡ (marked bits far j || (leb start j && ltb j (start + len)))
  mark-none e j = let n : (leb start j && ltb j (start + len)) ≡ false = grind (arith, nat_tests) in rw n (grind arith)

  module _ (some : len ≡ 0 → ⊥) (r : ℕ) where
    in-bits : start / 32 < length bits
    in-bits = let e = l.bits_long in omega arith

    in-far : start / 32 < length far
    in-far = let e = l.far_long in omega arith

    pub mark-short : start % 32 + len ≤ 32 → r ≡ (2 ^ len - 1) * 2 ^ (start % 32)
        → (j : ℕ) → marked (set bits (start / 32) (bit_or (get_or bits (start / 32) 0) r)) far j ≡ (marked bits far j || (leb start j && ltb j (start + len)))
    mark-short s e j = marked-short start len j (bit_of bits j) (ltb j (reach far (j / 32))) _ s (word-or bits (start / 32) (start % 32) len r j in-bits e)

    pub mark-long : 32 < start % 32 + len → r ≡ (2 ^ (32 - start % 32) - 1) * 2 ^ (start % 32) → (y : ℕ) → y ≡ max (get_or far (start / 32) 0) (start + len)
        → (j : ℕ) → marked (set bits (start / 32) (bit_or (get_or bits (start / 32) 0) r)) (set far (start / 32) y) j ≡ (marked bits far j || (leb start j && ltb j (start + len)))
    mark-long s e y ey j =
        rw ey
        (marked-long start len j (bit_of bits j) (ltb j (reach far (j / 32))) _ _ s (word-or bits (start / 32) (start % 32) (32 - start % 32) r j in-bits e) (reach-set far (start / 32) (start + len) j in-far (j / 32)))

pub ruleset marking = (mark-none, mark-short, mark-long)
