-- The sweep over the words: what is settled of the first k, and one word more. Assumes nothing.
use mathlib.Core.Path.{◌≡◌, refl, sym, ap, ◌∙◌}
use mathlib.Core.Bool.{Bool, true, false}
use mathlib.Core.List.{List}
use Prim.Native.Nat.{ℕ, ◌+◌, ◌*◌, ◌/◌, ◌%◌, ◌≤◌, ◌<◌, max}
use native.Mathlib.Numerals.{add-one}
use native.Mathlib.Omega.{arith}
use lib.Dec.{eqb, ltb}
use lib.Bits.{bit_or}
use lib.ListN.{length, get_or, set, length-set}
use lib.Seq.{get_or-set_same, get_or-set_other}
use borrow.Author.Tests.{eqb-true, eqb-false}
use Rattle.marks.specs.Marks.{bit_at, bit_of, reach, marked, count_of, Long, Counted}
use Rattle.marks.proofs.BitLaws.{bit-or, bit-set-same, bit-set-other}
use Rattle.marks.proofs.CountLaws.{count-ext, count-split}

module _ (bits₀ far : List ℕ) where
  pub record Settled (bits before : List ℕ) (count r k : ℕ) : Type 0 where
    pub in_words : k ≤ 1024
    pub few : count ≤ 32 * k
    pub bits_long : length bits ≡ 1024
    pub far_long : length far ≡ 1024
    pub before-long : length before ≡ 1024
    pub reaches : r ≡ reach far k
    pub left : (i : ℕ) → k ≤ i → get_or bits i 0 ≡ get_or bits₀ i 0
    pub done : (j : ℕ) → j < 32 * k → bit_of bits j ≡ marked bits₀ far j
    pub counts : (i : ℕ) → i < k → get_or before i 0 ≡ count_of (bit_of bits) (32 * i)
    pub counted : count ≡ count_of (bit_of bits) (32 * k)

  pub settle_begins : (before : List ℕ) → Long bits₀ far → length before ≡ 1024 → Settled bits₀ before 0 0 0
  unfolding reach count_of
  settle_begins before l n = record {
    in_words = omega arith;
    few = omega arith;
    bits_long = l.bits_long;
    far_long = l.far_long;
    before-long = n;
    reaches = refl;
    left = λ i h. refl;
    done = λ j h. absurd (omega arith);
    counts = λ i h. absurd (omega arith);
    counted = refl;
  }

  module _ (bits before : List ℕ) (count r k : ℕ) (s : Settled bits before count r k) where
    pub settled_all : 1024 ≤ k → Counted bits before
    settled_all h = record { long = record { bits_long = s.bits_long; far_long = s.before-long }; counts = λ i l. s.counts i (omega arith) }

    pub settled_each : 1024 ≤ k → (j : ℕ) → j < 32768 → bit_of bits j ≡ marked bits₀ far j
    settled_each h j l = s.done j (omega arith)

    pub settled_count : 1024 ≤ k → count ≡ count_of (bit_of bits) 32768
    settled_count h =
        let w = s.in_words in
        let e : k ≡ 1024 = omega arith in
        s.counted ∙ ap (λ (n : ℕ). count_of (bit_of bits) (32 * n)) e

    -- one word more: x is what reaches into it
    module _ (x o r' : ℕ) (h : k < 1024) (ex : (i : ℕ) → i < 32 → bit_at x i ≡ ltb (32 * k + i) r) (eo : o ≡ count_of (bit_at (bit_or (get_or bits k 0) x)) 32) (er : r' ≡ max r (get_or far k 0)) where
      abbrev word : ℕ
      word = bit_or (get_or bits k 0) x

      in_list : k < length bits
      in_list = let e = s.bits_long in omega arith

      in-before : k < length before
      in-before = let e = s.before-long in omega arith

      not_yet : (j : ℕ) → j < 32 * k → bit_of (set bits k word) j ≡ bit_of bits j
      not_yet j l = bit-set-other bits k word j (λ e. omega arith)

      same_count : (i : ℕ) → i ≤ k → count_of (bit_of (set bits k word)) (32 * i) ≡ count_of (bit_of bits) (32 * i)
      same_count i l = count-ext (bit_of (set bits k word)) (bit_of bits) (32 * i) (λ j m. not_yet j (omega arith))

      here : (j : ℕ) → j / 32 ≡ k → bit_of (set bits k word) j ≡ marked bits₀ far j
      here j e =
          let n : 32 * k + j % 32 ≡ j = omega arith in
          let m : j % 32 < 32 = omega arith in
          bit-set-same bits k word j in_list e ∙ bit-or (get_or bits k 0) x (j % 32) ∙ rw (s.left k (omega arith), ex (j % 32) m, n, s.reaches, e)

      done_more : (j : ℕ) → j < 32 * (k + 1) → bit_of (set bits k word) j ≡ marked bits₀ far j
      done_more j l = by-test (eqb (j / 32) k) refl
        where
          by-test : (b : Bool) → eqb (j / 32) k ≡ b → bit_of (set bits k word) j ≡ marked bits₀ far j
          by-test true e = here j (eqb-true (j / 32) k e)
          by-test false e = let n = eqb-false (j / 32) k e in let m : j < 32 * k = omega arith in not_yet j m ∙ s.done j m

      counts-more : (i : ℕ) → i < k + 1 → get_or (set before k count) i 0 ≡ count_of (bit_of (set bits k word)) (32 * i)
      counts-more i l = by-test (eqb i k) refl
        where
          by-test : (b : Bool) → eqb i k ≡ b → get_or (set before k count) i 0 ≡ count_of (bit_of (set bits k word)) (32 * i)
          by-test true e =
              let q = eqb-true i k e in
              rw q (get_or-set_same before k count 0 in-before ∙ s.counted ∙ sym (same_count k (omega arith)))
          by-test false e =
              let q = eqb-false i k e in
              let m : i < k = omega arith in get_or-set_other before k i count 0 q ∙ s.counts i m ∙ sym (same_count i (omega arith))

      counted-more : count + o ≡ count_of (bit_of (set bits k word)) (32 * (k + 1))
      counted-more =
          let e : 32 * (k + 1) ≡ 32 * k + 32 = omega arith in
          let m : 32 ≤ 32 = omega arith in
          rw (e, count-split (set bits k word) k 32 m, get_or-set_same bits k word 0 in_list, same_count k (omega arith), ← eo, ← s.counted)

      reach-more : r' ≡ reach far (k + 1)
      unfolding reach
      reach-more = rw (add-one k, er, s.reaches)

      pub settle_on : o ≤ 32 → Settled (set bits k (bit_or (get_or bits k 0) x)) (set before k count) (count + o) r' (k + 1)
      settle_on few = record {
        in_words = omega arith;
        few = let l = s.few in omega arith;
        bits_long = length-set bits k word ∙ s.bits_long;
        far_long = s.far_long;
        before-long = length-set before k count ∙ s.before-long;
        reaches = reach-more;
        left = λ i l. get_or-set_other bits k i word 0 (λ e. omega arith) ∙ s.left i (omega arith);
        done = done_more;
        counts = counts-more;
        counted = counted-more;
      }

pub ruleset settles = (settle_begins, settle_on, settled_all, settled_each, settled_count)
