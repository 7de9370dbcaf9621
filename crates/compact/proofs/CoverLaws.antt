-- The bytes that are covered: from the marks of the places to the bits, and their number. Assumes nothing.
use mathlib.Core.Path.{◌≡◌, refl, sym, ap, ◌∙◌}
use mathlib.Core.Bool.{Bool, true, false, ◌&&◌, ◌||◌, and-false}
use mathlib.Core.List.{List, [], ◌∷◌}
use Prim.Native.Nat.{ℕ, zero, suc, ◌+◌, ◌-◌, ◌*◌, ◌/◌, ◌%◌, ◌^◌, ◌≤◌, ◌<◌}
use native.Mathlib.Nat.{zero-div, add-suc, add-zero}
use native.Mathlib.Numerals.{add-one}
use native.Mathlib.Omega.{arith}
use lib.Dec.{leb}
use lib.ListN.{length, get_or, replicate, length-append, length-replicate}
use borrow.Author.Tests.{le-ltb}
use Rattle.rules.specs.declared.Counts.{Counts}
use Rattle.std.specs.Prelude.{if◌then◌else◌}
use Rattle.rules.specs.Words.{place_at, body_at}
use Rattle.rules.specs.Compacted.{word_count, starts_place, covers, covered_by, is_covered, kept_bytes, kept_before}
use Rattle.records.specs.Sheeted.{Sheeted}
use Rattle.marks.specs.Marks.{bit_at, bit_of, reach, marked, count_of, Long, Counted}
use Rattle.marks.proofs.CountLaws.{count-ext, count-le}
use Rattle.compact.specs.Marked.{Marked}
use Rattle.compact.proofs.PlaceLaws.{place_in}

-- ---- words that are all zero mark nothing

no-bit : (i : ℕ) → bit_at 0 i ≡ false
unfolding bit_at
no-bit i = rw (zero-div (2 ^ i))

all-zero : (n i : ℕ) → get_or {A = ℕ} (replicate n 0) i 0 ≡ 0
all-zero zero i = refl
all-zero (suc n) zero = refl
all-zero (suc n) (suc i) = all-zero n i

no-reach : (n k : ℕ) → reach (replicate n 0) k ≡ 0
unfolding reach
no-reach n zero = refl
no-reach n (suc k) = rw (no-reach n k, all-zero n k)

unmarked : (m n j : ℕ) → marked (replicate m 0) (replicate n 0) j ≡ false
unmarked m n j = rw (all-zero m (j / 32), no-bit (j % 32), no-reach n (j / 32)) (le-ltb j 0 (omega arith))

-- ---- the places of the first k words are marked

pub length-zeros : (n : ℕ) (l : List ℕ) → l ≡ replicate n 0 → length l ≡ n
length-zeros n l e = ap length e ∙ length-replicate n 0

pub record Covers (s : List ℕ) (c : Counts) (bits far : List ℕ) (k : ℕ) : Type 0 where
  pub in_words : k ≤ word_count c
  pub long : Long bits far
  pub marks : (j : ℕ) → j < 32768 → marked bits far j ≡ covered_by s c k j

module _ (s : List ℕ) (c : Counts) (bits far : List ℕ) where
  pub cover_begins : (n : ℕ) → n ≡ 1024 → bits ≡ replicate n 0 → far ≡ replicate n 0 → Covers s c bits far 0
  unfolding covered_by
  cover_begins n e p q = record {
    in_words = omega arith;
    long = record { bits_long = length-zeros n bits p ∙ e; far_long = length-zeros n far q ∙ e };
    marks = λ j h. rw (p, q) (unmarked n n j);
  }

  module _ (k : ℕ) (h : Covers s c bits far k) where
    pub cover_on : (bits' far' : List ℕ) → k < word_count c → Long bits' far'
        → ((j : ℕ) → j < 32768 → marked bits' far' j ≡ (marked bits far j || (starts_place s c (4 * k) && covers (place_at s (4 * k)) j))) → Covers s c bits' far' (k + 1)
    unfolding covered_by
    cover_on bits' far' l n e = rw (add-one k) (record { in_words = omega arith; long = n; marks = λ j m. e j m ∙ rw (h.marks j m) })

-- all of them, settled
pub marks-of : (s : List ℕ) (c : Counts) (bits before : List ℕ) → Counted bits before → ((j : ℕ) → j < 32768 → bit_of bits j ≡ is_covered s c j) → Marked s c bits
marks-of s c bits before n e = record { long = n.long.bits_long; covered = e }

-- ---- how many are covered

count-stays : (p : ℕ → Bool) (m n : ℕ) → ((j : ℕ) → m ≤ j → p j ≡ false) → count_of p (m + n) ≡ count_of p m
unfolding count_of
count-stays p m zero e = rw (add-zero m)
count-stays p m (suc n) e = rw (add-suc m n, e (m + n) (omega arith), count-stays p m n e) (add-zero (count_of p m))

module _ (s : List ℕ) (c : Counts) where
  one_kept : (b : Bool) (x : ℕ) → length (if b then x ∷ [] else []) ≡ (if b then 1 else 0)
  one_kept true x = refl
  one_kept false x = refl

  kept-count : (j : ℕ) → kept_before s c j ≡ count_of (is_covered s c) j
  unfolding kept_bytes count_of
  kept-count zero = refl
  kept-count (suc j) = rw (length-append, kept-count j, one_kept (is_covered s c j) (get_or s (body_at c + j) 0))

  pub kept-bits : (bits : List ℕ) → Marked s c bits → (j : ℕ) → j ≤ 32768 → count_of (bit_of bits) j ≡ kept_before s c j
  kept-bits bits m j l = count-ext (bit_of bits) (is_covered s c) j (λ i n. m.covered i (omega arith)) ∙ sym (kept-count j)

  module _ (h : Sheeted s c) where
    none-past : (k j : ℕ) → k ≤ word_count c → c.bytes ≤ j → covered_by s c k j ≡ false
    unfolding covered_by
    none-past zero j l m = refl
    none-past (suc k) j l m = rw (none-past k j (omega arith) m) (by-test (starts_place s c (4 * k)) refl)
      where
        by-test : (t : Bool) → starts_place s c (4 * k) ≡ t → (t && covers (place_at s (4 * k)) j) ≡ false
        by-test false e = refl
        by-test true e =
            let p = place_at s (4 * k) in
            let i = (place_in s c h k (omega arith) e).inside in rw (le-ltb j (p.start + p.len) (omega arith)) (and-false (leb p.start j))

    module _ (bits : List ℕ) (m : Marked s c bits) where
      pub kept-all : count_of (bit_of bits) 32768 ≡ kept_before s c c.bytes
      kept-all =
          let f = h.few.bytes in
          let e : c.bytes + (32768 - c.bytes) ≡ 32768 = omega arith in
          count-ext (bit_of bits) (is_covered s c) 32768 (λ i n. m.covered i n)
          ∙ ap (count_of (is_covered s c)) (sym e)
          ∙ count-stays (is_covered s c) c.bytes (32768 - c.bytes) (λ j n. none-past (word_count c) j (omega arith) n)
          ∙ sym (kept-count c.bytes)

  pub kept-few : (j : ℕ) → kept_before s c j ≤ j
  kept-few j = rw (kept-count j) (count-le (is_covered s c) j)
