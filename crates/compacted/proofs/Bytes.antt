-- Reading the new sheet: its words before the bodies, and the bodies.
use mathlib.Core.Bool.{Bool, true, false}
use mathlib.Core.Path.{◌≡◌, refl, ap, sym, ◌∙◌}
use mathlib.Core.Logic.{◌⊎◌, inl, inr}
use mathlib.Core.List.{List, ◌++◌, append_assoc}
use Prim.Native.Nat.{ℕ, zero, suc, ◌+◌, ◌*◌, ◌/◌, ◌%◌, ◌≤◌, ◌<◌}
use native.Mathlib.Nat.{eq-or-lt_of_le, le_of_suc-le-suc}
use native.Mathlib.Omega.{arith}
use lib.Dec.{eqb}
use lib.ListN.{length, take, drop, get_or, length-append, length-drop}
use lib.Seq.{take_at, drop_at, drop-append-add, get_or-append-add, length-take-le}
use borrow.Author.Tests.{ne_eqb}
use Rattle.rules.specs.declared.Counts.{Counts}
use Rattle.std.specs.Prelude.{if◌then◌else◌}
use Rattle.rules.specs.Words.{word_at, word_bytes, place_at, body_at}
use Rattle.rules.specs.Compacted.{word_count, starts_place, kept_bytes, kept_before, new_start, new_bytes, moved_words, compacted}
use Rattle.word_bytes.proofs.WordLaws.{word-part, word_back}

-- ---- the words that are written

length-if : (b : Bool) (x y : List ℕ) (n : ℕ) → length x ≡ n → length y ≡ n → length (if b then x else y) ≡ n
length-if true x y n p q = p
length-if false x y n p q = q

module _ (s : List ℕ) (c : Counts) where
  length-new : (at : ℕ) → at + 4 ≤ length s → length (new_bytes s c at) ≡ 4
  unfolding new_bytes
  length-new at h =
      let stay = length-take-le 4 (drop at s) (simp length-drop (omega arith)) in
      let start = word_bytes (new_start s c (place_at s at)) in
      length-if (eqb at 12) (word_bytes (kept_before s c c.bytes)) (if starts_place s c at then start else take 4 (drop at s)) 4 refl
      (length-if (starts_place s c at) start (take 4 (drop at s)) 4 refl stay)

  length_moved : (n : ℕ) → 4 * n ≤ length s → length (moved_words s c n) ≡ 4 * n
  unfolding moved_words
  length_moved zero h = refl
  length_moved (suc n) h =
      omega (arith, length-append (moved_words s c n) (new_bytes s c (4 * n)), length_moved n (omega arith), length-new (4 * n) (omega arith))

  moved-part : (n k : ℕ) (rest : List ℕ) → 4 * n ≤ length s → k < n → take 4 (drop (4 * k) (moved_words s c n ++ rest)) ≡ new_bytes s c (4 * k)
  unfolding moved_words
  moved-part zero k rest h l = absurd (omega arith)
  moved-part (suc n) k rest h l =
      let new = new_bytes s c (4 * n) in
      rw (append_assoc (moved_words s c n) new rest) (here (moved-part n k (new ++ rest) (omega arith)) (eq-or-lt_of_le (le_of_suc-le-suc l)))
    where
      here : (k < n → take 4 (drop (4 * k) (moved_words s c n ++ (new_bytes s c (4 * n) ++ rest))) ≡ new_bytes s c (4 * k)) → (k ≡ n) ⊎ (k < n) → take 4 (drop (4 * k) (moved_words s c n ++ (new_bytes s c (4 * n) ++ rest))) ≡ new_bytes s c (4 * k)
      here before (inl e) =
          rw (e, drop_at (moved_words s c n) (new_bytes s c (4 * n) ++ rest) (4 * n) (length_moved n (omega arith)), take_at (new_bytes s c (4 * n)) rest 4 (length-new (4 * n) (omega arith)))
      here before (inr i) = before i

-- ---- the new sheet

module _ (s : List ℕ) (c : Counts) (long : body_at c ≤ length s) where
  pub new-part : (at : ℕ) → at % 4 ≡ 0 → at < body_at c → take 4 (drop at (compacted s c)) ≡ new_bytes s c at
  unfolding compacted
  new-part at m h =
      let e : 4 * (at / 4) ≡ at = omega arith in
      rw e at (moved-part s c (word_count c) (at / 4) (kept_bytes s c c.bytes) (omega arith) (omega arith))

  new_word : (at : ℕ) → at % 4 ≡ 0 → at < body_at c → word_at (compacted s c) at ≡ word_at (new_bytes s c at) 0
  new_word at m h = word-part (compacted s c) at ∙ ap (λ (l : List ℕ). word_at l 0) (new-part at m h)

  pub word-three : kept_before s c c.bytes < 4294967296 → word_at (compacted s c) 12 ≡ kept_before s c c.bytes
  unfolding new_bytes
  word-three h = new_word 12 refl (omega arith) ∙ word_back (kept_before s c c.bytes) h

  module _ (at : ℕ) (m : at % 4 ≡ 0) (h : at < body_at c) (other : at ≡ 12 → ⊥) where
    pub word-stays : starts_place s c at ≡ false → word_at (compacted s c) at ≡ word_at s at
    unfolding new_bytes
    word-stays f = let e = new_word at m h in rw (ne_eqb at 12 other, f) at e ∙ sym (word-part s at)

    pub word-moves : starts_place s c at ≡ true → new_start s c (place_at s at) < 4294967296 → word_at (compacted s c) at ≡ new_start s c (place_at s at)
    unfolding new_bytes
    word-moves f b = let e = new_word at m h in rw (ne_eqb at 12 other, f) at e ∙ word_back (new_start s c (place_at s at)) b

  moved-whole : length (moved_words s c (word_count c)) ≡ body_at c
  moved-whole = omega (arith, length_moved s c (word_count c) (omega arith))

  pub length-compacted : length (compacted s c) ≡ body_at c + kept_before s c c.bytes
  unfolding compacted
  length-compacted = omega (arith, length-append (moved_words s c (word_count c)) (kept_bytes s c c.bytes), moved-whole)

  pub body_new : (x : ℕ) → drop (body_at c + x) (compacted s c) ≡ drop x (kept_bytes s c c.bytes)
  unfolding compacted
  body_new x = rw moved-whole at (drop-append-add (moved_words s c (word_count c)) (kept_bytes s c c.bytes) x)

  pub byte-new : (j : ℕ) → get_or (compacted s c) (body_at c + j) 0 ≡ get_or (kept_bytes s c c.bytes) j 0
  unfolding compacted
  byte-new j = rw moved-whole at (get_or-append-add (moved_words s c (word_count c)) (kept_bytes s c c.bytes) j 0)
