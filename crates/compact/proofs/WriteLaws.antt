-- The new sheet, word by word and byte by byte. Assumes nothing.
use mathlib.Core.Logic.{◌⊎◌, ⊎_elim}
use mathlib.Core.Path.{◌≡◌, refl, sym, ◌∙◌}
use mathlib.Core.Bool.{Bool, true, false}
use mathlib.Core.List.{List, [], ◌∷◌, ◌++◌, append-nil}
use Prim.Native.Nat.{ℕ, zero, suc, ◌+◌, ◌-◌, ◌*◌, ◌≤◌, ◌<◌}
use native.Mathlib.Nat.{zero-add, add-zero, add-suc}
use native.Mathlib.Numerals.{add-one}
use native.Mathlib.Omega.{arith}
use lib.Dec.{eqb}
use lib.ListN.{length, take, drop, set, get_or, replicate, length-append, length-set}
use borrow.Author.Tests.{lt-ltb, le-ltb, ne_eqb}
use Rattle.rules.specs.declared.Place.{Place}
use Rattle.rules.specs.declared.Counts.{Counts}
use Rattle.rules.specs.declared.Outcome.{Outcome}
use Rattle.std.specs.Prelude.{if◌then◌else◌, Ok}
use Rattle.rules.specs.Words.{word_bytes, place_at, body_at}
use Rattle.rules.specs.Compacted.{word_count, starts_place, is_covered, kept_bytes, kept_before, new_start, new_bytes, moved_words, compacted, compact_as, outcome_of, buffer_with}
use Rattle.records.specs.Sheeted.{Sheeted}
use Rattle.marks.specs.Marks.{bit_of, count_of}
use Rattle.ascii.proofs.PartLaws.{length_part}
use Rattle.text.specs.Put.{put}
use Rattle.text.proofs.PutLaws.{put-nil, put-snoc, drop-replicate}
use Rattle.word_bytes.proofs.PutLaws.{put-more}
use Rattle.compact.specs.Marked.{Marked}
use Rattle.compact.proofs.CoverLaws.{kept-bits}

-- ---- one word

module _ (s : List ℕ) (c : Counts) (d d' : List ℕ) (at : ℕ) where
  abbrev Moves : Type 0
  Moves = d' ≡ put d at (new_bytes s c at)

  pub by_three : (kept : ℕ) → at ≡ 12 → kept ≡ kept_before s c c.bytes → d' ≡ put d at (word_bytes kept) → Moves
  unfolding new_bytes
  by_three kept e f g = g ∙ rw (e, f)

  module _ (n : at ≡ 12 → ⊥) (t : Bool) (et : t ≡ starts_place s c at) where
    pub by-start : (p : Place) (w : ℕ) → t ≡ true → p ≡ place_at s at → w ≡ new_start s c p → d' ≡ put d at (word_bytes w) → Moves
    unfolding new_bytes
    by-start p w i e f g = g ∙ rw (ne_eqb at 12 n, ← et, i, f, e)

    pub by-same : t ≡ false → d' ≡ put d at (take 4 (drop at s)) → Moves
    unfolding new_bytes
    by-same i g = g ∙ rw (ne_eqb at 12 n, ← et, i)

pub moved-start : (s : List ℕ) (c : Counts) (bits : List ℕ) → Marked s c bits → (p : Place) (w : ℕ) → p.start + p.len ≤ 32768
    → w ≡ (if eqb p.len 0 then 0 else count_of (bit_of bits) p.start) → w ≡ new_start s c p
moved-start s c bits m p w l e = e ∙ rw (kept-bits s c bits m p.start (omega arith))

module _ (s : List ℕ) (c : Counts) (h : Sheeted s c) where
  length-word : (k : ℕ) → k < word_count c → length (new_bytes s c (4 * k)) ≡ 4
  unfolding new_bytes
  length-word k l = by-test (eqb (4 * k) 12) (starts_place s c (4 * k))
    where
      by-test : (x y : Bool) → length (if x then word_bytes (kept_before s c c.bytes) else if y then word_bytes (new_start s c (place_at s (4 * k))) else take 4 (drop (4 * k) s)) ≡ 4
      by-test true y = refl
      by-test false true = refl
      by-test false false = let n = h.long in length_part s (4 * k) 4 (omega arith)

  length-words : (k : ℕ) → k ≤ word_count c → length (moved_words s c k) ≡ 4 * k
  unfolding moved_words
  length-words zero l = refl
  length-words (suc k) l = rw (length-append, length-words k (omega arith), length-word k (omega arith)) (omega arith)

  -- ---- the words, one after the other

  module _ (d t : List ℕ) (k : ℕ) (e : t ≡ put d 0 (moved_words s c k)) where
    pub words-on : (t' : List ℕ) → k < word_count c → t' ≡ put t (4 * k) (new_bytes s c (4 * k)) → t' ≡ put d 0 (moved_words s c (k + 1))
    unfolding moved_words
    words-on t' l g =
        let n = length-words k (omega arith) in
        g ∙ rw (e, add-one k) (put-more d 0 (moved_words s c k) (new_bytes s c (4 * k)) (4 * k) (omega arith) (omega arith))

pub words-begin : (s : List ℕ) (c : Counts) (d : List ℕ) → d ≡ put d 0 (moved_words s c 0)
unfolding moved_words
words-begin s c d = sym (put-nil d 0)

-- ---- the bytes, one after the other

module _ (s : List ℕ) (c : Counts) where
  kept-left : (j : ℕ) → is_covered s c j ≡ false → kept_bytes s c (j + 1) ≡ kept_bytes s c j
  unfolding kept_bytes
  kept-left j e = rw (add-one j, e) (append-nil (kept_bytes s c j))

  kept-one : (j : ℕ) → is_covered s c j ≡ true → kept_bytes s c (j + 1) ≡ kept_bytes s c j ++ (get_or s (body_at c + j) 0 ∷ [])
  unfolding kept_bytes
  kept-one j e = rw (add-one j, e)

  kept_more : (j n : ℕ) → kept_before s c j ≤ kept_before s c (j + n)
  unfolding kept_bytes
  kept_more j zero = rw (add-zero j) (omega arith)
  kept_more j (suc n) = let l = kept_more j n in rw (add-suc j n, length-append) (omega arith)

  -- the code's test
  pub tested : Sheeted s c → (bits : List ℕ) → Marked s c bits → (j : ℕ) (b : Bool) → j < c.bytes → b ≡ bit_of bits j → b ≡ is_covered s c j
  tested h bits m j b l e = let f = h.few.bytes in e ∙ m.covered j (omega arith)

  pub record Copied (d : List ℕ) (base : ℕ) (t : List ℕ) (at j : ℕ) : Type 0 where
    pub in-bodies : j ≤ c.bytes
    pub behind : at ≡ base + kept_before s c j
    pub same-room : length t ≡ length d
    pub bytes : t ≡ put d base (kept_bytes s c j)

  module _ (d : List ℕ) (base : ℕ) where
    pub copy_begins : Copied d base d base 0
    unfolding kept_bytes
    copy_begins = record { in-bodies = omega arith; behind = omega arith; same-room = refl; bytes = sym (put-nil d base) }

    module _ (t : List ℕ) (at j : ℕ) (h : Copied d base t at j) where
      module _ (l : j < c.bytes) where
        copy_left : is_covered s c j ≡ false → Copied d base t at (j + 1)
        copy_left e = record { in-bodies = omega arith; behind = rw (kept-left j e) h.behind; same-room = h.same-room; bytes = rw (kept-left j e) h.bytes }

        module _ (e : is_covered s c j ≡ true) (r : base + kept_before s c c.bytes ≤ length d) where
          one-longer : kept_before s c (j + 1) ≡ kept_before s c j + 1
          one-longer = rw (kept-one j e, length-append)

          -- there is room for a byte that is kept
          pub copy_room : at < length t
          copy_room =
              let i : j + 1 + (c.bytes - (j + 1)) ≡ c.bytes = omega arith in
              let m = rw i at (kept_more (j + 1) (c.bytes - (j + 1))) in
              let o = one-longer in
              let b = h.behind in
              let n = h.same-room in omega arith

          copy_one : Copied d base (set t at (get_or s (body_at c + j) 0)) (at + 1) (j + 1)
          copy_one =
              let o = one-longer in
              let b = h.behind in
              let n = h.same-room in
              let m = copy_room in
              record {
                in-bodies = omega arith;
                behind = omega arith;
                same-room = length-set t at (get_or s (body_at c + j) 0) ∙ n;
                bytes = rw (kept-one j e, h.bytes, b) (put-snoc d base (kept_bytes s c j) (get_or s (body_at c + j) 0) (omega arith));
              }

        -- a byte that is kept, or none
        pub copy_on : (b : Bool) (t' : List ℕ) (at' : ℕ) → b ≡ is_covered s c j → base ≡ body_at c → base + kept_before s c c.bytes ≤ length d
            → ((b ≡ true) × (t' ≡ set t at (get_or s (base + j) 0)) × (at' ≡ at + 1)) ⊎ ((b ≡ false) × (t' ≡ t) × (at' ≡ at)) → Copied d base t' at' (j + 1)
        copy_on b t' at' e o r came = ⊎_elim (λ w. rw (w.1, w.2) (taken w.0)) (λ w. rw (w.1, w.2) (copy_left (sym e ∙ w.0))) came
          where
            taken : b ≡ true → Copied d base (set t at (get_or s (base + j) 0)) (at + 1) (j + 1)
            taken w = let i : get_or s (base + j) 0 ≡ get_or s (body_at c + j) 0 = rw o in rw i (copy_one (sym e ∙ w) r)

-- ---- the call

module _ (s : List ℕ) (c : Counts) (h : Sheeted s c) where
  length-compacted : length (compacted s c) ≡ body_at c + kept_before s c c.bytes
  unfolding compacted
  length-compacted = rw (length-append, length-words s c h (word_count c) (omega arith)) (omega arith)

  module _ (d d₁ : List ℕ) (base kept : ℕ) (eb : base ≡ body_at c) (ek : kept ≡ kept_before s c c.bytes) (cleared : d₁ ≡ replicate (length d) 0) where
    abbrev Told : Outcome → List ℕ → Type 0
    Told r q = (r ≡ outcome_of (compact_as s (length d) (Ok c))) × (q ≡ buffer_with (length d) (compact_as s (length d) (Ok c)))

    pub by-eleven : length d < base + kept → Told (record { refusal = 11; place = 0; length = 0 }) d₁
    unfolding compact_as outcome_of buffer_with
    by-eleven l =
        let n = length-compacted in rw (lt-ltb (length d) (length (compacted s c)) (omega arith)) (refl, cleared)

    module _ (d₂ d₃ : List ℕ) (e₂ : d₂ ≡ put d₁ 0 (moved_words s c (word_count c))) (e₃ : d₃ ≡ put d₂ base (kept_bytes s c c.bytes)) where
      one-put : d₃ ≡ put (replicate (length d) 0) 0 (compacted s c)
      unfolding compacted
      one-put =
          let n = length-words s c h (word_count c) (omega arith) in
          e₃ ∙ rw (e₂, cleared) (put-more (replicate (length d) 0) 0 (moved_words s c (word_count c)) (kept_bytes s c c.bytes) base (omega arith) (omega arith))

      zeros-after : d₃ ≡ compacted s c ++ replicate (length d - length (compacted s c)) 0
      unfolding put
      zeros-after = one-put ∙ rw (zero-add (length (compacted s c)), drop-replicate (length (compacted s c)) (length d) 0)

      pub by_written : base + kept ≤ length d → Told (record { refusal = 0; place = 0; length = base + kept }) d₃
      unfolding compact_as outcome_of buffer_with
      by_written l =
          let n = length-compacted in
          let e : base + kept ≡ length (compacted s c) = omega arith in
          rw (le-ltb (length d) (length (compacted s c)) (omega arith), e) (refl, zeros-after)
