-- A mended sheet: its length, its words and its bytes. Assumes nothing.
use mathlib.Core.Path.{◌≡◌, refl, ap, ◌∙◌}
use mathlib.Core.Logic.{◌⊎◌, inl, inr}
use mathlib.Core.List.{List, [], ◌∷◌, ◌++◌, append_assoc}
use Prim.Native.Nat.{ℕ, zero, suc, ◌+◌, ◌*◌, ◌/◌, ◌%◌, ◌<◌}
use native.Mathlib.Nat.{eq-or-lt_of_le, le_of_suc-le-suc}
use native.Mathlib.Omega.{arith}
use lib.ListN.{length, take, drop, get_or, length-append, get_or-append}
use lib.Seq.{drop_at, get_or_at, get_or-append-add}
use Rattle.rules.specs.declared.Counts.{Counts}
use Rattle.rules.specs.Words.{word_at, word_bytes, body_at}
use Rattle.rules.specs.Compacted.{word_count}
use Rattle.word_bytes.proofs.WordLaws.{Small, word-part, word_back}
use Rattle.mended.specs.Mended.{mended_word, mended_byte, mended_words, mended_bytes, mended}
use Rattle.mended.proofs.Fits.{word_fits, byte_fits}

module _ (s : List ℕ) (c : Counts) where
  -- ---- lengths

  length-words : (k : ℕ) → length (mended_words s c k) ≡ 4 * k
  unfolding mended_words
  length-words zero = refl
  length-words (suc k) = omega (arith, length-append (mended_words s c k) (word_bytes (mended_word s c (4 * k))), length-words k)

  length-bytes : (j : ℕ) → length (mended_bytes s c j) ≡ j
  unfolding mended_bytes
  length-bytes zero = refl
  length-bytes (suc j) = omega (arith, length-append (mended_bytes s c j) (mended_byte (get_or s (body_at c + j) 0) ∷ []), length-bytes j)

  words-whole : length (mended_words s c (word_count c)) ≡ body_at c
  words-whole = omega (arith, length-words (word_count c))

  pub length-mended : length (mended s c) ≡ body_at c + c.bytes
  unfolding mended
  length-mended = omega (arith, length-append (mended_words s c (word_count c)) (mended_bytes s c c.bytes), words-whole, length-bytes c.bytes)

  -- ---- words

  words-part : (n k : ℕ) (rest : List ℕ) → k < n → take 4 (drop (4 * k) (mended_words s c n ++ rest)) ≡ word_bytes (mended_word s c (4 * k))
  unfolding mended_words
  words-part zero k rest l = absurd (omega arith)
  words-part (suc n) k rest l =
      let new = word_bytes (mended_word s c (4 * n)) in
      rw (append_assoc (mended_words s c n) new rest) (here (words-part n k (new ++ rest)) (eq-or-lt_of_le (le_of_suc-le-suc l)))
    where
      Part : Type 0
      Part = take 4 (drop (4 * k) (mended_words s c n ++ (word_bytes (mended_word s c (4 * n)) ++ rest))) ≡ word_bytes (mended_word s c (4 * k))

      here : (k < n → Part) → (k ≡ n) ⊎ (k < n) → Part
      here before (inl e) = rw (e, drop_at (mended_words s c n) (word_bytes (mended_word s c (4 * n)) ++ rest) (4 * n) (length-words n))
      here before (inr i) = before i

  pub word-mended : Small s → (k : ℕ) → k < word_count c → word_at (mended s c) (4 * k) ≡ mended_word s c (4 * k)
  unfolding mended
  word-mended small k l =
      word-part (mended s c) (4 * k)
      ∙ ap (λ (p : List ℕ). word_at p 0) (words-part (word_count c) k (mended_bytes s c c.bytes) l)
      ∙ word_back (mended_word s c (4 * k)) (word_fits s small c (4 * k))

  -- the same, by the byte offset
  pub word-mended-at : Small s → (at : ℕ) → at % 4 ≡ 0 → at < body_at c → word_at (mended s c) at ≡ mended_word s c at
  word-mended-at small at m l = let e : 4 * (at / 4) ≡ at = omega arith in rw e at (word-mended small (at / 4) (omega arith))

  -- ---- bytes

  byte-new : (n j : ℕ) → j < n → get_or (mended_bytes s c n) j 0 ≡ mended_byte (get_or s (body_at c + j) 0)
  unfolding mended_bytes
  byte-new zero j l = absurd (omega arith)
  byte-new (suc n) j l = here (byte-new n j) (eq-or-lt_of_le (le_of_suc-le-suc l))
    where
      Byte : Type 0
      Byte = get_or (mended_bytes s c n ++ mended_byte (get_or s (body_at c + n) 0) ∷ []) j 0 ≡ mended_byte (get_or s (body_at c + j) 0)

      here : (j < n → get_or (mended_bytes s c n) j 0 ≡ mended_byte (get_or s (body_at c + j) 0)) → (j ≡ n) ⊎ (j < n) → Byte
      here before (inl e) = rw e (get_or_at (mended_bytes s c n) (mended_byte (get_or s (body_at c + n) 0)) [] 0 n (length-bytes n))
      here before (inr i) = let m = length-bytes n in rw (get_or-append (mended_bytes s c n) (mended_byte (get_or s (body_at c + n) 0) ∷ []) 0 j (omega arith)) (before i)

  pub byte-mended : (j : ℕ) → j < c.bytes → get_or (mended s c) (body_at c + j) 0 ≡ mended_byte (get_or s (body_at c + j) 0)
  unfolding mended
  byte-mended j l =
      rw words-whole at (get_or-append-add (mended_words s c (word_count c)) (mended_bytes s c c.bytes) j 0) ∙ byte-new c.bytes j l

  -- ---- every number of it is a byte

  small-append : (p q : List ℕ) → Small p → Small q → Small (p ++ q)
  small-append [] q hp hq i = hq i
  small-append (x ∷ p) q hp hq zero = hp 0
  small-append (x ∷ p) q hp hq (suc i) = small-append p q (λ j. hp (suc j)) hq i

  small_word : (w : ℕ) → Small (word_bytes w)
  small_word w zero = omega arith
  small_word w (suc zero) = omega arith
  small_word w (suc (suc zero)) = omega arith
  small_word w (suc (suc (suc zero))) = omega arith
  small_word w (suc (suc (suc (suc i)))) = omega arith

  small-byte : (x : ℕ) → x < 128 → Small (x ∷ [])
  small-byte x h zero = omega arith
  small-byte x h (suc i) = omega arith

  small-words : (k : ℕ) → Small (mended_words s c k)
  unfolding mended_words
  small-words zero i = omega arith
  small-words (suc k) i = small-append (mended_words s c k) (word_bytes (mended_word s c (4 * k))) (small-words k) (small_word (mended_word s c (4 * k))) i

  small_bytes : (j : ℕ) → Small (mended_bytes s c j)
  unfolding mended_bytes
  small_bytes zero i = omega arith
  small_bytes (suc j) i =
      let x = get_or s (body_at c + j) 0 in small-append (mended_bytes s c j) (mended_byte x ∷ []) (small_bytes j) (small-byte (mended_byte x) (byte_fits x)) i

  pub small-mended : Small (mended s c)
  unfolding mended
  small-mended i = small-append (mended_words s c (word_count c)) (mended_bytes s c c.bytes) (small-words (word_count c)) (small_bytes c.bytes) i
