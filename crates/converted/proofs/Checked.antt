-- The checks find in a converted sheet what they found in the sheet that it was made of. Assumes nothing.
use mathlib.Core.Bool.{Bool, true, false}
use mathlib.Core.Path.{◌≡◌, refl}
use mathlib.Core.List.{List}
use Prim.Native.Nat.{ℕ, zero, suc, ◌+◌, ◌<◌}
use native.Mathlib.Omega.{arith}
use lib.Dec.{leb}
use lib.ListN.{set}
use Rattle.rules.specs.declared.Counts.{Counts}
use Rattle.std.specs.Prelude.{if◌then◌else◌, Option, ℕ}
use Rattle.rules.specs.Words.{word_at, tokens_at, params_at, keeps_at, body_at, counts_of}
use Rattle.rules.specs.Checks.{first_of, sizes, head_words, token_words, param_words, words, token_places, param_places, keep_places, places, body_byte, body_bytes, checked_as, checked}
use Rattle.rules.specs.Answer.{is_withdrawn}
use Rattle.converted.specs.Converted.{converted}
use Rattle.converted.proofs.Laws.{Alike, word-before, word_after, place_after, same-counts, set-alike, word-one, word_two}

-- records that offend alike behind byte 28
same_first : (f g : ℕ → Option ℕ) (size at k : ℕ) → 28 < at → ((b : ℕ) → 28 < b → f b ≡ g b) → first_of f size at k ≡ first_of g size at k
unfolding first_of
same_first f g size at zero l h = refl
same_first f g size at (suc k) l h = rw (h at l, same_first f g size (at + size) k (omega arith) h)

module _ (s t : List ℕ) (a : Alike s t) (fits : leb (word_at t 28) 2 ≡ leb (word_at s 28) 2) where
  after : (at : ℕ) → 28 < at → word_at t at ≡ word_at s at
  after = word_after s t a

  mode : word_at t 16 ≡ word_at s 16
  mode = word-before s t a 16 (omega arith)

  same-sizes : sizes t ≡ sizes s
  same-sizes = rw (a.longs, same-counts s t a)

  -- ---- check 2

  same_head : head_words t ≡ head_words s
  unfolding head_words
  same_head =
      let before = word-before s t a in
      rw (mode, before 4 (omega arith), before 20 (omega arith), before 24 (omega arith), fits, after 32 (omega arith))

  module _ (at : ℕ) (l : 28 < at) where
    token-words : token_words t at ≡ token_words s at
    unfolding token_words
    token-words = rw (after at l, after (at + 12) (omega arith), after (at + 16) (omega arith))

    param-words : param_words t at ≡ param_words s at
    unfolding param_words
    param-words = rw (mode, after at l, after (at + 4) (omega arith))

    -- ---- checks 3 and 4

    module _ (bytes : ℕ) where
      token-places : token_places t bytes at ≡ token_places s bytes at
      unfolding token_places
      token-places = rw (place_after s t a (at + 4) (omega arith), after at l, place_after s t a (at + 12) (omega arith))

      param-places : param_places t bytes at ≡ param_places s bytes at
      unfolding param_places
      param-places = rw (place_after s t a at l, place_after s t a (at + 8) (omega arith))

      keep-places : keep_places t bytes at ≡ keep_places s bytes at
      unfolding keep_places
      keep-places = rw (place_after s t a at l)

    body-byte : body_byte t at ≡ body_byte s at
    unfolding body_byte
    body-byte = rw (a.others at (λ e. omega arith))

  -- ---- all

  module _ (c : Counts) where
    same-words : words t c ≡ words s c
    same-words =
        rw (
          same_head,
          same_first (token_words t) (token_words s) 20 tokens_at c.tokens (omega arith) token-words,
          same_first (param_words t) (param_words s) 16 (params_at c) c.params (omega arith) param-words,
        )

    same-places : places t c ≡ places s c
    same-places =
        let b = c.bytes in
        rw (
          same_first (token_places t b) (token_places s b) 20 tokens_at c.tokens (omega arith) (λ at l. token-places at l b),
          same_first (param_places t b) (param_places s b) 16 (params_at c) c.params (omega arith) (λ at l. param-places at l b),
          same_first (keep_places t b) (keep_places s b) 8 (keeps_at c) c.keeps (omega arith) (λ at l. keep-places at l b),
        )

    same_bytes : body_bytes t c ≡ body_bytes s c
    same_bytes = same_first (body_byte t) (body_byte s) 1 (body_at c) c.bytes (omega arith) body-byte

    same-found : checked_as t c ≡ checked_as s c
    unfolding checked_as
    same-found = rw (same-words, same-places, same_bytes)

  same-checked : checked t ≡ checked s
  unfolding checked
  same-checked = rw (same-sizes, same-counts s t a, same-found (counts_of s))

checked-by : (s : List ℕ) (b : Bool) → is_withdrawn s ≡ b → checked (if b then set s 28 2 else s) ≡ checked s
checked-by s true e = same-checked s (set s 28 2) (set-alike s) (rw (word-one s e, word_two s e))
checked-by s false e = refl

-- of any bytes
pub same_check : (s : List ℕ) → checked (converted s) ≡ checked s
unfolding converted
same_check s = checked-by s (is_withdrawn s) refl
