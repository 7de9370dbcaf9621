-- The mended sheet passes checks 1 to 4, and its counts are the old ones. Assumes nothing.
use Rattle.std.specs.Prelude.{None, Option, ℕ, Ok}
use mathlib.Core.Path.{◌≡◌, refl, sym, ◌∙◌}
use mathlib.Core.List.{List}
use Prim.Native.Nat.{ℕ, zero, suc, ◌+◌, ◌*◌, ◌%◌, ◌<◌}
use native.Mathlib.Nat.{add-zero, mul-suc}
use native.Mathlib.Omega.{arith}
use lib.ListN.{length, get_or}
use borrow.Author.Tests.{lt-ltb}
use Rattle.rules.specs.declared.Counts.{Counts}
use Rattle.rules.specs.Words.{word_at, place_at, counts_of, class_bits, tokens_at, params_at, keeps_at, body_at}
use Rattle.rules.specs.Checks.{first_of, sizes, head_words, token_words, param_words, token_places, param_places, keep_places, body_byte, checked_as, checked}
use Rattle.checks.proofs.Sound.{sizes-pass}
use Rattle.word_bytes.proofs.WordLaws.{Small}
use Rattle.mended.specs.Mended.{mended_mode, mended_head, mended_packed, place_word, mended_token, mended_param, mended_byte, mended}
use Rattle.mended.proofs.Fits.{byte_fits}
use Rattle.mended.proofs.Laws.{length-mended, byte-mended}
use Rattle.mended.proofs.Tables.{new-head, new-token, new-param, new-keep}
use Rattle.mended.proofs.Passing.{default-in, mode-in, packed_in, place_in, key-a-in, key-b-in, key_in, name_in, name-place-in}

none_first : (f : ℕ → Option ℕ) (size at k : ℕ) → ((i : ℕ) → i < k → f (at + size * i) ≡ None) → first_of f size at k ≡ None
unfolding first_of
none_first f size at zero h = refl
none_first f size at (suc k) h =
    let e : at + size * 0 ≡ at = omega arith in
    let here : f at ≡ None = rw e at (h 0 (omega arith)) in
    rw here (none_first f size (at + size) k (λ i l.
    let o : at + size * suc i ≡ at + size + size * i = omega (arith, mul-suc size i) in
    rw o at (h (suc i) (omega arith))))

module _ (s : List ℕ) (small : Small s) (c : Counts) where
  head-new : (at : ℕ) → at % 4 ≡ 0 → at < 48 → word_at (mended s c) at ≡ mended_head s at
  head-new = new-head s small c

  -- ---- check 2

  head-pass : head_words (mended s c) ≡ None
  unfolding head_words mended_head
  head-pass =
      rw (
        head-new 4 refl (omega arith),
        head-new 16 refl (omega arith),
        head-new 20 refl (omega arith),
        head-new 24 refl (omega arith),
        head-new 28 refl (omega arith),
        head-new 32 refl (omega arith),
        mode-in s,
        default-in 256 2 (word_at s 20) refl,
        default-in 2 0 (word_at s 24) refl,
        default-in 2 0 (word_at s 28) refl,
        default-in 255 1 (word_at s 32) refl,
      )

  module _ (i : ℕ) (l : i < c.tokens) where
    token-new : (k : ℕ) → k % 4 ≡ 0 → k < 20 → word_at (mended s c) (tokens_at + 20 * i + k) ≡ mended_token s c.bytes (tokens_at + 20 * i) k
    token-new k m u = new-token s small c i k m l u

    packed_new : word_at (mended s c) (tokens_at + 20 * i) ≡ mended_packed (word_at s (tokens_at + 20 * i))
    unfolding mended_token
    packed_new = rw (add-zero (tokens_at + 20 * i)) at (token-new 0 refl (omega arith))

    token-words-pass : token_words (mended s c) (tokens_at + 20 * i) ≡ None
    unfolding token_words mended_token
    token-words-pass =
        let at = tokens_at + 20 * i in
        let class = class_bits (mended_packed (word_at s at)) in
        rw (
          packed_new,
          token-new 12 refl (omega arith),
          token-new 16 refl (omega arith),
          packed_in (word_at s at),
          key-a-in s c.bytes (at + 12) class,
          key-b-in s c.bytes (at + 12) class,
        )

    -- ---- check 3

    token-places-pass : token_places (mended s c) c.bytes (tokens_at + 20 * i) ≡ None
    unfolding token_places mended_token place_at
    token-places-pass =
        let at = tokens_at + 20 * i in
        let e₈ : at + 4 + 4 ≡ at + 8 = omega arith in
        let e₁₆ : at + 12 + 4 ≡ at + 16 = omega arith in
        rw (
          e₈,
          e₁₆,
          packed_new,
          token-new 4 refl (omega arith),
          token-new 8 refl (omega arith),
          token-new 12 refl (omega arith),
          token-new 16 refl (omega arith),
          place_in s c.bytes (at + 4),
          key_in s c.bytes (at + 12) (class_bits (mended_packed (word_at s at))),
        )

  module _ (i : ℕ) (l : i < c.params) where
    param-new : (k : ℕ) → k % 4 ≡ 0 → k < 16 → word_at (mended s c) (params_at c + 16 * i + k) ≡ mended_param (mended_mode s) s c.bytes (params_at c + 16 * i) k
    param-new k m u = new-param s small c i k m l u

    name_new : word_at (mended s c) (params_at c + 16 * i) ≡ mended_param (mended_mode s) s c.bytes (params_at c + 16 * i) 0
    name_new = rw (add-zero (params_at c + 16 * i)) at (param-new 0 refl (omega arith))

    param-words-pass : param_words (mended s c) (params_at c + 16 * i) ≡ None
    unfolding param_words mended_head
    param-words-pass =
        let at = params_at c + 16 * i in
        rw (
          head-new 16 refl (omega arith),
          name_new,
          param-new 4 refl (omega arith),
          name_in s c.bytes at (mended_mode s) 0 (omega arith),
          name_in s c.bytes at (mended_mode s) 4 (omega arith),
        )

    param-places-pass : param_places (mended s c) c.bytes (params_at c + 16 * i) ≡ None
    unfolding param_places mended_param place_at
    param-places-pass =
        let at = params_at c + 16 * i in
        let e₁₂ : at + 8 + 4 ≡ at + 12 = omega arith in
        rw (
          e₁₂,
          name_new,
          param-new 4 refl (omega arith),
          param-new 8 refl (omega arith),
          param-new 12 refl (omega arith),
          name-place-in s c.bytes at (mended_mode s),
          place_in s c.bytes (at + 8),
        )

  keep-places-pass : (i : ℕ) → i < c.keeps → keep_places (mended s c) c.bytes (keeps_at c + 8 * i) ≡ None
  unfolding keep_places place_at
  keep-places-pass i l =
      let at = keeps_at c + 8 * i in
      let start : word_at (mended s c) at ≡ place_word s c.bytes at 0 = rw (add-zero at) at (new-keep s small c i 0 refl l (omega arith)) in
      rw (start, new-keep s small c i 4 refl l (omega arith), place_in s c.bytes at)

  -- ---- check 4

  byte-pass : (i : ℕ) → i < c.bytes → body_byte (mended s c) (body_at c + 1 * i) ≡ None
  unfolding body_byte
  byte-pass i l =
      let o : body_at c + 1 * i ≡ body_at c + i = omega arith in
      let x = get_or s (body_at c + i) 0 in
      rw (o, byte-mended s c i l, lt-ltb (mended_byte x) 128 (byte_fits x))

  -- ---- the three in turn

  all_pass : checked_as (mended s c) c ≡ Ok c
  unfolding checked_as
  all_pass =
      let t = mended s c in
      let b = c.bytes in
      rw (
        head-pass,
        none_first (token_words t) 20 tokens_at c.tokens token-words-pass,
        none_first (param_words t) 16 (params_at c) c.params param-words-pass,
        none_first (token_places t b) 20 tokens_at c.tokens token-places-pass,
        none_first (param_places t b) 16 (params_at c) c.params param-places-pass,
        none_first (keep_places t b) 8 (keeps_at c) c.keeps keep-places-pass,
        none_first (body_byte t) 1 (body_at c) b byte-pass,
      )

  -- ---- check 1: the counts are words of the head, and stay

  counts-so : counts_of (mended s c) ≡ counts_of s
  unfolding counts_of mended_head
  counts-so = rw (head-new 0 refl (omega arith), head-new 4 refl (omega arith), head-new 8 refl (omega arith), head-new 12 refl (omega arith))

module _ (s : List ℕ) (small : Small s) (h : sizes s ≡ None) where
  pub same_length : length (mended s (counts_of s)) ≡ length s
  same_length = length-mended s (counts_of s) ∙ sym (sizes-pass s h).long

  pub new-sound : checked (mended s (counts_of s)) ≡ Ok (counts_of s)
  unfolding checked
  new-sound = rw (counts-so s small (counts_of s), same_length, h) (all_pass s small (counts_of s))
