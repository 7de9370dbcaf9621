-- Each new number of a mended sheet fits: a word in four bytes, a byte in one. Assumes nothing.
use Rattle.std.proofs.Common.{ℕ, ◌+◌, ◌-◌, ◌%◌, ◌<◌, List, arith}
use Rattle.std.proofs.lemmas.Bool.Decides.{nat_tests}
use Rattle.rules.specs.declared.Counts.{Counts}
use Rattle.rules.specs.Words.{word_at, class_bits, params_at, keeps_at}
use Rattle.word_bytes.proofs.WordLaws.{Small, word_small}
use Rattle.mended.specs.Mended.{mended_mode, or_default, mended_head, mended_packed, place_word, key_word, mended_token, mended_param, mended_word, mended_byte}

module _ (s : List ℕ) (small : Small s) where
  abbrev Word : ℕ → Type 0
  Word w = w < 4294967296

  old : (at : ℕ) → Word (word_at s at)
  old at = word_small s small at

  mode-fits : Word (mended_mode s)
  unfolding mended_mode
  mode-fits = let w = old 16 in grind (arith, nat_tests)

  default-fits : (most default at : ℕ) → Word default → Word (or_default most default (word_at s at))
  default-fits most default at h = let w = old at in grind (arith, nat_tests)

  head-fits : (at : ℕ) → Word (mended_head s at)
  unfolding mended_head
  head-fits at =
      let m = mode-fits in
      let a = default-fits 256 2 20 (omega arith) in
      let b = default-fits 2 0 24 (omega arith) in
      let d = default-fits 2 0 28 (omega arith) in
      let e = default-fits 255 1 32 (omega arith) in
      let w = old at in grind (arith, nat_tests)

  module _ (bytes at k : ℕ) where
    place_fits : Word (place_word s bytes at k)
    unfolding place_word
    place_fits = let w = old (at + k) in grind (arith, nat_tests)

    key_fits : (class : ℕ) → Word (key_word class s bytes at k)
    unfolding key_word
    key_fits class = let p = place_fits in let w = old at in grind (arith, nat_tests)

  packed-fits : (at : ℕ) → Word (mended_packed (word_at s at))
  unfolding mended_packed
  packed-fits at = let w = old at in grind (arith, nat_tests)

  token-fits : (bytes at k : ℕ) → Word (mended_token s bytes at k)
  unfolding mended_token
  token-fits bytes at k =
      let w = packed-fits at in
      let p = place_fits bytes (at + 4) (k - 4) in
      let n = key_fits bytes (at + 12) (k - 12) (class_bits (mended_packed (word_at s at))) in grind (arith, nat_tests)

  param-fits : (mode bytes at k : ℕ) → Word (mended_param mode s bytes at k)
  unfolding mended_param
  param-fits mode bytes at k = let n = place_fits bytes at k in let v = place_fits bytes (at + 8) (k - 8) in grind (arith, nat_tests)

  pub word_fits : (c : Counts) (at : ℕ) → Word (mended_word s c at)
  unfolding mended_word
  word_fits c at =
      let h = head-fits at in
      let t = token-fits c.bytes (at - (at - 48) % 20) ((at - 48) % 20) in
      let p = param-fits (mended_mode s) c.bytes (at - (at - params_at c) % 16) ((at - params_at c) % 16) in
      let k = place_fits c.bytes (at - (at - keeps_at c) % 8) ((at - keeps_at c) % 8) in grind (arith, nat_tests)

pub byte_fits : (x : ℕ) → mended_byte x < 128
unfolding mended_byte
byte_fits x = grind (arith, nat_tests)
