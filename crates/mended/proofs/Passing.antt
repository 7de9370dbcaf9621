-- Each new number passes the tests of checks 2 and 3. Assumes nothing.
use Rattle.std.proofs.Common.{◌≡◌, ℕ, ◌+◌, ◌<◌, true, List, arith, add-zero}
use Rattle.std.proofs.lemmas.Bool.Decides.{nat_tests}
use lib.Dec.{leb}
use Rattle.rules.specs.Words.{word_at, place_at}
use Rattle.rules.specs.Checks.{mode_fits, packed_fits, key_afits, key_bfits, name_fits, key_in_body}
use Rattle.mended.specs.Mended.{mended_mode, or_default, mended_packed, place_word, key_word, mended_param}

pub default-in : (most default w : ℕ) → leb default most ≡ true → leb (or_default most default w) most ≡ true
default-in most default w d = grind (arith, nat_tests)

pub mode-in : (s : List ℕ) → mode_fits (mended_mode s) (word_at s 4) ≡ true
unfolding mended_mode
mode-in s = grind (arith, nat_tests)

pub packed_in : (w : ℕ) → packed_fits (mended_packed w) ≡ true
unfolding mended_packed
packed_in w = grind (arith, nat_tests)

module _ (s : List ℕ) (bytes at : ℕ) where
  pub place_in : leb (place_word s bytes at 0 + place_word s bytes at 4) bytes ≡ true
  unfolding place_word place_at
  place_in = rw (add-zero at) (grind (arith, nat_tests))

  pub key-a-in : (class : ℕ) → key_afits class (key_word class s bytes at 0) ≡ true
  unfolding key_word
  key-a-in class = grind (arith, nat_tests)

  pub key-b-in : (class : ℕ) → key_bfits class (key_word class s bytes at 4) ≡ true
  unfolding key_word
  key-b-in class = grind (arith, nat_tests)

  pub key_in : (class : ℕ) → key_in_body class (record { start = key_word class s bytes at 0; len = key_word class s bytes at 4 }) bytes ≡ true
  unfolding key_word
  key_in class = let p = place_in in grind (arith, nat_tests)

  -- the names stand in mode 2 alone
  module _ (mode : ℕ) where
    pub name_in : (k : ℕ) → k < 8 → name_fits mode (mended_param mode s bytes at k) ≡ true
    unfolding mended_param
    name_in k l = grind (arith, nat_tests)

    pub name-place-in : leb (mended_param mode s bytes at 0 + mended_param mode s bytes at 4) bytes ≡ true
    unfolding mended_param
    name-place-in = let p = place_in in grind (arith, nat_tests)
