-- The words of a row, read in a list: A stands before them, and rest after them. Assumes nothing.
use mathlib.Core.Path.{◌≡◌, refl, ap, ◌∙◌}
use mathlib.Core.List.{List, [], ◌∷◌, ◌++◌}
use Prim.Native.Nat.{ℕ, zero, suc, ◌+◌, ◌*◌, ◌^◌}
use native.Mathlib.Omega.{arith}
use native.Mathlib.Nat.{mod-add-div'}
use lib.ListN.{length, get_or, length-append}
use lib.Seq.{get_or-append-add}
use Rattle.rules.specs.Rows.{Row, row_words, rows_words, entry_word}
use Rattle.rows.specs.Listing.{start_at, len_at, rows_in}

-- ---- lengths

pub length-rows : (rs : List Row) → length (rows_words rs) ≡ 5 * length rs
unfolding rows_words row_words
length-rows [] = refl
length-rows (r ∷ rs) =
    let e = length-append (rows_words rs) (row_words r) in
    let i = length-rows rs in omega arith

pub length-in : (k : ℕ) (d : List ℕ) → length (rows_in k d) ≡ k
unfolding rows_in
length-in zero d = refl
length-in (suc k) d = ap suc (length-in k d)

-- ---- one row

module _ (A rest : List ℕ) (r : Row) (at : ℕ) (ea : at ≡ length A) where
  abbrev pub all : List ℕ
  all = A ++ (row_words r ++ rest)

  words-at : (n : ℕ) → get_or all (at + n) 0 ≡ get_or (row_words r ++ rest) n 0
  words-at n = rw ea (get_or-append-add A (row_words r ++ rest) n 0)

  pub token-in : get_or all at 0 ≡ r.token
  unfolding row_words
  token-in = ap (λ (n : ℕ). get_or all n 0) (let e : at ≡ at + 0 = omega arith in e) ∙ words-at 0

  pub entry_in : get_or all (at + 1) 0 ≡ entry_word r.entry
  unfolding row_words
  entry_in = words-at 1

  pub start-in : start_at all at ≡ r.start
  unfolding start_at row_words
  start-in = rw (words-at 2, words-at 3) (mod-add-div' r.start (2 ^ 32))

  pub len-in : len_at all at ≡ r.len
  unfolding len_at row_words
  len-in = words-at 4
