-- A list for rows holds these rows, so what a function promises of the words it promises of the rows. Assumes nothing.
use mathlib.Core.Path.{◌≡◌, refl, sym, ap, ◌∙◌}
use mathlib.Core.Bool.{Bool, true, false}
use Rattle.std.specs.Prelude.{Option, None, Some, if◌then◌else◌}
use mathlib.Core.List.{List, [], ◌∷◌, ◌++◌, map, append_assoc}
use Prim.Native.Nat.{ℕ, zero, suc, ◌+◌, ◌-◌, ◌*◌, ◌<◌}
use native.Mathlib.Omega.{arith}
use lib.Dec.{eqb}
use lib.ListN.{length, get_or, replicate, length-map}
use borrow.Author.Tests.{ne_eqb}
use Rattle.rules.specs.Base.{◌▹◌, when}
use Rattle.rules.specs.Rows.{Row, between, clip, entry_word, row_words, rows_words}
use Rattle.rows.specs.Listing.{entry_of, row_of, row_at, rows_in, listing, count_after, Words}
use Rattle.rows.proofs.ReadLaws.{length-rows, length-in, token-in, entry_in, start-in, len-in}

-- an entry's number that is below the word for none
pub entry-back : (o : Option ℕ) → ((n : ℕ) → o ≡ Some n → n < 4294967295) → entry_of (entry_word o) ≡ o
unfolding entry_of entry_word
entry-back None l = refl
entry-back (Some n) l = let h : n < 4294967295 = l n refl in rw (ne_eqb n 4294967295 (λ z. omega arith))

-- each row's entry has a word
unfoldable pub Worded : List Row → Type 0
Worded [] = Unit {0}
Worded (r ∷ rs) = (entry_of (entry_word r.entry) ≡ r.entry) × Worded rs

-- ---- the rows of such a list

row_back : (A rest : List ℕ) (r : Row) (at : ℕ) → at ≡ length A → entry_of (entry_word r.entry) ≡ r.entry → row_at (A ++ (row_words r ++ rest)) at ≡ r
unfolding row_at row_of
row_back A rest r at ea w = rw (token-in A rest r at ea, entry_in A rest r at ea, start-in A rest r at ea, len-in A rest r at ea, w)

rows_in_lem : (rs : List Row) (rest : List ℕ) → Worded rs → rows_in (length rs) (rows_words rs ++ rest) ≡ rs
unfolding rows_in rows_words Worded
rows_in_lem [] rest w = refl
rows_in_lem (r ∷ rs) rest w =
    rw (append_assoc (rows_words rs) (row_words r) rest, row_back (rows_words rs) rest r (5 * length rs) (sym (length-rows rs)) w.0, rows_in_lem rs (row_words r ++ rest) w.1)

module _ (d : List ℕ) (rs : List Row) (count : ℕ) (h : d ≡ listing (length d) rs) (w : Worded rs) (e : length rs ≡ count) where
  pub rows_back : rows_in count d ≡ rs
  unfolding listing
  rows_back = ap (λ (k : ℕ). rows_in k d) (sym e) ∙ ap (rows_in (length rs)) h ∙ rows_in_lem rs (replicate (length d - length (rows_words rs)) 0) w

  pub words_back : Words d count
  words_back = record { words = rw rows_back h }

-- ---- the rows that the functions make

worded_word : (n : ℕ) → entry_of (entry_word (entry_of n)) ≡ entry_of n
unfolding entry_of entry_word
worded_word n = by-test (eqb n 4294967295) refl
  where
    by-test : (b : Bool) → eqb n 4294967295 ≡ b → entry_of (entry_word (if b then None else Some n)) ≡ (if b then None else Some n)
    by-test true e = refl
    by-test false e = rw e

pub worded_in : (count : ℕ) (d : List ℕ) → Worded (rows_in count d)
unfolding Worded rows_in row_at row_of
worded_in zero d = tt
worded_in (suc k) d = (worded_word (get_or d (5 * k + 1) 0), worded_in k d)

pub worded_map : (f : Row → Row) → ((r : Row) → (f r).entry ≡ r.entry) → (rs : List Row) → Worded rs → Worded (map f rs)
unfolding Worded
worded_map f e [] w = tt
worded_map f e (r ∷ rs) w = (rw (e r) w.0, worded_map f e rs w.1)

worded_clip : (n : ℕ) (rs : List Row) → Worded rs → Worded (map (clip n) rs)
unfolding clip between
worded_clip n rs w = worded_map (clip n) (λ r. refl) rs w

-- ---- after a cut

module _ (d d' : List ℕ) (count low : ℕ) (n : length d' ≡ length d) (h : d' ≡ listing (length d) (map (clip low) (rows_in count d))) where
  pub clip_rows : rows_in count d' ≡ map (clip low) (rows_in count d)
  clip_rows = rows_back d' (map (clip low) (rows_in count d)) count (rw (← n) at h) (worded_clip low (rows_in count d) (worded_in count d)) (length-map (rows_in count d) (clip low) ∙ length-in count d)

  pub clip_words : Words d' count
  clip_words = words_back d' (map (clip low) (rows_in count d)) count (rw (← n) at h) (worded_clip low (rows_in count d) (worded_in count d)) (length-map (rows_in count d) (clip low) ∙ length-in count d)

-- ---- after a token

module _ (d d' : List ℕ) (count low : ℕ) (b : Bool) (token entry start len : ℕ) (n : length d' ≡ length d) where
  abbrev pub rows_taken : List Row
  rows_taken = map (clip low) (rows_in count d) ▹ when b (λ qs. row_of token entry start len ∷ qs)

  worded_taken : (c : Bool) → Worded (map (clip low) (rows_in count d) ▹ when c (λ qs. row_of token entry start len ∷ qs))
  unfolding when Worded row_of
  worded_taken true = (worded_word entry, worded_clip low (rows_in count d) (worded_in count d))
  worded_taken false = worded_clip low (rows_in count d) (worded_in count d)

  length_taken : (c : Bool) → length (map (clip low) (rows_in count d) ▹ when c (λ qs. row_of token entry start len ∷ qs)) ≡ count_after c count
  unfolding when count_after
  length_taken true = let e = length-map (rows_in count d) (clip low) in let f = length-in count d in omega arith
  length_taken false = length-map (rows_in count d) (clip low) ∙ length-in count d

  module _ (h : d' ≡ listing (length d) rows_taken) where
    pub rows-after : rows_in (count_after b count) d' ≡ rows_taken
    rows-after = rows_back d' rows_taken (count_after b count) (rw (← n) at h) (worded_taken b) (length_taken b)

    pub words-after : Words d' (count_after b count)
    words-after = words_back d' rows_taken (count_after b count) (rw (← n) at h) (worded_taken b) (length_taken b)
