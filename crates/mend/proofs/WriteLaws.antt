-- The rows are the changes from the sheet to the mended one; written into the sheet they give it. Assumes nothing.
use Rattle.std.proofs.Common.{◌≡◌, refl, sym, ap, ◌∙◌, Bool, true, false, not, cond, List, [], ◌∷◌, ◌++◌, map, ℕ, zero, suc, ◌+◌, ◌-◌, ◌*◌, ◌≤◌, ◌<◌, eqb, ltb, length, take, drop, set, get_or, arith, add-one, append-nil, append_assoc}
use Rattle.std.specs.Prelude.{if◌then◌else◌}
use Rattle.std.proofs.lemmas.List.{map-append}
use Rattle.std.proofs.lemmas.List.Elements.{All-map, All-filter, All-get_or, All-from_get_or}
use Rattle.std.proofs.lemmas.List.FromFn.{length-range_with_len, get_or-range_with_len}
use Rattle.std.specs.List.{All, range_with_len}
use native.Mathlib.Nat.{add-zero, add-suc}
use lib.ListN.{drop_of_length-le}
use lib.Seq.{drop-cons, set_split, append_snoc}
use borrow.Author.Tests.{lt-ltb, le-ltb, ltb-true, ltb-false}
use Rattle.rules.specs.declared.Counts.{Counts}
use Rattle.rules.specs.Words.{word_at, body_at}
use Rattle.rules.specs.Compacted.{word_count}
use Rattle.checks.specs.Sound.{Sized}
use Rattle.word_bytes.proofs.WordLaws.{Small}
use Rattle.mended.specs.Mended.{mended_word, mended_byte, mended, Change, change, word_changes, byte_changes, changes, change_words, written_at, done}
use Rattle.mended.proofs.Fits.{byte_fits}
use Rattle.mended.proofs.Laws.{length-mended, small-mended, word-mended, byte-mended}
use Rattle.mended.proofs.Done.{done-is}
use Rattle.mend.specs.declared.Item.{Item}
use Rattle.mend.specs.Items.{item_count, item_of, differs, changed_to, changed_in, row_of, report_of, RowIn}
use Rattle.mend.proofs.ItemLaws.{none, more}

-- ---- one row

pub by_byte : (base at new : ℕ) (d : List ℕ) → base ≤ at → at < length d → set d at new ≡ written_at base at new d
unfolding written_at
by_byte base at new d l h = set_split d at new h ∙ rw (le-ltb at base l, add-one at) (sym (append_snoc (take at d) new (drop (suc at) d)))

-- ---- the rows are the changes

row-change : (x : Item) → map row_of (cond (differs x) (x ∷ []) []) ≡ change x.at x.old x.new
row-change x = by-test (eqb x.old x.new)
  where
    by-test : (b : Bool) → map row_of (cond (not b) (x ∷ []) []) ≡ (if b then [] else row_of x ∷ [])
    by-test true = refl
    by-test false = refl

module _ (s : List ℕ) (c : Counts) where
  word-item : (k : ℕ) → k < word_count c → item_of s c k ≡ record { at = 4 * k; old = word_at s (4 * k); new = mended_word s c (4 * k) }
  unfolding item_of
  word-item k l = rw (lt-ltb k (word_count c) l)

  byte-item : (j : ℕ) → item_of s c (word_count c + j) ≡ record { at = body_at c + j; old = get_or s (body_at c + j) 0; new = mended_byte (get_or s (body_at c + j) 0) }
  unfolding item_of
  byte-item j = let e : word_count c + j - word_count c ≡ j = omega arith in rw (le-ltb (word_count c + j) (word_count c) (omega arith), e)

  rows-more : (k : ℕ) → map row_of (changed_to s c (suc k)) ≡ map row_of (changed_to s c k) ++ change (item_of s c k).at (item_of s c k).old (item_of s c k).new
  rows-more k = rw (← add-one k, more s c k, map-append) (ap (λ (r : List Change). map row_of (changed_to s c k) ++ r) (row-change (item_of s c k)))

  module _ (small : Small s) where
    words-are : (k : ℕ) → k ≤ word_count c → word_changes s (mended s c) k ≡ map row_of (changed_to s c k)
    unfolding word_changes
    words-are zero l = rw (none s c)
    words-are (suc k) l = rw (words-are k (omega arith), rows-more k, word-item k (omega arith), word-mended s c small k (omega arith))

    bytes-are : (j : ℕ) → j ≤ c.bytes → word_changes s (mended s c) (word_count c) ++ byte_changes s (mended s c) (body_at c) j ≡ map row_of (changed_to s c (word_count c + j))
    unfolding byte_changes
    bytes-are zero l = rw (add-zero (word_count c), ← words-are (word_count c) (omega arith)) (append-nil _)
    bytes-are (suc j) l =
        rw (add-suc (word_count c) j, rows-more (word_count c + j), byte-item j, ← bytes-are j (omega arith), byte-mended s c j (omega arith))
        (sym (append_assoc (word_changes s (mended s c) (word_count c)) (byte_changes s (mended s c) (body_at c) j) (change (body_at c + j) (get_or s (body_at c + j) 0) (mended_byte (get_or s (body_at c + j) 0)))))

    pub rows_are : changes s (mended s c) c ≡ map row_of (changed_in s c)
    unfolding changes
    rows_are = bytes-are c.bytes (omega arith)

-- ---- each row lies in the sheet

module _ (s : List ℕ) (c : Counts) (h : Sized s c) where
  abbrev In : Item → Type 0
  In x = RowIn (body_at c) (length s) x.at x.new

  item-in : (k : ℕ) → k < item_count c → In (item_of s c k)
  unfolding item_of
  item-in k l = by-test (ltb k (word_count c)) refl
    where
      by-test : (b : Bool) → ltb k (word_count c) ≡ b → In (if b then record { at = 4 * k; old = word_at s (4 * k); new = mended_word s c (4 * k) } else (let at = body_at c + (k - word_count c) in record { at = at; old = get_or s at 0; new = mended_byte (get_or s at 0) }))
      by-test true e =
          let m = ltb-true k (word_count c) e in
          let n = h.long in record { word_in = λ i. omega arith; byte_in = λ i. absurd (omega arith); byte_fits = λ i. absurd (omega arith) }
      by-test false e =
          let m = ltb-false k (word_count c) e in
          let n = h.long in
          let b = byte_fits (get_or s (body_at c + (k - word_count c)) 0) in record { word_in = λ i. absurd (omega arith); byte_in = λ i. omega arith; byte_fits = λ i. omega arith }

  rows-in : All In (changed_in s c)
  unfolding changed_to
  rows-in =
      let n = item_count c in
      All-filter differs In (map (item_of s c) (range_with_len 0 n)) (All-map In (item_of s c) (range_with_len 0 n)
      (All-from_get_or (λ k. In (item_of s c k)) (range_with_len 0 n) 0 (λ i l. let m = rw (length-range_with_len 0 n) at l in rw (get_or-range_with_len 0 n i 0 m) (item-in (0 + i) (omega arith)))))

-- ---- row i of the report

abbrev nothing : Item
nothing = record { at = 0; old = 0; new = 0 }

row-words : (xs : List Item) (rest : List ℕ) (i : ℕ) → i < length xs
    → (get_or (change_words (map row_of xs) ++ rest) (3 * i) 0 ≡ (get_or xs i nothing).at) × (get_or (change_words (map row_of xs) ++ rest) (3 * i + 2) 0 ≡ (get_or xs i nothing).new)
unfolding change_words
row-words [] rest i l = absurd (omega arith)
row-words (x ∷ xs) rest zero l = (refl, refl)
row-words (x ∷ xs) rest (suc i) l =
    let e : 3 * suc i ≡ suc (suc (suc (3 * i))) = omega arith in
    let f : 3 * suc i + 2 ≡ suc (suc (suc (3 * i + 2))) = omega arith in rw (f, e) (row-words xs rest i (omega arith))

-- ---- the rows, one after the other: what those from row i on make of a sheet u is the mended sheet

module _ (s : List ℕ) (c : Counts) where
  abbrev pub Writing : ℕ → List ℕ → Type 0
  Writing i u = done (body_at c) (map row_of (drop i (changed_in s c))) u ≡ mended s c

  pub write_begins : Sized s c → Small s → Writing 0 s
  write_begins h small = let l = length-mended s c in rw (← rows_are s c small) (done-is s (mended s c) small (small-mended s c) (h.long ∙ sym l) c l)

  module _ (report : List ℕ) (room i : ℕ) (er : report ≡ report_of room (changed_in s c)) (l : i < length (changed_in s c)) where
    row-read : (get_or report (3 * i) 0 ≡ (get_or (changed_in s c) i nothing).at) × (get_or report (3 * i + 2) 0 ≡ (get_or (changed_in s c) i nothing).new)
    unfolding report_of
    row-read = rw er (row-words (changed_in s c) _ i l)

    pub row_in : Sized s c → RowIn (body_at c) (length s) (get_or report (3 * i) 0) (get_or report (3 * i + 2) 0)
    row_in h = rw (row-read.0, row-read.1) (All-get_or (In s c h) (changed_in s c) i nothing l (rows-in s c h))

    pub write_on : (u : List ℕ) → Writing i u → Writing (i + 1) (written_at (body_at c) (get_or report (3 * i) 0) (get_or report (3 * i + 2) 0) u)
    unfolding done
    write_on u w = rw (row-read.0, row-read.1, add-one i) (rw (drop-cons (changed_in s c) i nothing l) at w)

  pub write_ends : (i : ℕ) (u : List ℕ) → length (changed_in s c) ≤ i → Writing i u → u ≡ mended s c
  unfolding done
  write_ends i u l w = rw (drop_of_length-le (changed_in s c) l) at w
