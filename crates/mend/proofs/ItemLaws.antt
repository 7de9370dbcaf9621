-- The items that change, and their rows in a report. Assumes nothing.
use Rattle.std.proofs.Common.{◌≡◌, refl, ◌∙◌, cond, List, [], ◌∷◌, ◌++◌, map, ℕ, ◌+◌, ◌-◌, ◌*◌, ◌≤◌, ◌<◌, length, take, replicate, arith, append_assoc, append-nil}
use Rattle.std.proofs.lemmas.List.{length-append, length-map, map-append}
use Rattle.std.proofs.lemmas.List.FromFn.{take-map-range_with_len, filter_of_map_range_with_len_more}
use Rattle.std.proofs.lemmas.List.Sums.{length-filter, sum_by-take-le}
use Rattle.std.specs.List.{range_with_len}
use native.Mathlib.Nat.{sub-zero}
use lib.Seq.{take_at, drop_at}
use borrow.Author.Tests.{eq-eqb, ne_eqb}
use borrow.Rule.Slice.PartMut.{put_mid}
use Rattle.rules.specs.declared.Counts.{Counts}
use Rattle.text.proofs.PutLaws.{drop-replicate}
use Rattle.mended.proofs.Call.{length-rows}
use Rattle.mended.specs.Mended.{Change, change_words}
use Rattle.mend.specs.declared.Item.{Item}
use Rattle.mend.specs.Items.{item_count, item_of, differs, changed_to, changed_in, row_of, report_of}

-- ---- the items that change

module _ (s : List ℕ) (c : Counts) where
  pub more : (k : ℕ) → changed_to s c (k + 1) ≡ changed_to s c k ++ cond (differs (item_of s c k)) (item_of s c k ∷ []) []
  unfolding changed_to
  more k = filter_of_map_range_with_len_more differs (item_of s c) 0 k k (omega arith)

  few : (k : ℕ) → k ≤ item_count c → length (changed_to s c k) ≤ length (changed_in s c)
  unfolding changed_to
  few k l =
      let items = map (item_of s c) (range_with_len 0 (item_count c)) in
      rw (← take-map-range_with_len (item_of s c) 0 (item_count c) k l, length-filter differs (take k items), length-filter differs items) (sum_by-take-le (λ x. cond (differs x) 1 0) items k)

  -- no item, and one more
  pub none : changed_to s c 0 ≡ []
  unfolding changed_to
  none = refl

  module _ (k : ℕ) (x : Item) (e : x ≡ item_of s c k) where
    pub more_same : x.old ≡ x.new → changed_to s c (k + 1) ≡ changed_to s c k
    more_same h = more k ∙ rw (← e, eq-eqb x.old x.new h) (append-nil (changed_to s c k))

    pub more_changed : (x.old ≡ x.new → ⊥) → changed_to s c (k + 1) ≡ changed_to s c k ++ x ∷ []
    more_changed n = more k ∙ rw (← e, ne_eqb x.old x.new n)

    -- there is room for its row
    pub room_for : k < item_count c → (x.old ≡ x.new → ⊥) → length (changed_to s c k) + 1 ≤ length (changed_in s c)
    room_for l n = let f = rw (more_changed n, length-append) at (few (k + 1) (omega arith)) in f

-- ---- the report

words-append : (xs ys : List Change) → change_words (xs ++ ys) ≡ change_words xs ++ change_words ys
unfolding change_words
words-append [] ys = refl
words-append (x ∷ xs) ys = rw (words-append xs ys)

pub report_begins : (s : List ℕ) (c : Counts) (d : List ℕ) → d ≡ replicate (length d) 0 → (0 ≡ 3 * length (changed_to s c 0)) × (d ≡ report_of (length d) (changed_to s c 0))
unfolding changed_to report_of change_words
report_begins s c d h = (refl, rw (sub-zero (length d)) h)

-- one row more
pub report_more : (room : ℕ) (xs : List Item) (x : Item) (d : List ℕ) (at k : ℕ) → d ≡ report_of room xs → at ≡ 3 * length xs → k ≡ 3 → at + 3 ≤ room
    → put_mid at k d (x.at ∷ x.old ∷ x.new ∷ []) ≡ report_of room (xs ++ x ∷ [])
unfolding report_of change_words
report_more room xs x d at k ed ea ek l =
    let rows = change_words (map row_of xs) in
    let long : length rows ≡ at = omega (arith, length-rows (map row_of xs), length-map xs row_of) in
    let rest : room - 3 * length xs - 3 ≡ room - 3 * length (xs ++ x ∷ []) = rw length-append (omega arith) in
    rw (ed, ek, take_at rows _ at long, drop_at rows _ at long, drop-replicate, rest, map-append, words-append, append_assoc)
