-- The words and the body bytes of a sheet as items in file order, those that change, and their rows in a report.
use Rattle.std.specs.Prelude.{if◌then◌else◌, List, map, ◌++◌, ℕ, ◌+◌, ◌-◌, ◌*◌, ◌≤◌, ◌<◌, Bool, not, eqb, ltb, length, get_or, filter, replicate}
use Rattle.std.specs.List.{range_with_len}
use Rattle.rules.specs.declared.Counts.{Counts}
use Rattle.rules.specs.Words.{word_at, body_at}
use Rattle.rules.specs.Compacted.{word_count}
use Rattle.mended.specs.Mended.{mended_word, mended_byte, Change, change_words}
use Rattle.mend.specs.declared.Item.{Item}

abbrev pub item_count : Counts → ℕ
item_count c = word_count c + c.bytes

-- item k: a word before the bodies, or a body byte
unfoldable pub item_of : List ℕ → Counts → ℕ → Item
item_of s c k =
    if ltb k (word_count c) then record { at = 4 * k; old = word_at s (4 * k); new = mended_word s c (4 * k) }
    else (let at = body_at c + (k - word_count c) in record { at = at; old = get_or s at 0; new = mended_byte (get_or s at 0) })

abbrev pub differs : Item → Bool
differs x = not (eqb x.old x.new)

-- of the first n items those that change
unfoldable pub changed_to : List ℕ → Counts → ℕ → List Item
changed_to s c n = filter differs (map (item_of s c) (range_with_len 0 n))

abbrev pub changed_in : List ℕ → Counts → List Item
changed_in s c = changed_to s c (item_count c)

-- ---- the report

abbrev pub row_of : Item → Change
row_of x = record { at = x.at; old = x.old; new = x.new }

-- of so many words
unfoldable pub report_of : ℕ → List Item → List ℕ
report_of room xs = change_words (map row_of xs) ++ replicate (room - 3 * length xs) 0

-- what a row writes lies in a sheet of n bytes, and fits there
pub record RowIn (base n at new : ℕ) : Type 0 where
  pub word_in : at < base → at + 4 ≤ n
  pub byte_in : base ≤ at → at < n
  pub byte_fits : base ≤ at → new < 256
