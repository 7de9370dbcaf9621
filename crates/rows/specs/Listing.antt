-- The lent list of words: the rows that it holds, the last of them first, and zero after them; and the rows' order in the text.
use Rattle.std.specs.Prelude.{if◌then◌else◌, ◌≡◌, Bool, List, [], ◌∷◌, ◌++◌, ℕ, zero, suc, ◌+◌, ◌-◌, ◌*◌, ◌/◌, ◌%◌, ◌^◌, ◌≤◌, eqb, length, get_or, set, replicate, Option, None, Some}
use Rattle.rules.specs.Rows.{Row, rows_words}

-- ---- one row, whose words stand from `at` on

unfoldable pub start_at : List ℕ → ℕ → ℕ
start_at d at = get_or d (at + 2) 0 + get_or d (at + 3) 0 * 2 ^ 32

unfoldable pub len_at : List ℕ → ℕ → ℕ
len_at d at = get_or d (at + 4) 0

-- the words of the row's start and length, written anew
unfoldable pub with_span : List ℕ → ℕ → ℕ → ℕ → List ℕ
with_span d at start len = set (set (set d (at + 2) (start % 2 ^ 32)) (at + 3) (start / 2 ^ 32)) (at + 4) len

-- an entry's word: the greatest is none
unfoldable pub entry_of : ℕ → Option ℕ
entry_of w = if eqb w 4294967295 then None else Some w

unfoldable pub row_of : ℕ → ℕ → ℕ → ℕ → Row
row_of token entry start len = record { token = token; entry = entry_of entry; start = start; len = len }

unfoldable pub row_at : List ℕ → ℕ → Row
row_at d at = row_of (get_or d at 0) (get_or d (at + 1) 0) (start_at d at) (len_at d at)

-- ---- the list

-- the first k rows
unfoldable pub rows_in : ℕ → List ℕ → List Row
rows_in zero d = []
rows_in (suc k) d = row_at d (5 * k) ∷ rows_in k d

-- a list of k words for rows, and zero after them
unfoldable pub listing : ℕ → List Row → List ℕ
listing k rs = rows_words rs ++ replicate (k - length (rows_words rs)) 0

unfoldable pub count_after : Bool → ℕ → ℕ
count_after b count = if b then count + 1 else count

-- ---- the order

-- each row ends at or before n, and where the row after it starts
unfoldable pub Under : ℕ → List Row → Type 0
Under n [] = Unit {0}
Under n (r ∷ rs) = (r.start + r.len ≤ n) × Under r.start rs

unfoldable pub InOrder : List Row → Type 0
InOrder [] = Unit {0}
InOrder (r ∷ rs) = Under r.start rs

-- ---- what the functions ask

-- the list is `count` rows and zero after them
pub record Words (d : List ℕ) (count : ℕ) : Type 0 where
  pub words : d ≡ listing (length d) (rows_in count d)

-- and they stand in order
pub record Listed (d : List ℕ) (count : ℕ) : Type 0 where
  pub listed : Words d count
  pub order : InOrder (rows_in count d)
