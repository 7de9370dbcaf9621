-- Wish 10 for its reader: what a mended sheet is to the sheet that it was made of, and what the call gives.
use Rattle.std.specs.Prelude.{◌≡◌, List, [], ◌∷◌, ℕ, zero, suc, ◌-◌, ◌*◌, length, drop, replicate, get_or, Ok}
use Rattle.rules.specs.declared.Counts.{Counts}
use Rattle.rules.specs.declared.Outcome.{Outcome}
use Rattle.rules.specs.Words.{counts_of, body_at}
use Rattle.rules.specs.Checks.{checked}
use Rattle.mended.specs.Mended.{mended, Change, changes, mends, mend, undone}

-- the first n rows of a report, three words each
unfoldable pub rows_in : ℕ → List ℕ → List Change
rows_in zero ws = []
rows_in (suc n) ws = record { at = get_or ws 0 0; old = get_or ws 1 0; new = get_or ws 2 0 } ∷ rows_in n (drop 3 ws)

-- sheet t made of sheet s by some rows
pub record GoodSheet (s t : List ℕ) (rows : List Change) : Type 0 where
  -- it passes checks 1 to 4, and its counts are the old ones
  pub sound : checked t ≡ Ok (counts_of s)
  -- mending it changes nothing
  pub again : mended t (counts_of t) ≡ t
  -- the rows undone give the old sheet
  pub back : undone (body_at (counts_of s)) rows t ≡ s
  pub longs : length t ≡ length s

-- the call on sheet s with a report of k words: its outcome, and the sheet and the report afterwards
pub record Mends (s : List ℕ) (k : ℕ) (r : Outcome) (t report : List ℕ) : Type 0 where
  -- where nothing is refused the new sheet is good by the report's own rows
  pub good : r.refusal ≡ 0 → GoodSheet s t (rows_in r.length report)
  -- they are all that the two sheets differ in, in file order, and the report is zero after them
  pub rows : r.refusal ≡ 0 → rows_in r.length report ≡ changes s t (counts_of s)
  pub rest : r.refusal ≡ 0 → drop (3 * r.length) report ≡ replicate (k - 3 * r.length) 0
  -- the call on the new sheet, with any report, gives it back with no row
  pub again : r.refusal ≡ 0 → (n : ℕ) → mend t n ≡ mends t []
  -- a refusal leaves the sheet as it came and the report zero
  pub refused : (r.refusal ≡ 0 → ⊥) → (t ≡ s) × (report ≡ replicate k 0)
  -- a sound sheet is not refused, and stays as it was, with no row
  pub untouched : (c : Counts) → checked s ≡ Ok c → (r ≡ record { refusal = 0; place = 0; length = 0 }) × ((t ≡ s) × (report ≡ replicate k 0))
