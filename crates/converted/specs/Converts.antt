-- Wish 12 for its reader: what the converting call gives, and what a compacted sheet that was stored with word 7 at 1 is.
use Rattle.std.specs.Prelude.{◌≡◌, List, ℕ, ◌≤◌, length, take, get_or, Ok}
use Rattle.rules.specs.declared.Counts.{Counts}
use Rattle.rules.specs.declared.Outcome.{Outcome}
use Rattle.rules.specs.Words.{word_at}
use Rattle.rules.specs.Checks.{checked}
use Rattle.rules.specs.Compacted.{compacted, SameSheet}
use Rattle.converted.specs.Converted.{converted, converts, convert}

-- the call on sheet s: its outcome, and the sheet afterwards
pub record Converts (s : List ℕ) (r : Outcome) (t : List ℕ) : Type 0 where
  -- no byte but 28 is another, and none is added or lost
  pub others : (i : ℕ) → (i ≡ 28 → ⊥) → get_or t i 0 ≡ get_or s i 0
  pub longs : length t ≡ length s
  -- a sheet that passes checks 1 to 4 is not refused, and the new one passes them with the same counts
  pub sound : (c : Counts) → checked s ≡ Ok c → (r.refusal ≡ 0) × (checked t ≡ Ok c)
  -- where nothing is refused, 1 becomes 2, and every other word 7 stays; so it is not 1
  pub becomes : r.refusal ≡ 0 → word_at s 28 ≡ 1 → word_at t 28 ≡ 2
  pub not_one : r.refusal ≡ 0 → word_at t 28 ≡ 1 → ⊥
  pub stays : (word_at s 28 ≡ 1 → ⊥) → t ≡ s
  -- converting the new sheet changes nothing
  pub again : r.refusal ≡ 0 → convert t ≡ converts t 0
  -- compacting and converting may be done in either order
  pub commutes : (c : Counts) → checked s ≡ Ok c → compacted t c ≡ converted (compacted s c)
  -- a refusal is one of 1 to 4, and leaves the sheet as it came
  pub numbers : r.refusal ≤ 4
  pub refused : (r.refusal ≡ 0 → ⊥) → t ≡ s

-- Wish 6 on the converted sheet, of the compacting call on sheet s: its outcome and its buffer
pub record Stored (s : List ℕ) (r : Outcome) (out : List ℕ) : Type 0 where
  pub written : r.refusal ≡ 0 → SameSheet (converted s) (converted (take r.length out))
