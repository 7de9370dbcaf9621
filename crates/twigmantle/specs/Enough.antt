-- Wish 9: what the room of a sheet is good for.
use Rattle.std.specs.Prelude.{◌≡◌, List, ℕ, ◌≤◌}
use Rattle.rules.specs.declared.Outcome.{Outcome}
use Rattle.rules.specs.Answer.{refusal, answer}
use Rattle.rules.specs.Rows.{listed}
use Rattle.twigmantle.specs.Once.{once, once_listed}

-- in a buffer of n bytes no layout call meets 9, whatever the list (k) and the table (m)
pub record NeverNine (s : List ℕ) (n : ℕ) : Type 0 where
  pub plain : (p : ℕ) → answer s n ≡ refusal 9 p → ⊥
  pub with_list : (k p : ℕ) → listed s n k ≡ refusal 9 p → ⊥
  pub with_table : (m p : ℕ) → once s n m ≡ refusal 9 p → ⊥
  pub with_both : (k m p : ℕ) → once_listed s n k m ≡ refusal 9 p → ⊥

-- of the call's outcome
pub record Enough (s : List ℕ) (r : Outcome) : Type 0 where
  pub never_nine : (n : ℕ) → r.length ≤ n → NeverNine s n
