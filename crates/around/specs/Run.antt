-- The run over the tokens of a sheet, from token i on; and the same for the rows.
use Rattle.std.specs.Prelude.{List, ℕ, ◌-◌}
use Rattle.rules.specs.declared.Turn.{Turn}
use Rattle.rules.specs.Sheet.{Env, token_of, tokens_from, tokens_before, here_at}
use Rattle.rules.specs.Switch.{Switch, turn_of}
use Rattle.rules.specs.State.{State}
use Rattle.rules.specs.Answer.{Answer, taken, format_from}
use Rattle.rules.specs.Rows.{Row, rows_from}

-- the answer of the tokens from i of n on
abbrev pub run_from : Env → List ℕ → ℕ → ℕ → ℕ → Switch → State → Answer
run_from e s base n i w x = format_from e (tokens_before s base i) (tokens_from s base i (n - i)) w x

-- the rows of the tokens from i of n on, rs being those before
abbrev pub rows_from_at : Env → List ℕ → ℕ → ℕ → ℕ → Switch → State → List Row → List Row
rows_from_at e s base n i w x rs = rows_from e (tokens_before s base i) (tokens_from s base i (n - i)) w x rs

-- how token i is taken
abbrev pub turn_at : List ℕ → ℕ → ℕ → Switch → Turn
turn_at s base i w = turn_of w (token_of s base i).kind (token_of s base i).value

module _ (e : Env) (s : List ℕ) (base n : ℕ) where
  -- the state after token i
  abbrev pub step_at : ℕ → Switch → State → State
  step_at i w x = taken (turn_at s base i w) e (here_at s base n i) x
