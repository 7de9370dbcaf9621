-- The run over the tokens of a sheet: what is left at token i is its step, and what is left at the next; and the same for the rows. Assumes nothing.
use mathlib.Core.Path.{◌≡◌, ap}
use mathlib.Core.List.{List, [], ◌∷◌, map}
use Prim.Native.Nat.{ℕ, ◌+◌, ◌-◌, ◌≤◌, ◌<◌}
use native.Mathlib.Nat.{sub-zero}
use Rattle.rules.specs.declared.Counts.{Counts}
use Rattle.rules.specs.Text.{bytes_in}
use Rattle.rules.specs.Words.{body_at}
use Rattle.rules.specs.Sheet.{Env, token_of, tokens_from, tokens_before, tokens_of}
use Rattle.rules.specs.Switch.{Switch, switch_after, switched_on}
use Rattle.rules.specs.State.{State, start}
use Rattle.rules.specs.Answer.{unless_refused, finish, format_from, format}
use Rattle.rules.specs.Rows.{Row, rows_after, trim_row, rows_from, rows}
use Rattle.around.proofs.Lists.{tokens-step, tokens_none, before-none, before-step, length_before}
use Rattle.around.specs.Run.{run_from, rows_from_at, turn_at, step_at}

module _ (e : Env) (s : List ℕ) (base n : ℕ) where
  pub run-turn : (i : ℕ) (w : Switch) (x : State) → i < n
      → run_from e s base n i w x
      ≡ unless_refused (step_at e s base n i w x).text i (run_from e s base n (i + 1) (switch_after (turn_at s base i w) w) (step_at e s base n i w x))
  unfolding format_from
  run-turn i w x h = rw (tokens-step s base i n h, before-step s base i, length_before s base i)

  pub run_end : (i : ℕ) (w : Switch) (x : State) → n ≤ i → run_from e s base n i w x ≡ finish i x.text
  unfolding format_from
  run_end i w x h = rw (tokens_none s base i n h, length_before s base i)

  pub rows-turn : (i : ℕ) (w : Switch) (x : State) (rs : List Row) → i < n
      → rows_from_at e s base n i w x rs
      ≡ rows_from_at e s base n (i + 1) (switch_after (turn_at s base i w) w) (step_at e s base n i w x) (rows_after e i (token_of s base i) (turn_at s base i w) x (step_at e s base n i w x) rs)
  unfolding rows_from
  rows-turn i w x rs h =
      rw (tokens-step s base i n h, before-step s base i)
      (ap
      (λ (m : ℕ). rows_from e (token_of s base i ∷ tokens_before s base i) (tokens_from s base (i + 1) (n - (i + 1))) (switch_after (turn_at s base i w) w) (step_at e s base n i w x) (rows_after e m (token_of s base i) (turn_at s base i w) x (step_at e s base n i w x) rs))
      (length_before s base i))

  pub rows_end : (i : ℕ) (w : Switch) (x : State) (rs : List Row) → n ≤ i → rows_from_at e s base n i w x rs ≡ map (trim_row (bytes_in x.text)) rs
  unfolding rows_from
  rows_end i w x rs h = rw (tokens_none s base i n h)

pub run-all : (e : Env) (s : List ℕ) (c : Counts) → format e (tokens_of s c) ≡ run_from e s (body_at c) c.tokens 0 switched_on start
unfolding format tokens_of
run-all e s c = rw (before-none s (body_at c), sub-zero c.tokens)

pub rows_all : (e : Env) (s : List ℕ) (c : Counts) → rows e (tokens_of s c) ≡ rows_from_at e s (body_at c) c.tokens 0 switched_on start []
unfolding rows tokens_of
rows_all e s c = rw (before-none s (body_at c), sub-zero c.tokens)
