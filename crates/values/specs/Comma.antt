-- A comma's test, read from the code's stacks.
use Rattle.std.specs.Prelude.{Bool, not, ◌||◌, List, ℕ, Option}
use Rattle.rules.specs.Base.{holds, or_zero}
use Rattle.rules.specs.Bytes.{bytes}
use Rattle.rules.specs.Text.{is_lower}
use Rattle.rules.specs.Indentation.{Indentation, previous_reserved, previous_top_level_reserved}
use Rattle.rules.specs.Formatter.{span_within}
use Rattle.state.specs.declared.Context.{Context}
use Rattle.state.specs.Words.{on_option}
use Rattle.state.specs.Of.{word_of}

-- the token's value is LIMIT, where there is a token
unfoldable pub limit_in : List ℕ → Context → Option ℕ → Bool
limit_in s x w = holds (λ v. is_lower v (bytes "limit")) (on_option (word_of s x.base) w)

unfoldable pub breaks_in : List ℕ → Context → Bool → Indentation ℕ → Bool
breaks_in s x active i =
    not (active || (limit_in s x (previous_reserved i) || span_within (or_zero x.options.max_inline_arguments) (previous_top_level_reserved i)))
