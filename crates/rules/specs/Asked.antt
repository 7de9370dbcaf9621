-- The state keeps of a top-level word's span what later tokens ask of it: the four rules that ask get the same from it as from the whole span.
use Rattle.std.specs.Prelude.{◌≡◌, ℕ, Some, Option}
use Rattle.rules.specs.declared.SpanInfo.{SpanInfo}
use Rattle.rules.specs.Indentation.{asked}
use Rattle.rules.specs.State.{State}
use Rattle.rules.specs.Formatter.{newline_before, indent_inlined, folds_in, span_within}

pub record Asked (sp : SpanInfo) : Type 0 where
  pub breaks : (l : Option ℕ) (n : ℕ) → newline_before l (Some (asked sp)) n ≡ newline_before l (Some sp) n
  pub indents : (s : State) → indent_inlined (Some (asked sp)) s ≡ indent_inlined (Some sp) s
  pub folds : folds_in (asked sp) ≡ folds_in sp
  pub fits : (most : ℕ) → span_within most (Some (asked sp)) ≡ span_within most (Some sp)
