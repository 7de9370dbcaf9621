-- The tests of a bracket, read from the sheet and from the code's stacks.
use Rattle.std.specs.Prelude.{Bool, not, ◌&&◌, List, ℕ, eqb, is_some}
use Rattle.rules.specs.declared.Case.{Case}
use Rattle.rules.specs.declared.FormatOptions.{FormatOptions}
use Rattle.rules.specs.declared.TokenKind.TheVariants.{ReservedTopLevel}
use Rattle.rules.specs.Base.{choose, holds, full}
use Rattle.rules.specs.Bytes.{bytes}
use Rattle.rules.specs.Text.{Text, in_case, is_lower, is_on}
use Rattle.rules.specs.Indentation.{Indentation, unfolded, previous_top_level_reserved}
use Rattle.rules.specs.Formatter.{kind_is, previous_non_whitespace_token, folds_in, cuts_before, blank_between}
use Rattle.keeps.specs.CaseOf.{case_of}
use Rattle.query.specs.Query.{closing_inline, closing}
use Rattle.query_brackets.specs.declared.Opening.{Opening}
use Rattle.state.specs.declared.Context.{Context}
use Rattle.state.specs.Of.{word_of, here_in}

-- the case of token i, and its value in that case
abbrev pub case_in : List ℕ → Context → ℕ → Case
case_in s x i = case_of s x.counts x.options.casing (word_of s x.base i)

abbrev pub bracket_in : List ℕ → Context → ℕ → List ℕ
bracket_in s x i = in_case (case_in s x i) (word_of s x.base i)

-- ---- an opening bracket

-- the bracket is folded into the top-level word before it
unfoldable pub folded_in : List ℕ → Context → ℕ → Bool → Indentation ℕ → Bool
folded_in s x i inlined n =
    not inlined && (is_some x.options.max_inline_top_level && (holds (kind_is ReservedTopLevel) (previous_non_whitespace_token (here_in s x i)) && holds folds_in (previous_top_level_reserved n)))

-- what the bracket does to the text, level being that after it
abbrev pub opening_in : List ℕ → Context → ℕ → Indentation ℕ → Bool → Bool → ℕ → Opening
opening_in s x i n inlined folded level =
    record {
      six = full n.indent_types;
      cuts = cuts_before (here_in s x i);
      between = blank_between (here_in s x i);
      folded = folded;
      inlined = inlined;
      is_case = is_lower (word_of s x.base i) (bytes "case");
      level = level;
    }

-- ---- a closing bracket

-- refusal 8: a folded block ends where no entry is left that counts
unfoldable pub ends_under : {W : Type 0} → FormatOptions → Bool → Indentation W → Bool
ends_under o folded n = folded && (not (is_on o.inline) && eqb (unfolded n.indent_types) 0)

-- what the bracket does to the text, v being its value in its case
unfoldable pub closing_of : ℕ → FormatOptions → Bool → Bool → ℕ → List ℕ → Text → Text
closing_of room o active eight level v w = choose active (closing_inline room (is_lower v (bytes "end")) v) (closing room o eight level v) w
