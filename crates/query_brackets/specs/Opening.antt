-- What an opening bracket does to the text.
use Rattle.std.specs.Prelude.{List, ℕ}
use Rattle.rules.specs.declared.FormatOptions.{FormatOptions}
use Rattle.rules.specs.Base.{◌▹◌}
use Rattle.rules.specs.Text.{Text, append}
use Rattle.query.specs.Query.{before_opening, after_opening}
use Rattle.query_brackets.specs.declared.Opening.{Opening}

unfoldable pub opening : ℕ → FormatOptions → Opening → List ℕ → Text → Text
opening room o how v w =
    w ▹ before_opening room how.six how.cuts how.between how.folded
    ▹ append room v
    ▹ after_opening room o how.inlined how.is_case how.level
