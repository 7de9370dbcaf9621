-- The case of a value: a keep word stays as it is.
use Rattle.std.specs.Prelude.{if◌then◌else◌, List, ℕ}
use Rattle.rules.specs.declared.Case.{Case}
use Rattle.rules.specs.declared.Case.TheVariants as case
use Rattle.rules.specs.declared.Counts.{Counts}
use Rattle.rules.specs.Base.{same, any_of}
use Rattle.rules.specs.Sheet.{keeps_of}

unfoldable pub case_of : List ℕ → Counts → Case → List ℕ → Case
case_of s c casing v = if any_of (same v) (keeps_of s c) then case.AsIs else casing
