-- A layout call by what the checks found: with rows (true) or without, in a list of k words.
use Rattle.rules.specs.declared.Counts.{Counts}
use Rattle.rules.specs.declared.Offence.{Offence}
use Rattle.std.specs.Prelude.{if◌then◌else◌, Bool, List, ℕ, replicate, Result}
use Rattle.rules.specs.Answer.{Answer, answer_as}
use Rattle.rules.specs.Rows.{listed_as, list_as}

unfoldable pub called_as : List ℕ → ℕ → Bool → ℕ → Result Counts Offence → Answer
called_as s room b k c = if b then listed_as s room k c else answer_as s room c

unfoldable pub list_called : List ℕ → ℕ → Bool → ℕ → Result Counts Offence → List ℕ
list_called s room b k c = if b then list_as s room k c else replicate k 0
