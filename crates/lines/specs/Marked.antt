-- The count of line feeds, whether a tab stands there, and both numbers of a text.
use Rattle.std.specs.Prelude.{◌≡◌, List, ℕ}
use Rattle.rules.specs.Text.{line_feeds, lines, width}
use Rattle.ascii.specs.Part.{has}
use Rattle.lines.specs.declared.Marks.{Marks}
use Rattle.lines.specs.declared.Size.{Size}

pub record Marked (v : List ℕ) (m : Marks) : Type 0 where
  pub counted : m.feeds ≡ line_feeds v
  pub seen : m.tab ≡ has 9 9 v

abbrev pub size_of : List ℕ → Size
size_of v = record { lines = lines v; width = width v }
