-- The count of columns, byte by byte.
use Rattle.std.specs.Prelude.{List, [], ◌∷◌, ℕ, ◌+◌, max, replicate}
use Rattle.rules.specs.Text.{column_after}
use Rattle.columns.specs.declared.Measure.{Measure}

abbrev pub count : ℕ → ℕ → Measure
count a b = record { at = a; best = b }

abbrev pub one_on : Measure → ℕ → Measure
one_on m x = record { at = column_after m.at x; best = max (column_after m.at x) m.best }

abbrev pub measure : Measure → List ℕ → Measure
measure m [] = m
measure m (x ∷ xs) = measure (one_on m x) xs

-- a run of so many bytes, none of them a tab or a line feed
abbrev pub onward : Measure → ℕ → Measure
onward m n = record { at = m.at + n; best = max (m.at + n) m.best }

abbrev pub tabs : ℕ → List ℕ
tabs n = replicate n 9
