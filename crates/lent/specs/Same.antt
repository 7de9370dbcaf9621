-- The sheet's own parameter table, as a list of records.
use Rattle.std.specs.Prelude.{List, ℕ, ◌+◌, ◌*◌}
use Rattle.rules.specs.declared.Counts.{Counts}
use Rattle.rules.specs.Words.{place_at, params_at}
use Rattle.rules.specs.Sheet.{list_of}
use Rattle.lent.specs.declared.Param.{Param}

-- record i of the sheet's parameter table
abbrev pub record_at : List ℕ → Counts → ℕ → Param
record_at s c i = record { name = place_at s (params_at c + 16 * i); value = place_at s (params_at c + 16 * i + 8) }

-- the table, as a list
abbrev pub table : List ℕ → Counts → List Param
table s c = list_of (record_at s c) 0 c.params
