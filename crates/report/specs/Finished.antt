-- The report of a text.
use Rattle.std.specs.Prelude.{length}
use Rattle.rules.specs.Text.{Text, fits, refused, is_white, trim_end, trimmed, lines, width}
use Rattle.report.specs.declared.Finished.{Finished}

-- the bytes are trimmed at both ends; a refused text has none
unfoldable pub finished : Text → Finished
finished (fits k m b) = record { fault = 0; end = length (trim_end is_white b); len = length (trimmed b); lines = lines (trimmed b); width = width (trimmed b) }
finished (refused n) = record { fault = n; end = 0; len = 0; lines = 0; width = 0 }
