use Rattle.rows.proofs.RowLaws.{clip_stops, clip_empties, clip_cuts}
use Rattle.std.proofs.Common.{rules}
use Rattle.rows.proofs.clip.Goals as goal

pub returns-then-left-s : goal.returns-then-left-s
returns-then-left-s c = search (rules, clip_cuts)

pub returns-else-left-s : goal.returns-else-left-s
returns-else-left-s c = search (rules, clip_stops)

pub loop-i-preserved : goal.loop-i-preserved
loop-i-preserved c = search (rules, clip_empties)
