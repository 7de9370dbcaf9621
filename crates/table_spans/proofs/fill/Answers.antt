use Rattle.std.proofs.Common.{rules}
use Rattle.table_spans.proofs.Turns.{filling_starts, filling_ends}
use Rattle.table_spans.proofs.fill.Goals as goal

pub loop-i-init : goal.loop-i-init
loop-i-init c =
    search (rules, filling_starts)

pub returns-clause-spans : goal.returns-clause-spans
returns-clause-spans c =
    search (rules, filling_ends)
