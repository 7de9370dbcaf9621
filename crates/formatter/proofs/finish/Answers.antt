use Rattle.formatter.proofs.Laws.{by-report, by-buffer, by-lead, by-trim}
use Rattle.std.proofs.Common.{rules}
use Rattle.formatter.proofs.finish.Goals as goal

pub overflow_sub-end : goal.overflow_sub-end
overflow_sub-end c =
    search (rules, by-lead)

pub returns : goal.returns
returns c =
    search (rules, by-report, by-buffer, by-trim)
