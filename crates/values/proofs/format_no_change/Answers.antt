use Rattle.values.proofs.Laws.{by-no-change}
use Rattle.std.proofs.Common.{rules}
use Rattle.values.proofs.format_no_change.Goals as goal

pub returns : goal.returns
returns c =
    search (rules, by-no-change)
