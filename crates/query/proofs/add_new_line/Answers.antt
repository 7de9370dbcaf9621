use Rattle.query.proofs.Laws.{by-line-at}
use Rattle.std.proofs.Common.{rules}
use Rattle.query.proofs.add_new_line.Goals as goal

pub returns : goal.returns
returns c =
    search (rules, by-line-at)
