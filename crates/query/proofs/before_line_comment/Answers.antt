use Rattle.query.proofs.Laws.{by_first, by-second}
use Rattle.std.proofs.Common.{rules}
use Rattle.query.proofs.before_line_comment.Goals as goal

pub returns-then-breaks : goal.returns-then-breaks
returns-then-breaks c =
    search (rules, by_first)

pub returns : goal.returns
returns c =
    search (rules, by-second)
