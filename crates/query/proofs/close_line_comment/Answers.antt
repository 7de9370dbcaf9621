use Rattle.query.proofs.Laws.{by-closing-at}
use Rattle.std.proofs.Common.{rules}
use Rattle.query.proofs.close_line_comment.Goals as goal

pub returns : goal.returns
returns c =
    search (rules, by-closing-at)
