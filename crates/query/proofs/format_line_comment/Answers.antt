use Rattle.query.specs.Query.{line_comment}
use Rattle.query.proofs.Laws.{then_append, then_closing}
use Rattle.std.proofs.Common.{rules}
use Rattle.query.proofs.format_line_comment.Goals as goal

pub returns : goal.returns
unfolding line_comment
returns c =
    search (rules, then_append, then_closing)
