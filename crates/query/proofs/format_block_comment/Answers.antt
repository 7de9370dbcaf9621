use Rattle.query.specs.Query.{block_comment}
use Rattle.query.proofs.Laws.{then_append, then_line}
use Rattle.std.proofs.Common.{rules}
use Rattle.query.proofs.format_block_comment.Goals as goal

pub returns : goal.returns
unfolding block_comment
returns c =
    search (rules, then_append, then_line)
