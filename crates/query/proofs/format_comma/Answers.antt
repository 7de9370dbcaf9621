use Rattle.query.specs.Query.{comma}
use Rattle.query.proofs.Laws.{then_line_if}
use Rattle.std.proofs.Common.{rules}
use Rattle.query.proofs.format_comma.Goals as goal

pub returns : goal.returns
unfolding comma
returns c =
    search (rules, then_line_if)
