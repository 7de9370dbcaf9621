use Rattle.query.specs.Query.{placeholder}
use Rattle.query.proofs.Laws.{then_spaces}
use Rattle.std.proofs.Common.{rules}
use Rattle.query.proofs.format_placeholder.Goals as goal

pub returns : goal.returns
unfolding placeholder
returns c =
    search (rules, then_spaces)
