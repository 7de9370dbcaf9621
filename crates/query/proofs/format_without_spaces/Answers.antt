use Rattle.query.specs.Query.{without_spaces}
use Rattle.query.proofs.Laws.{then_append}
use Rattle.std.proofs.Common.{rules}
use Rattle.query.proofs.format_without_spaces.Goals as goal

pub returns : goal.returns
unfolding without_spaces
returns c =
    search (rules, then_append)
