use Rattle.query.specs.Query.{separator}
use Rattle.query.proofs.Laws.{then_append}
use Rattle.std.proofs.Common.{rules}
use Rattle.query.proofs.format_query_separator.Goals as goal

pub returns : goal.returns
unfolding separator
returns c =
    search (rules, then_append)
