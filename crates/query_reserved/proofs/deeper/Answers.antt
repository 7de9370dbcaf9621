use Rattle.query.specs.Query.{deeper}
use Rattle.query.proofs.Laws.{then_line}
use Rattle.std.proofs.Common.{rules}
use Rattle.query_reserved.proofs.deeper.Goals as goal

pub returns : goal.returns
unfolding deeper
returns c =
    search (rules, then_line)
