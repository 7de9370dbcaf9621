use Rattle.query.specs.Query.{blank}
use Rattle.query.proofs.Laws.{by_first, by-second}
use Rattle.std.proofs.Common.{rules}
use Rattle.query_reserved.proofs.deeper_or_blank.Goals as goal

pub returns-then-after : goal.returns-then-after
returns-then-after c =
    search (rules, by_first)

pub returns : goal.returns
unfolding blank
returns c =
    search (rules, by-second)
