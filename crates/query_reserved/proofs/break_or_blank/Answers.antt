use Rattle.query.specs.Query.{blank, one_blank}
use Rattle.query.proofs.Laws.{by_first, by-second}
use Rattle.std.proofs.Common.{rules}
use Rattle.query_reserved.proofs.break_or_blank.Goals as goal

pub returns-then-breaks : goal.returns-then-breaks
returns-then-breaks c =
    search (rules, by_first)

pub returns : goal.returns
unfolding one_blank blank
returns c =
    search (rules, by-second)
