use Rattle.query.specs.Query.{after_opening}
use Rattle.query.proofs.Laws.{by_first, by-second}
use Rattle.std.proofs.Common.{rules}
use Rattle.query_brackets.proofs.after_opening.Goals as goal

pub returns-then-inlined : goal.returns-then-inlined
unfolding after_opening
returns-then-inlined c =
    search (rules, by_first)

pub returns : goal.returns
unfolding after_opening
returns c =
    search (rules, by-second)
