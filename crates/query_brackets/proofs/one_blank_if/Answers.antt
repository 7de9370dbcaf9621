use Rattle.query.specs.Query.{blank, one_blank}
use Rattle.query.proofs.Laws.{by-when, by-unless}
use Rattle.std.proofs.Common.{rules}
use Rattle.query_brackets.proofs.one_blank_if.Goals as goal

pub returns-then-b : goal.returns-then-b
unfolding one_blank blank
returns-then-b c =
    search (rules, by-when)

pub returns : goal.returns
returns c =
    search (rules, by-unless)
