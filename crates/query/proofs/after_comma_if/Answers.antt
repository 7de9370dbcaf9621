use Rattle.query.specs.Query.{after_comma}
use Rattle.query.proofs.Laws.{by-when, by-unless, then_append}
use Rattle.std.proofs.Common.{rules}
use Rattle.query.proofs.after_comma_if.Goals as goal

pub returns-then-b : goal.returns-then-b
unfolding after_comma
returns-then-b c =
    search (rules, by-when, then_append)

pub returns : goal.returns
returns c =
    search (rules, by-unless)
