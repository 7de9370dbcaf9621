use Rattle.query.specs.Query.{blank, with_spaces}
use Rattle.query.proofs.Laws.{then_append}
use Rattle.std.proofs.Common.{rules}
use Rattle.query_brackets.proofs.cased_with_spaces.Goals as goal

pub returns : goal.returns
unfolding with_spaces blank
returns c =
    search (rules, then_append)
