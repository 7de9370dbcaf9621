use Rattle.query.proofs.Laws.{then_append}
use Rattle.query_brackets.proofs.Laws.{then_after}
use Rattle.query_brackets.specs.Opening.{opening}
use Rattle.std.proofs.Common.{rules}
use Rattle.query_brackets.proofs.format_opening_parentheses.Goals as goal

pub returns : goal.returns
unfolding opening
returns c =
    search (rules, then_append, then_after)
