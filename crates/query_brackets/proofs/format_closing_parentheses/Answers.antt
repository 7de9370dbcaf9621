use Rattle.query.specs.Query.{closing}
use Rattle.query.proofs.Laws.{then_line, then_spaces}
use Rattle.std.proofs.Common.{rules}
use Rattle.query_brackets.proofs.format_closing_parentheses.Goals as goal

pub returns : goal.returns
unfolding closing
returns c =
    search (rules, then_line, then_spaces)
