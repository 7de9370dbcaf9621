use Rattle.query.specs.Query.{newline_break}
use Rattle.query.proofs.Laws.{then_line, then_when}
use Rattle.std.proofs.Common.{rules}
use Rattle.query_reserved.proofs.newline_break.Goals as goal

pub returns : goal.returns
unfolding newline_break
returns c =
    search (rules, then_when, then_line)
