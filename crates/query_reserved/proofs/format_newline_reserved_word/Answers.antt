use Rattle.query.specs.Query.{newline, with_spaces}
use Rattle.query.proofs.Laws.{then_spaces}
use Rattle.std.proofs.Common.{rules}
use Rattle.query_reserved.proofs.format_newline_reserved_word.Goals as goal

pub returns : goal.returns
unfolding newline with_spaces
returns c =
    search (rules, then_spaces)
