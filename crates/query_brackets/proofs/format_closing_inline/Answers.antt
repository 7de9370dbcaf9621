use Rattle.query.specs.Query.{blank, one_blank, with_spaces, with_space_after, closing_inline}
use Rattle.query.proofs.Laws.{by_first, by-second, then_spaces}
use Rattle.std.proofs.Common.{rules}
use Rattle.query_brackets.proofs.format_closing_inline.Goals as goal

pub returns-then-is_end : goal.returns-then-is_end
unfolding closing_inline one_blank blank
returns-then-is_end c =
    search (rules, by_first, then_spaces)

pub returns : goal.returns
unfolding closing_inline with_space_after with_spaces
returns c =
    search (rules, by-second, then_spaces)
