use Rattle.query.specs.Query.{newline_after, newline_break}
use Rattle.query.proofs.Laws.{then_append}
use Rattle.query_reserved.proofs.Laws.{then_deeper}
use Rattle.rules.specs.Base.{when}
use Rattle.query_reserved.proofs.format_newline_after_reserved_word.Goals as goal

pub returns : goal.returns
unfolding newline_after newline_break when
returns c =
    then_deeper _ _ _ c.deeper.ensures (then_append _ c.append_reserved-said.ensures c.break_or_blank-begun.ensures)
