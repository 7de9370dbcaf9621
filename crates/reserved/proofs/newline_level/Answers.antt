use Rattle.reserved.proofs.Laws.{by-indented}
use Rattle.reserved.proofs.newline_level.Goals as goal

pub returns : goal.returns
returns c =
    by-indented _ _ _ _ _ _ _ _ _ _ _ c.previous_top_level_reserved-last.ensures c.indents_last.ensures c.span_in.ensures c.increase_top_level_if-to.ensures c.set_previous_reserved-noted.ensures c.is_full.ensures c.six_inlined.ensures c.indent_level.ensures
