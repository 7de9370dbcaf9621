use Rattle.top_level.proofs.Laws.{by-no-indent}
use Rattle.top_level.proofs.format_top_level_reserved_word_no_indent.Goals as goal

pub returns : goal.returns
returns c =
    by-no-indent c.args.sheet.now c.args.x c.args.i c.args.s _ c.requires _ c.value_of-v.ensures _ c.case_of-k.ensures _ _ _ _
    _ c.levels_around-l.ensures c.format_top_level_reserved_word-u.ensures c.with_indentation.ensures
