use Rattle.top_level.proofs.Laws.{by-newline-after}
use Rattle.top_level.proofs.format_newline_after_reserved_word.Goals as goal

pub returns : goal.returns
returns c =
    by-newline-after c.args.sheet.now c.args.x c.args.i c.args.s _ c.requires _ c.value_of-v.ensures _ c.case_of-k.ensures _ _ _ _
    _ _ _ _ c.value_len-len.ensures c.previous_top_level_reserved.ensures c.newline_before-before.ensures c.levels_around-l.ensures c.format_newline_after_reserved_word-u.ensures c.with_indentation.ensures
