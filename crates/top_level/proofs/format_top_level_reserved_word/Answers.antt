use Rattle.top_level.proofs.Laws.{by-top-level}
use Rattle.top_level.proofs.format_top_level_reserved_word.Goals as goal

pub returns : goal.returns
returns c =
    by-top-level c.args.sheet.now c.args.x c.args.i c.args.s _ c.requires _ c.value_of-v.ensures _ c.case_of-k.ensures _ _ _ _
    _ _ c.starts_level-after.ensures c.levels_around-l.ensures c.format_top_level_reserved_word-u.ensures c.with_indentation.ensures
