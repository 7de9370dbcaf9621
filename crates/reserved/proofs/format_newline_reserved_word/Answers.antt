use Rattle.reserved.proofs.Laws.{by-newline}
use Rattle.reserved.proofs.format_newline_reserved_word.Goals as goal

pub returns : goal.returns
returns c =
    by-newline c.args.sheet.now c.args.x c.args.i c.args.s _ c.requires _ c.value_of-v.ensures _ c.case_of-k.ensures _ _ _ _ _ _ _ _
    c.after_line_comment-comment.ensures c.is_active.ensures c.span.ensures c.breaks_before-breaks.ensures c.newline_level-l.ensures c.format_newline_reserved_word-u.ensures c.with_indentation.ensures
