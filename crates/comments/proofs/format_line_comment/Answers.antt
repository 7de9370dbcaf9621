use mathlib.Core.Path.{refl}
use Rattle.comments.proofs.Laws.{by-line-comment}
use Rattle.comments.proofs.format_line_comment.Goals as goal

pub returns : goal.returns
returns c =
    by-line-comment c.args.sheet.now c.args.x c.args.i c.args.s _ c.requires _ c.value_of-v.ensures _ _ _ _ c.indent_level-level.ensures.0 _ _
    c.breaks_before_comment-breaks.ensures c.two_after_comma-comma.ensures c.format_line_comment.ensures refl
