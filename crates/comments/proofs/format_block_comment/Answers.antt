use mathlib.Core.Path.{refl}
use Rattle.comments.proofs.Laws.{by-block-comment}
use Rattle.comments.proofs.format_block_comment.Goals as goal

pub returns : goal.returns
returns c =
    by-block-comment c.args.sheet.now c.args.x c.args.i c.args.s _ c.requires _ c.value_of-v.ensures _ _ _ _ c.indent_level-level.ensures.0
    c.format_block_comment.ensures refl
