use mathlib.Core.Path.{refl}
use Rattle.comments.proofs.Laws.{by-type-specifier}
use Rattle.comments.proofs.format_type_specifier.Goals as goal

pub returns : goal.returns
returns c =
    by-type-specifier c.args.sheet.now c.args.x c.args.i c.args.s _ c.requires _ c.value_of-v.ensures _ _ _ _ c.before_reserved_word-spaced.ensures
    c.format_type_specifier.ensures refl
