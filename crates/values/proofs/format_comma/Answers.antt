use mathlib.Core.Path.{refl}
use Rattle.state.proofs.Below.{below_all}
use Rattle.values.proofs.Laws.{by-comma}
use Rattle.std.proofs.Common.{rules}
use Rattle.values.proofs.format_comma.Goals as goal

pub comma_breaks-breaks-requires : goal.comma_breaks-breaks-requires
comma_breaks-breaks-requires c =
    search (rules, below_all)

pub returns : goal.returns
returns c =
    by-comma c.args.sheet.now c.args.x c.args.i c.args.s _ c.requires _ c.value_of-v.ensures _ _ _ _ _ _
    c.is_active.ensures c.comma_breaks-breaks.ensures c.indent_level-level.ensures.0 c.format_comma.ensures refl
