use Rattle.brackets.proofs.ClosingLaws.{by-closing}
use Rattle.brackets.proofs.format_closing_parentheses.Goals as goal

pub returns : goal.returns
returns c =
    by-closing c.args.sheet.now c.args.x c.args.i c.args.s _ c.requires _ _ _ _ _ _ _ _
    c.decrease_block_level-closed.ensures c.ends_under-eight.ensures c.indent_level-level.ensures.0 c.is_active-active.ensures c.push_closing.ensures c.end.ensures c.saturating_sub.ensures
