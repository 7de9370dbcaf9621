-- Blocks with the same facts are laid out alike. Assumes nothing.
use mathlib.Core.Path.{◌≡◌}
use Rattle.rules.specs.declared.BlockInfo.{BlockInfo}
use Rattle.rules.specs.declared.FormatOptions.{FormatOptions}
use Rattle.rules.specs.Sheet.{Env}
use Rattle.rules.specs.Tokens.{Here}
use Rattle.rules.specs.State.{State}
use Rattle.rules.specs.InlineBlock.{is_inline_block, begins_inline}
use Rattle.rules.specs.Formatter.{format_opening_parentheses}
use Rattle.table.specs.Facts.{SameFacts}

same-inline : (op : FormatOptions) (a b : BlockInfo) → SameFacts a b → is_inline_block op a ≡ is_inline_block op b
unfolding is_inline_block
same-inline op a b h = rw (h.length, h.span, h.forbidden, h.reserved)

-- so an opening bracket is laid out alike
pub opens-alike : (e : Env) (h : Here) (a b : BlockInfo) (s : State) → SameFacts a b → format_opening_parentheses e h a s ≡ format_opening_parentheses e h b s
unfolding format_opening_parentheses begins_inline
opens-alike e h a b s f = rw (same-inline e.options a b f, f.length)
