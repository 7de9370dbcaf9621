use Rattle.values.proofs.Placeholder.{start_small, shown-within, entry-few, by_row, by-placeholder}
use Rattle.std.proofs.Common.{rules}
use Rattle.values.proofs.format_placeholder.Goals as goal

pub value_in-v-requires : goal.value_in-v-requires
value_in-v-requires c =
    search (rules, start_small)

pub entry_word-entry-requires : goal.entry_word-entry-requires
entry_word-entry-requires c =
    search (rules, entry-few)

pub format_placeholder-text-requires : goal.format_placeholder-text-requires
format_placeholder-text-requires c =
    search (rules, shown-within)

pub returns : goal.returns
returns c =
    record { handled = by-placeholder c.args.sheet.now c.args.x c.args.i c.args.s _ c.requires _ c.token_at-token.ensures _ c.get_counted-shown.ensures _ c.value_in-v.ensures _ _ _ c.offends-five.ensures c.format_placeholder-text.ensures; row_in = by_row c.args.sheet.now c.args.x c.args.i c.args.s _ c.requires _ c.token_at-token.ensures _ c.get_counted-shown.ensures _ c.entry_word-entry.ensures }
