use Rattle.table.proofs.Laws.{spans-read}
use mathlib.Core.Path.{◌∙◌}
use Rattle.table.proofs.top_level_tokens_info.Goals as goal

pub returns : goal.returns
returns c =
    c.span_of.ensures ∙ spans-read c.args.level c.args.sheet.now c.args.base c.args.n c.args.i c.args.table.now _ c.requires.readable c.requires.filled c.requires.i_lt_n.0 c.requires.i_lt_n.1 c.column_of.ensures.0 c.args.options c.args.block_len c.args.level
