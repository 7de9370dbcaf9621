use Rattle.inline_block.proofs.Laws.{by_begin}
use Rattle.std.proofs.Common.{rules}
use Rattle.inline_block.proofs.InlineBlock.begin_if_possible.Goals as goal

pub returns : goal.returns
returns c =
    search (rules, by_begin)
