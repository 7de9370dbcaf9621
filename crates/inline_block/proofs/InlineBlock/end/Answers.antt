use Rattle.inline_block.proofs.Laws.{by_end}
use Rattle.std.proofs.Common.{rules}
use Rattle.inline_block.proofs.InlineBlock.end.Goals as goal

pub returns : goal.returns
returns c =
    search (rules, by_end)
