use Rattle.values.proofs.Laws.{by-with-space-after}
use Rattle.std.proofs.Common.{rules}
use Rattle.values.proofs.format_with_space_after.Goals as goal

pub returns : goal.returns
returns c =
    search (rules, by-with-space-after)
