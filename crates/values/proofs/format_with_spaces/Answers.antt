use Rattle.values.proofs.Laws.{by-with-spaces}
use Rattle.std.proofs.Common.{rules}
use Rattle.values.proofs.format_with_spaces.Goals as goal

pub returns : goal.returns
returns c =
    search (rules, by-with-spaces)
