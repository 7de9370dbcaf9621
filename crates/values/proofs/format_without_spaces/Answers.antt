use Rattle.values.proofs.Laws.{by-without-spaces}
use Rattle.std.proofs.Common.{rules}
use Rattle.values.proofs.format_without_spaces.Goals as goal

pub returns : goal.returns
returns c =
    search (rules, by-without-spaces)
