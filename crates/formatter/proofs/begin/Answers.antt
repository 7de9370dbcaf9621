use Rattle.formatter.proofs.Laws.{by-begun}
use Rattle.std.proofs.Common.{rules}
use Rattle.formatter.proofs.begin.Goals as goal

pub returns : goal.returns
returns c =
    search (rules, by-begun)
