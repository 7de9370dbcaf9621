use Rattle.text.proofs.LineLaws.{by_last}
use Rattle.std.proofs.Common.{rules}
use Rattle.text.proofs.ends_line.Goals as goal

pub returns : goal.returns
returns c =
    search (rules, by_last)
