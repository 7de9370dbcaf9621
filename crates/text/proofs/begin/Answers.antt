use Rattle.text.proofs.AppendLaws.{by-begin}
use Rattle.std.proofs.Common.{rules}
use Rattle.text.proofs.begin.Goals as goal

pub returns : goal.returns
returns c =
    search (rules, by-begin)
