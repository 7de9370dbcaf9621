use Rattle.text.proofs.AppendLaws.{kept-refused, by-refuse}
use Rattle.std.proofs.Common.{rules}
use Rattle.text.proofs.refuse.Goals as goal

pub returns-then-fault-ne0 : goal.returns-then-fault-ne0
returns-then-fault-ne0 c =
    search (rules, kept-refused)

pub returns : goal.returns
returns c =
    search (rules, by-refuse)
