use Rattle.brackets.proofs.ClosingLaws.{by-inline-close, by-close}
use Rattle.std.proofs.Common.{rules}
use Rattle.brackets.proofs.push_closing.Goals as goal

pub returns-then-active : goal.returns-then-active
returns-then-active c =
    search (rules, by-inline-close)

pub returns : goal.returns
returns c =
    search (rules, by-close)
