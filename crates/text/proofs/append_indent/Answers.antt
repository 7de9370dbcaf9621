use Rattle.text.proofs.AppendLaws.{by-spaces, by-tabs}
use Rattle.std.proofs.Common.{rules}
use Rattle.text.proofs.append_indent.Goals as goal

pub returns-in-Spaces : goal.returns-in-Spaces
returns-in-Spaces c =
    search (rules, by-spaces)

pub returns-in-Tabs : goal.returns-in-Tabs
returns-in-Tabs c =
    search (rules, by-tabs)
