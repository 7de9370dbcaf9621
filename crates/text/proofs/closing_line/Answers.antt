use Rattle.text.proofs.LineLaws.{by-closed-out, by-closed-held}
use Rattle.std.proofs.Common.{rules}
use Rattle.text.proofs.closing_line.Goals as goal

pub returns-in-Off : goal.returns-in-Off
returns-in-Off c =
    search (rules, by-closed-out)

pub returns-in-Comments : goal.returns-in-Comments
returns-in-Comments c =
    search (rules, by-closed-held)
