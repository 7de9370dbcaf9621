use Rattle.text.proofs.LineLaws.{by-line-in, by-line-out}
use Rattle.std.proofs.Common.{rules}
use Rattle.text.proofs.new_line.Goals as goal

pub returns-then-on : goal.returns-then-on
returns-then-on c =
    search (rules, by-line-in)

pub returns : goal.returns
returns c =
    search (rules, by-line-out)
