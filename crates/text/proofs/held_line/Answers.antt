use Rattle.text.proofs.LineLaws.{by-held-line}
use Rattle.std.proofs.Common.{rules}
use Rattle.text.proofs.held_line.Goals as goal

pub returns : goal.returns
returns c =
    search (rules, by-held-line)
