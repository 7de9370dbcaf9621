use Rattle.report.proofs.TrimLaws.{by-stays, by_down}
use Rattle.std.proofs.Common.{rules}
use Rattle.report.proofs.trim_start.Goals as goal

pub returns-then-from-eq0 : goal.returns-then-from-eq0
returns-then-from-eq0 c =
    search (rules, by-stays)

pub returns : goal.returns
returns c =
    search (rules, by_down)
