use Rattle.text.proofs.PutLaws.{by-none}
use Rattle.report.proofs.TrimLaws.{by-moved}
use Rattle.std.proofs.Common.{rules}
use Rattle.report.proofs.move_down.Goals as goal

pub loop-i-init : goal.loop-i-init
loop-i-init c =
    search (rules, by-none)

pub loop-i-preserved : goal.loop-i-preserved
loop-i-preserved c =
    search (rules, by-moved)
