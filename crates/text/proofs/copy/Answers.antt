use Rattle.text.proofs.PutLaws.{by-none, by_copy}
use Rattle.std.proofs.Common.{rules}
use Rattle.text.proofs.copy.Goals as goal

pub loop-i-init : goal.loop-i-init
loop-i-init c =
    search (rules, by-none)

pub loop-i-preserved : goal.loop-i-preserved
loop-i-preserved c =
    search (rules, by_copy)
