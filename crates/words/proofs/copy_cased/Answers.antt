use Rattle.text.proofs.PutLaws.{by-none}
use Rattle.words.proofs.CaseLaws.{by-cased}
use Rattle.std.proofs.Common.{rules}
use Rattle.words.proofs.copy_cased.Goals as goal

pub loop-i-init : goal.loop-i-init
loop-i-init c =
    search (rules, by-none)

pub loop-i-preserved : goal.loop-i-preserved
loop-i-preserved c =
    search (rules, by-cased)
