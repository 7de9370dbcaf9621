use Rattle.room.proofs.SumLaws.{sum_on}
use Rattle.std.proofs.Common.{rules}
use Rattle.room.proofs.room.Goals as goal

pub loop-i-preserved : goal.loop-i-preserved
loop-i-preserved c = search (rules, sum_on)
