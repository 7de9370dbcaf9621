use Rattle.words.proofs.BlockLaws.{by-one-more}
use Rattle.std.proofs.Common.{rules}
use Rattle.words.proofs.all_white.Goals as goal

pub loop-i-preserved : goal.loop-i-preserved
loop-i-preserved c =
    search (rules, by-one-more)
