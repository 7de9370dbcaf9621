use Rattle.around.proofs.Lists.{readable_length}
use Rattle.ahead.proofs.Laws.{reading_turns}
use Rattle.std.proofs.Common.{rules}
use Rattle.ahead.proofs.read_on.Goals as goal

pub counted-a-requires-clause-len_bound : goal.counted-a-requires-clause-len_bound
counted-a-requires-clause-len_bound c =
    search (rules, readable_length)

pub loop-j-preserved : goal.loop-j-preserved
loop-j-preserved c =
    search (rules, reading_turns)
