use Rattle.indentation.proofs.Laws.{noted_top_level}
use Rattle.std.proofs.Common.{rules}
use Rattle.indentation.proofs.Indentation.set_previous_top_level.Goals as goal

pub returns : goal.returns
returns c =
    search (rules, noted_top_level)
