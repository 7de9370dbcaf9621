use Rattle.indentation.proofs.Laws.{noted_reserved}
use Rattle.std.proofs.Common.{rules}
use Rattle.indentation.proofs.Indentation.set_previous_reserved.Goals as goal

pub returns : goal.returns
returns c =
    search (rules, noted_reserved)
