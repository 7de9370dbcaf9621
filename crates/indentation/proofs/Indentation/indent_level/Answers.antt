use Rattle.indentation.proofs.Laws.{by_level}
use Rattle.indentation.proofs.Indentation.indent_level.Goals as goal

pub returns : goal.returns
returns c =
    by_level _ c.requires _ _ _ c.from.ensures c.saturating_sub.ensures
