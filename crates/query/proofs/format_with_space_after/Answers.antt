use Rattle.query.specs.Query.{with_spaces, with_space_after}
use Rattle.query.proofs.Laws.{then_spaces}
use Rattle.std.proofs.Common.{rules}
use Rattle.query.proofs.format_with_space_after.Goals as goal

pub returns : goal.returns
unfolding with_space_after with_spaces
returns c =
    search (rules, then_spaces)
