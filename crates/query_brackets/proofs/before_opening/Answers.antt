use Rattle.query.specs.Query.{one_blank, fold, before_opening}
use Rattle.query.proofs.Laws.{then_when, then_when_in}
use Rattle.query_brackets.proofs.before_opening.Goals as goal

pub returns : goal.returns
unfolding before_opening
returns c =
    then_when_in _ fold c.fold_if.ensures
    (then_when_in _ one_blank c.one_blank_if-apart.ensures
    (then_when _ _ c.trim_if-cut.ensures c.refuse_if-deep.ensures))
