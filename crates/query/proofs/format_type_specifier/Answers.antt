use Rattle.query.specs.Query.{type_specifier}
use Rattle.query.proofs.Laws.{then_append, then_blank_if}
use Rattle.std.proofs.Common.{rules}
use Rattle.query.proofs.format_type_specifier.Goals as goal

pub returns : goal.returns
unfolding type_specifier
returns c =
    search (rules, then_append, then_blank_if)
