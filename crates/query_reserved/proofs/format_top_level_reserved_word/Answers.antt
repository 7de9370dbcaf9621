use Rattle.query.specs.Query.{top_level}
use Rattle.query.proofs.Laws.{then_append}
use Rattle.query_reserved.proofs.Laws.{then_deeper_or_blank}
use Rattle.std.proofs.Common.{rules}
use Rattle.query_reserved.proofs.format_top_level_reserved_word.Goals as goal

pub returns : goal.returns
unfolding top_level
returns c =
    search (rules, then_append, then_deeper_or_blank)
