use Rattle.indentation.proofs.Laws.{by-reserved-in, by-top-level-in}
use Rattle.state.proofs.Below.{last-below}
use Rattle.values.proofs.Laws.{by-active, by-limit, by-within}
use Rattle.std.proofs.Common.{rules}
use Rattle.values.proofs.comma_breaks.Goals as goal

pub returns-then-active : goal.returns-then-active
returns-then-active c =
    search (rules, by-active)

pub is_limit-requires : goal.is_limit-requires
is_limit-requires c =
    (search rules, rw (by-reserved-in _ c.requires.1 _ _ c.previous_words-last.ensures c.reserved.ensures) (last-below _ _ c.requires.2))

pub returns-then-is_limit : goal.returns-then-is_limit
returns-then-is_limit c =
    by-limit _ _ _ _ _ _ c.if-active.false (by-reserved-in _ c.requires.1 _ _ c.previous_words-last.ensures c.reserved.ensures) c.is_limit.ensures c.if-is_limit.true

pub returns : goal.returns
returns c =
    by-within _ _ _ _ _ _ _ _ _ c.if-active.false (by-reserved-in _ c.requires.1 _ _ c.previous_words-last.ensures c.reserved.ensures) c.is_limit.ensures c.if-is_limit.false
    c.unwrap_or.ensures (by-top-level-in _ c.requires.1 _ _ c.previous_words-last.ensures c.top_level_reserved.ensures) c.span_within.ensures
