use Rattle.top_level.proofs.Laws.{by-fewer, by_level, by-more, by_turned}
use Rattle.std.proofs.Common.{rules}
use Rattle.top_level.proofs.levels_around.Goals as goal

pub overflow_sub-out : goal.overflow_sub-out
overflow_sub-out c =
    search (rules, by-fewer)

pub overflow_sub-out-2 : goal.overflow_sub-out-2
overflow_sub-out-2 c =
    search (rules, by_level)

pub overflow_sub-result : goal.overflow_sub-result
overflow_sub-result c =
    search (rules, by-more)

pub overflow_add-result : goal.overflow_add-result
overflow_add-result c =
    let h = (by_turned _ _ _ _ _ _ _ _ _ _ c.requires.level_value c.decrease_top_level_if-from.ensures c.increase_top_level_if-to.ensures c.set_previous_top_level-noted.ensures c.is_full.ensures).into_low in
    search (rules, h)

pub returns : goal.returns
returns c =
    search (rules, by_turned)
