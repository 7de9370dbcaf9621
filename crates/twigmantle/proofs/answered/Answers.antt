use mathlib.Core.Path.{refl}
use Rattle.checks.proofs.Sound.{answer-sheeted}
use Rattle.twigmantle.proofs.Laws.{by-offence}
use Rattle.twigmantle.proofs.OnceLaws.{by-found-once, once-offence}
use Rattle.std.proofs.Common.{rules}
use Rattle.twigmantle.proofs.answered.Goals as goal

pub unless_withdrawn-requires : goal.unless_withdrawn-requires
unless_withdrawn-requires c =
    search (rules, answer-sheeted)

pub returns-in-Err : goal.returns-in-Err
returns-in-Err c =
    let all = by-found-once c.args.sheet.now _ _ _ _ _ _ _ _ _ _ c.check.ensures c.in-Err.is (once-offence c.args.sheet.now _ _ _ _ _ _ _ _ _ (by-offence c.args.sheet.now _ _ _ _ _ _ _ _ _ c.number.ensures c.place.ensures c.refused.ensures.value c.refused.ensures.text_after c.refused.ensures.rows_after)) in record { table_len_unchanged = refl; value = all.0; text_after = all.1.0; rows_after = all.1.1 }
