use mathlib.Core.Path.{refl, ap}
use mathlib.Core.Bool.{not}
use Rattle.twigmantle.proofs.OnceLaws.{untabled, tabled_narrow, tabled_wide}
use Rattle.twigmantle.proofs.tabled.Goals as goal

pub returns-then-not-with_table : goal.returns-then-not-with_table
returns-then-not-with_table c =
    let all = untabled c.args.sheet.now _ _ _ c.args.with_table _ _ _ _ _ c.requires.1 (ap not c.if-not-with_table.true) (c.sound.ensures.value, (c.sound.ensures.text_after, c.sound.ensures.rows_after)) in record { table_len_unchanged = refl; value = all.0; text_after = all.1.0; rows_after = all.1.1 }

pub returns-then-table-n : goal.returns-then-table-n
returns-then-table-n c =
    let all = tabled_narrow c.args.sheet.now _ _ _ c.args.with_table _ _ _ _ _ c.requires.1 (ap not c.if-not-with_table.false) c.if-table-n.true c.refused.ensures.value c.refused.ensures.text_after c.refused.ensures.rows_after in record { table_len_unchanged = refl; value = all.0; text_after = all.1.0; rows_after = all.1.1 }

pub returns : goal.returns
returns c =
    let all = tabled_wide c.args.sheet.now _ _ _ c.args.with_table _ _ _ _ _ c.requires.1 (ap not c.if-not-with_table.false) c.if-table-n.false (c.sound-2.ensures.value, (c.sound-2.ensures.text_after, c.sound-2.ensures.rows_after)) in record { table_len_unchanged = c.fill.ensures.table_len_unchanged; value = all.0; text_after = all.1.0; rows_after = all.1.1 }
