use mathlib.Core.Path.{refl, sym, ◌∙◌}
use Rattle.twigmantle.proofs.OnceLaws.{withdrawn}
use Rattle.twigmantle.proofs.unless_withdrawn.Goals as goal

pub returns-then-is_withdrawn : goal.returns-then-is_withdrawn
returns-then-is_withdrawn c =
    let all = withdrawn c.args.sheet.now _ _ _ c.args.with_table _ _ _ _ _ (sym c.is_withdrawn.ensures ∙ c.if-is_withdrawn.true) c.refused.ensures.value c.refused.ensures.text_after c.refused.ensures.rows_after in record { table_len_unchanged = refl; value = all.0; text_after = all.1.0; rows_after = all.1.1 }
