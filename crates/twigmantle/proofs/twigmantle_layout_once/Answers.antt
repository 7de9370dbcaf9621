use mathlib.Core.List.{[]}
use Rattle.twigmantle.proofs.OnceLaws.{once-told, once-faithful}
use Rattle.twigmantle.proofs.twigmantle_layout_once.Goals as goal

pub returns : goal.returns
returns c =
    let told = once-told c.args.sheet.now _ _ _ _ _ _ (c.called.ensures.value, (c.called.ensures.text_after, c.called.ensures.rows_after)) in
    record { value = told.0; text_after = told.1; table_after = c.called.ensures.table_after; faithful = once-faithful c.args.sheet.now _ 0 _ _ _ [] told.0 told.1 }
