use mathlib.Core.List.{[]}
use Rattle.twigmantle.proofs.OnceLaws.{once-listed, once-listed-faithful, once-pointed}
use Rattle.twigmantle.proofs.twigmantle_layout_rows_once.Goals as goal

pub returns : goal.returns
returns c =
    let told = once-listed c.args.sheet.now _ _ _ _ _ _ (c.called.ensures.value, (c.called.ensures.text_after, c.called.ensures.rows_after)) in
    let pointed = once-pointed c.args.sheet.now _ _ _ _ _ _ told.0 told.1.0 told.1.1 in
    record { value = told.0; text_after = told.1.0; rows_after = told.1.1; table_after = c.called.ensures.table_after; faithful = once-listed-faithful c.args.sheet.now _ _ _ _ _ [] told.0 told.1.0; pointed = pointed }
