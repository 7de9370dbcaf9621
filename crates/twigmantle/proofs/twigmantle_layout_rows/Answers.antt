use Rattle.rules.proofs.Listed.{call_listed_faithful, call_pointed}
use Rattle.twigmantle.proofs.Laws.{second_told}
use Rattle.twigmantle.proofs.OnceLaws.{plain-told}
use Rattle.twigmantle.proofs.twigmantle_layout_rows.Goals as goal

pub returns : goal.returns
returns c =
    let told = second_told c.args.sheet.now _ _ _ _ _ (plain-told c.args.sheet.now _ _ _ _ _ _ _ _ (c.called.ensures.value, (c.called.ensures.text_after, c.called.ensures.rows_after))) in
    let pointed = call_pointed c.args.sheet.now _ _ _ _ told.0 told.1.0 _ told.1.1 in
    record { value = told.0; text_after = told.1.0; rows_after = told.1.1; faithful = call_listed_faithful c.args.sheet.now _ _ _ _ told.0 told.1.0; pointed = pointed }
