use Rattle.rules.proofs.Call.{call_faithful}
use Rattle.twigmantle.proofs.Laws.{first-told}
use Rattle.twigmantle.proofs.OnceLaws.{plain-told}
use Rattle.twigmantle.proofs.twigmantle_layout.Goals as goal

pub returns : goal.returns
returns c =
    let told = first-told c.args.sheet.now _ _ _ _ _ (plain-told c.args.sheet.now _ _ _ _ _ _ _ _ (c.called.ensures.value, (c.called.ensures.text_after, c.called.ensures.rows_after))) in
    record { value = told.0; text_after = told.1; faithful = call_faithful c.args.sheet.now _ _ _ told.0 told.1 }
