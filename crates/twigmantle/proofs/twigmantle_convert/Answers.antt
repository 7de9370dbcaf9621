use Rattle.converted.proofs.Call.{call_converts}
use Rattle.twigmantle.proofs.twigmantle_convert.Goals as goal

pub returns : goal.returns
returns c =
    record { value = c.convert.ensures.value; sheet_after = c.convert.ensures.sheet_after; converts = call_converts _ _ _ c.convert.ensures.value c.convert.ensures.sheet_after }
