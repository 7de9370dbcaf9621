use native.Mathlib.Omega.{arith}
use Rattle.mended.proofs.Call.{call_mends}
use Rattle.twigmantle.proofs.twigmantle_mend.Goals as goal

pub returns : goal.returns
returns c =
    record { value = c.mend.ensures.value; sheet_after = c.mend.ensures.sheet_after; report_after = c.mend.ensures.report_after; mends = call_mends c.args.sheet.now _ _ _ _ (λ i. omega (arith, c.slice_known-1.given i)) c.mend.ensures.value c.mend.ensures.sheet_after c.mend.ensures.report_after }
