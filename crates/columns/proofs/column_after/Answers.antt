use native.Mathlib.Omega.{arith}
use Rattle.columns.proofs.MeasureLaws.{stop_fits, by-column}
use Rattle.columns.proofs.column_after.Goals as goal

pub overflow_add-result : goal.overflow_add-result
overflow_add-result c =
    omega (arith, stop_fits 64 c.args.at c.args.b _ (omega arith) c.stop.ensures)

pub returns : goal.returns
returns c =
    by-column 64 c.args.at c.args.b _ _ (omega arith) c.stop.ensures c.kept.ensures
