-- Laws of a lane of codes: a column that stays in eight bits is counted as it should. Assumes nothing.
use mathlib.Core.Path.{◌≡◌, refl, ap, ◌∙◌}
use mathlib.Core.List.{List, [], ◌∷◌}
use Prim.Native.Nat.{ℕ, ◌+◌, ◌*◌, ◌<◌}
use native.Mathlib.Omega.{arith}
use lib.ListN.{length}
use Rattle.rules.specs.Text.{column_after}
use Rattle.columns.specs.declared.Measure.{Measure}
use Rattle.columns.specs.Measured.{count, measure}
use Rattle.columns.proofs.MeasureLaws.{column-most}
use Rattle.steps.specs.Steps.{code_of, codes_of}
use Rattle.steps.proofs.StepLaws.{on-code}
use Rattle.narrow.specs.declared.Lane.{Lane}
use Rattle.narrow.specs.Narrow.{lane_on}
use Rattle.narrow.proofs.NarrowLaws.{to}

abbrev pub counted : Lane → Measure
counted m = count m.at m.top

pub lane-count : (m : Lane) (w : List ℕ) → m.at + 8 * length w < 256 → counted (lane_on m (codes_of w)) ≡ measure (counted m) w
lane-count m [] h = refl
lane-count m (x ∷ xs) h =
    let c = column-most m.at x in
    ap (λ (y : ℕ). counted (lane_on (to m y (code_of x)) (codes_of xs))) (on-code m.at x (omega arith)) ∙ lane-count (to m (column_after m.at x) (code_of x)) xs (omega arith)
