use mathlib.Core.Path.{◌≡◌}
use Prim.Native.Nat.{◌*◌, ◌≤◌}
use Rattle.rules.specs.Text.{line_feeds}
use Rattle.ascii.specs.Part.{part}
use Rattle.columns.proofs.MeasureLaws.{Counted}
use Rattle.parts.proofs.join.Given as goal

abbrev pub invariant-loop-k : goal.invariant-loop-k
invariant-loop-k l =
    Counted l.text l.start (16 * l.far) l.initial.m (l.k * l.far) l.m × (l.initial.m.best ≤ l.m.best) × (l.n ≡ line_feeds (part l.text l.start (l.k * l.far))) × (l.n ≤ l.k * l.far)
