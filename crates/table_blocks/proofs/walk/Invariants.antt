use Prim.Native.Nat.{◌-◌, ◌<◌}
use Rattle.rules.specs.Sheet.{token_of}
use Rattle.table_blocks.specs.Rows.{Segment}
use Rattle.table_blocks.proofs.walk.Given as goal

abbrev pub invariant-loop-walked : goal.invariant-loop-walked
invariant-loop-walked l =
    Segment (token_of l.sheet l.base) l.n l.t l.walked × (l.walked.last < l.e)

abbrev pub decreases-loop-walked : goal.decreases-loop-walked
decreases-loop-walked l =
    l.e - l.walked.resume
