use Rattle.std.proofs.Common.{◌≡◌, ◌-◌, ◌≤◌, leb, length}
use Rattle.rules.specs.Base.{find}
use Rattle.matching.proofs.first_high.Given as goal

abbrev pub invariant-loop-block : goal.invariant-loop-block
invariant-loop-block l = (length l.rest ≤ length l.s) × (find (leb 128) (length l.s - length l.rest) l.rest ≡ find (leb 128) 0 l.s)

abbrev pub decreases-loop-block : goal.decreases-loop-block
decreases-loop-block l = length l.rest
