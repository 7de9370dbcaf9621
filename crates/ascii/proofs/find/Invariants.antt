use Rattle.std.proofs.Common.{◌≡◌, ◌+◌, ◌≤◌, length}
use Rattle.ascii.specs.Part.{part, before}
use Rattle.ascii.proofs.find.Given as goal

abbrev pub invariant-loop-block : goal.invariant-loop-block
invariant-loop-block l = (length l.rest ≤ l.n) × (before l.b l.rest + l.n ≡ before l.b (part l.src l.start l.n) + length l.rest)

abbrev pub decreases-loop-block : goal.decreases-loop-block
decreases-loop-block l = length l.rest
