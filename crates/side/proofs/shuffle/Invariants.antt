use Rattle.side.specs.Side.{Shuffled}
use Rattle.side.proofs.shuffle.Given as goal

abbrev pub invariant-loop-i : goal.invariant-loop-i
invariant-loop-i l =
    Shuffled l.from l.i l.to
