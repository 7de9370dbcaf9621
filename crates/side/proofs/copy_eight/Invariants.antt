use Rattle.side.specs.Side.{Copied}
use Rattle.side.proofs.copy_eight.Given as goal

abbrev pub invariant-loop-j : goal.invariant-loop-j
invariant-loop-j l =
    Copied l.text l.start l.at l.j l.initial.to l.to
