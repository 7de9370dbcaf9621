use Rattle.longest.specs.Flags.{Widened}
use Rattle.longest.proofs.widen.Given as goal

abbrev pub invariant-loop-j : goal.invariant-loop-j
invariant-loop-j l =
    Widened l.initial.to l.j l.by l.to
