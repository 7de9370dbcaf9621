use Rattle.longest.specs.Flags.{Flagged}
use Rattle.longest.proofs.flag.Given as goal

abbrev pub invariant-loop-j : goal.invariant-loop-j
invariant-loop-j l =
    Flagged l.text l.start l.far l.j l.initial.to l.to
