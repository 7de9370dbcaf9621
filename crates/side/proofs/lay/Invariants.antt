use Rattle.side.specs.Side.{Laid}
use Rattle.side.proofs.lay.Given as goal

abbrev pub invariant-loop-k : goal.invariant-loop-k
invariant-loop-k l =
    Laid l.text l.start l.far l.k l.to
