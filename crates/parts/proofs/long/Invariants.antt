use Prim.Native.Nat.{◌-◌}
use Rattle.parts.proofs.LongLaws.{Lanes}
use Rattle.parts.proofs.long.Given as goal

abbrev pub invariant-loop-j : goal.invariant-loop-j
invariant-loop-j l =
    Lanes l.text l.start l.far l.j l.at l.head l.best l.feeds

abbrev pub decreases-loop-j : goal.decreases-loop-j
decreases-loop-j l =
    l.far - l.j
