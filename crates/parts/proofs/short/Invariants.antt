use Prim.Native.Nat.{◌-◌}
use Rattle.parts.proofs.ShortLaws.{Narrows}
use Rattle.parts.proofs.short.Given as goal

abbrev pub invariant-loop-j : goal.invariant-loop-j
invariant-loop-j l =
    Narrows l.text l.start l.far l.j l.c l.h l.g l.feeds

abbrev pub decreases-loop-j : goal.decreases-loop-j
decreases-loop-j l =
    l.far - l.j
