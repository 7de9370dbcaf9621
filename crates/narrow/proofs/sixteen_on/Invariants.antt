use Rattle.narrow.specs.Narrow.{Laned}
use Rattle.narrow.proofs.sixteen_on.Given as goal

abbrev pub invariant-loop-k : goal.invariant-loop-k
invariant-loop-k l =
    Laned l.t l.u l.k l.initial.c l.initial.h l.initial.g l.initial.n l.c l.h l.g l.n
