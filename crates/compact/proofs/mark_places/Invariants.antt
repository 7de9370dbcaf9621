use Rattle.compact.proofs.CoverLaws.{Covers}
use Rattle.compact.proofs.mark_places.Given as goal

abbrev pub invariant-loop-k : goal.invariant-loop-k
invariant-loop-k l =
    Covers l.sheet l.c l.bits l.far l.k
