use Rattle.table_spans.proofs.Turns.{Filling}
use Rattle.table_spans.proofs.fill.Given as goal

abbrev pub invariant-loop-i : goal.invariant-loop-i
invariant-loop-i l =
    Filling l.sheet l.base l.n l.initial.table l.table l.f l.i
