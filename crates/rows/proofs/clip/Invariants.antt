use Rattle.rows.proofs.RowLaws.{Clipping}
use Rattle.rows.proofs.clip.Given as goal

abbrev pub invariant-loop-i : goal.invariant-loop-i
invariant-loop-i l =
    Clipping l.initial.rows l.count l.low l.rows l.i
