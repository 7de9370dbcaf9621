use Rattle.rows.proofs.RowLaws.{trims}
use Rattle.rows.proofs.WalkLaws.{Left}
use Rattle.rows.proofs.trim_each.Given as goal

abbrev pub invariant-loop-i : goal.invariant-loop-i
invariant-loop-i l =
    Left (trims l.end l.lead) l.initial.rows l.count l.rows l.i
