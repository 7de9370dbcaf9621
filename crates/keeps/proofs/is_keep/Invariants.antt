use mathlib.Core.Path.{◌≡◌}
use Rattle.rules.specs.Base.{same, any_of}
use Rattle.rules.specs.Words.{body_at}
use Rattle.rules.specs.Sheet.{body_part, keeps_of}
use Rattle.keeps.proofs.Laws.{kept_from}
use Rattle.keeps.proofs.is_keep.Given as goal

abbrev pub invariant-loop-i : goal.invariant-loop-i
invariant-loop-i l = any_of (same (body_part l.sheet (body_at l.c) l.p)) (keeps_of l.sheet l.c) ≡ kept_from l.sheet l.c (body_part l.sheet (body_at l.c) l.p) l.i
