use mathlib.Core.Path.{◌≡◌}
use Rattle.rules.specs.Words.{body_at}
use Rattle.rules.specs.Sheet.{body_part}
use Rattle.params.specs.Entries.{entry_named}
use Rattle.params.proofs.EntryLaws.{named_from}
use Rattle.params.proofs.find_by_name.Given as goal

abbrev pub invariant-loop-i : goal.invariant-loop-i
invariant-loop-i l = entry_named l.sheet l.c (body_part l.sheet (body_at l.c) l.name) ≡ named_from l.sheet l.c (body_part l.sheet (body_at l.c) l.name) l.i
