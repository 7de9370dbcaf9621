use Rattle.std.proofs.Common.{◌≡◌, ◌≤◌}
use Rattle.rules.specs.Words.{body_at}
use Rattle.rules.specs.Sheet.{tokens_of}
use Rattle.rules.specs.Rows.{placeholders}
use Rattle.fmt_switch.specs.Of.{switch_of}
use Rattle.switched.proofs.Count.{count_from}
use Rattle.switched.proofs.placeholders.Given as goal

abbrev pub invariant-loop-i : goal.invariant-loop-i
invariant-loop-i l = (l.count ≤ l.i) × (placeholders (tokens_of l.fn.sheet l.fn.c) ≡ count_from l.fn.sheet (body_at l.fn.c) l.fn.c.tokens l.count l.i (switch_of l.switch))
