use Rattle.std.proofs.Common.{◌≡◌, ◌≤◌}
use Rattle.rules.specs.Words.{body_at}
use Rattle.rules.specs.Sheet.{tokens_of}
use Rattle.switched.specs.Count.{most_placeholders}
use Rattle.switched.proofs.Count.{most_from}
use Rattle.switched.proofs.most_placeholders.Given as goal

abbrev pub invariant-loop-i : goal.invariant-loop-i
invariant-loop-i l = (l.count ≤ l.i) × (most_placeholders (tokens_of l.fn.sheet l.fn.c) ≡ most_from l.fn.sheet (body_at l.fn.c) l.fn.c.tokens l.count l.i)
