use Prim.Native.Nat.{◌≤◌}
use Rattle.ascii.specs.Part.{part}
use Rattle.lines.specs.Marked.{Marked}
use Rattle.lines.proofs.marks_in.Given as goal

abbrev pub invariant-loop-i : goal.invariant-loop-i
invariant-loop-i l =
    (l.feeds ≤ l.i) × Marked (part l.text l.start l.i) (record { feeds = l.feeds; tab = l.tab })
