use Prim.Native.Nat.{◌*◌, ◌≤◌}
use Rattle.ascii.specs.Part.{part}
use Rattle.lines.specs.Marked.{Marked}
use Rattle.lines.proofs.all_marks.Given as goal

abbrev pub invariant-loop-k : goal.invariant-loop-k
invariant-loop-k l =
    (l.feeds ≤ 192 * l.k) × Marked (part l.text l.start (192 * l.k)) (record { feeds = l.feeds; tab = l.tab })
