use Prim.Native.Nat.{◌-◌, ◌≤◌}
use lib.ListN.{length, drop}
use Rattle.rules.specs.Text.{indent_comment, indent_of, append}
use Rattle.ascii.specs.Part.{part}
use Rattle.text.specs.Held.{text_of}
use Rattle.text.proofs.WorkLaws.{Working}
use Rattle.words.proofs.append_comment.Given as goal

abbrev pub invariant-loop-i : goal.invariant-loop-i
invariant-loop-i l =
    (l.i ≤ l.n) × Working (length l.initial.text) (append (length l.initial.text) (indent_comment (indent_of l.indent l.level) (part l.src l.start l.n)) (text_of l.initial.done l.initial.text)) (indent_comment (indent_of l.indent l.level) (drop l.i (part l.src l.start l.n))) l.done l.text

abbrev pub decreases-loop-i : goal.decreases-loop-i
decreases-loop-i l =
    l.n - l.i
