use Rattle.std.proofs.Common.{◌≡◌, ◌*◌, length}
use Rattle.mend.specs.Items.{changed_to, report_of}
use Rattle.mend.proofs.list.Given as goal

abbrev pub invariant-loop-k : goal.invariant-loop-k
invariant-loop-k l =
    (l.at ≡ 3 * length (changed_to l.sheet l.c l.k)) × (l.report ≡ report_of (length l.initial.report) (changed_to l.sheet l.c l.k))
