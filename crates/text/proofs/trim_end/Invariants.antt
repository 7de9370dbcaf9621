use lib.ListN.{length}
use Rattle.rules.specs.Text.{cut}
use Rattle.text.specs.Held.{text_of, cut_to, cut_bytes}
use Rattle.text.proofs.CutLaws.{Cutting}
use Rattle.text.proofs.trim_end.Given as goal

abbrev pub invariant-loop-len : goal.invariant-loop-len
invariant-loop-len l =
    Cutting (length l.initial.text) (cut (cut_bytes l.white) (text_of (cut_to l.initial.len l.floor l.low l.fault) l.initial.text)) (cut_bytes l.white) l.len l.floor l.low l.fault l.text

abbrev pub decreases-loop-len : goal.decreases-loop-len
decreases-loop-len l =
    l.len
