use borrow.Author.Tests.{not-false}
use Rattle.text.proofs.CutLaws.{cut-goes, cut-stops, cut-ends}
use Rattle.text.proofs.EightLaws.{eights-go, goes_on, all-cut}
use Rattle.std.proofs.Common.{rules}
use Rattle.text.proofs.trim_end.Goals as goal

pub loop-len-init : goal.loop-len-init
loop-len-init c =
    goes_on (eights-go c.args.white c.args.t _ _ _ (search rules) c.cut_eights-len.ensures)

pub returns-then-not-is_cut : goal.returns-then-not-is_cut
returns-then-not-is_cut c =
    all-cut (eights-go c.args.white c.args.t _ _ _ (search rules) c.cut_eights-len.ensures) _ _
    (cut-stops c.loop-len.invariant _ (search rules) c.is_cut.ensures _ (c.if-not-is_cut.true) c.lowered.ensures)

pub loop-len-preserved : goal.loop-len-preserved
loop-len-preserved c =
    search (rules, not-false, cut-goes)

pub returns : goal.returns
returns c =
    all-cut (eights-go c.args.white c.args.t _ _ _ (search rules) c.cut_eights-len.ensures) _ _
    (cut-ends c.loop-len.invariant _ c.loop-len-test.false c.lowered-2.ensures)
