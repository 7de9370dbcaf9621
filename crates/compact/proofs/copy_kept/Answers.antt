use mathlib.Core.Logic.{inl, inr}
use mathlib.Core.Path.{sym, ◌∙◌}
use Rattle.compact.proofs.WriteLaws.{copy_begins, copy_room, copy_on, tested}
use Rattle.std.proofs.Common.{rules}
use Rattle.compact.proofs.copy_kept.Goals.{then-is_marked, else-is_marked}
use Rattle.compact.proofs.copy_kept.Goals as goal

pub loop-j-init : goal.loop-j-init
loop-j-init c =
    search (rules, copy_begins)

pub bounds-out-at : goal.bounds-out-at
bounds-out-at c =
    (copy_room c.args.sheet.now c.args.c c.args.out.now c.args.base c.loop-j.out c.loop-j.at c.loop-j.j c.loop-j.invariant c.loop-j-test.true (sym (tested c.args.sheet.now c.args.c c.requires.sheeted.0 c.args.bits.now c.requires.sheeted.1 c.loop-j.j c.is_marked.result c.loop-j-test.true c.is_marked.ensures) ∙ c.if-is_marked.true) c.requires.base_value.1)

pub overflow_add-at : goal.overflow_add-at
overflow_add-at c =
    let k = (copy_room c.args.sheet.now c.args.c c.args.out.now c.args.base c.loop-j.out c.loop-j.at c.loop-j.j c.loop-j.invariant c.loop-j-test.true (sym (tested c.args.sheet.now c.args.c c.requires.sheeted.0 c.args.bits.now c.requires.sheeted.1 c.loop-j.j c.is_marked.result c.loop-j-test.true c.is_marked.ensures) ∙ c.if-is_marked.true) c.requires.base_value.1) in search rules

pub loop-j-preserved : goal.loop-j-preserved
loop-j-preserved c =
    copy_on c.args.sheet.now c.args.c c.args.out.now c.args.base c.loop-j.out c.loop-j.at c.loop-j.j c.loop-j.invariant c.loop-j-test.true c.is_marked.result c.if-is_marked.out c.if-is_marked.at (tested c.args.sheet.now c.args.c c.requires.sheeted.0 c.args.bits.now c.requires.sheeted.1 c.loop-j.j c.is_marked.result c.loop-j-test.true c.is_marked.ensures) c.requires.base_value.0 c.requires.base_value.1
    (elim c.if-is_marked.branch [ then-is_marked w ↦ inl (w.if-is_marked.true, w.out-is, w.at-is) | else-is_marked w ↦ inr (w.if-is_marked.false, w.out-is, w.at-is) ])
