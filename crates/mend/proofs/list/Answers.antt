use Rattle.std.proofs.Common.{arith, ◌∙◌, length}
use Rattle.std.proofs.lemmas.List.{length-append}
use Rattle.mend.proofs.ItemLaws.{room_for, more_same, more_changed, report_begins, report_more}
use Rattle.mend.specs.Items.{changed_to}
use Rattle.mend.proofs.list.Goals as goal
use Rattle.mend.proofs.list.Goals.{then-x, else-x}

pub offset_bounds-report-at : goal.offset_bounds-report-at
offset_bounds-report-at c = omega (arith, room_for c.args.sheet.now c.args.c c.loop-k.k c.read_item-x.result c.read_item-x.ensures (omega arith) c.if-x.true)

pub slice_bounds-copy_from_slice-end : goal.slice_bounds-copy_from_slice-end
slice_bounds-copy_from_slice-end c = omega (arith, room_for c.args.sheet.now c.args.c c.loop-k.k c.read_item-x.result c.read_item-x.ensures (omega arith) c.if-x.true)

pub loop-k-preserved : goal.loop-k-preserved
loop-k-preserved c =
    let s = c.args.sheet.now in
    let x = c.read_item-x.result in
    elim c.if-x.branch [
      | then-x w ↦
          let room = room_for s c.args.c c.loop-k.k x c.read_item-x.ensures (omega arith) w.if-x.true in
          let more = more_changed s c.args.c c.loop-k.k x c.read_item-x.ensures w.if-x.true in (
            w.at-is ∙ rw (more, length-append) (omega arith),
            w.report-is ∙ rw (more, w.copy_from_slice.ensures.after) (report_more (length c.args.report.now) (changed_to s c.args.c c.loop-k.k) x c.loop-k.report c.loop-k.at _ c.loop-k.invariant.1 c.loop-k.invariant.0 (omega arith) (omega arith)),
          )
      | else-x w ↦
          let same = more_same s c.args.c c.loop-k.k x c.read_item-x.ensures w.if-x.false in
          (w.at-is ∙ rw same c.loop-k.invariant.0, w.report-is ∙ rw same c.loop-k.invariant.1)
    ]

pub loop-k-init : goal.loop-k-init
loop-k-init c = report_begins c.args.sheet.now c.args.c c.args.report.now c.requires.zeros
