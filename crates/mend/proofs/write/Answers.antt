use Rattle.std.proofs.Common.{arith, length}
use Rattle.mend.proofs.WriteLaws.{write_begins, row_in, write_on, write_ends}
use Rattle.mend.proofs.write.Goals as goal

pub loop-i-init : goal.loop-i-init
loop-i-init c = write_begins c.args.sheet.now c.args.c c.requires.sized.0 (λ i. omega (arith, c.type_inv.sheet i))

pub write_row-requires : goal.write_row-requires
write_row-requires c = (c.requires.sized.0.few, rw c.loop-i.auto.sheet (row_in c.args.sheet.now c.args.c c.args.report.now (length c.args.report.now) c.loop-i.i c.requires.report_value.0 (omega arith) c.requires.sized.0))

pub loop-i-preserved : goal.loop-i-preserved
loop-i-preserved c = rw c.write_row.ensures (write_on c.args.sheet.now c.args.c c.args.report.now (length c.args.report.now) c.loop-i.i c.requires.report_value.0 (omega arith) c.loop-i.sheet c.loop-i.invariant)

pub returns : goal.returns
returns c = write_ends c.args.sheet.now c.args.c c.loop-i.i c.loop-i.sheet (omega arith) c.loop-i.invariant
