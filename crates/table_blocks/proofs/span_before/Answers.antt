use native.Mathlib.Omega.{arith}
use mathlib.Core.Path.{sym, ◌∙◌}
use Prim.Native.Nat.{◌<◌}
use Rattle.table_blocks.proofs.Chain.{span-after}
use Rattle.table_blocks.proofs.Tables.{rows-segment}
use Rattle.table_blocks.proofs.span_before.Goals as goal

pub returns-in_default-clause-value : goal.returns-in_default-clause-value
returns-in_default-clause-value c =
    (sym (span-after _ _ _ 0 c.requires.j_le_e.1 _ _ c.requires.j_le_e.0 c.requires.j_le_e.2 ∙ c.in_default.ensures), omega arith)

pub returns-clause-rows_2 : goal.returns-clause-rows_2
returns-clause-rows_2 c =
    let w = c.in-Some.ensures.0 in
    let x = w.ahead in
    let u = w.up_to in
    let v = w.onward in
    let i : c.args.t < c.args.n = omega arith in
    rows-segment _ _ c.args.j c.args.t _ _ _ c.requires.rows c.requires.j_le_e.2.past i (c.requires.j_le_e.2.here i) w c.put_step.ensures

pub returns-clause-value : goal.returns-clause-value
returns-clause-value c =
    (c.in-Some.ensures.1 ∙ sym (span-after _ _ _ 0 c.requires.j_le_e.1 _ _ c.requires.j_le_e.0 c.requires.j_le_e.2), c.in-Some.ensures.0.small)
