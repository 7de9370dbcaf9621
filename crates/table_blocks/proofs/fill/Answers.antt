use native.Mathlib.Omega.{arith}
use Prim.Native.Nat.{◌+◌, ◌-◌}
use mathlib.Core.Path.{◌≡◌, ap, ◌∙◌}
use Rattle.rules.specs.Sheet.{token_of}
use Rattle.rules.specs.InlineBlock.{part_of}
use Rattle.table_blocks.specs.Rows.{Rows}
use Rattle.table_blocks.proofs.Fills.{all_blocks}
use Rattle.table_blocks.proofs.Tables.{rows-rest, top-rest}
use Rattle.table_blocks.proofs.fill.Goals as goal

pub loop-j-preserved : goal.loop-j-preserved
loop-j-preserved c =
    let z : c.loop-j.j ≡ c.loop-j.j - 1 + 1 = omega arith in
    let i = rw z at c.loop-j.invariant in
    let e = c.part_of-part.ensures ∙ ap part_of c.kind_at.ensures in
    (rows-rest _ _ _ _ i.0 _ e c.in-Newline.is, c.count_in-counted.ensures, top-rest _ _ _ _ i.0 _ e c.in-Newline.is _ i.2)

pub returns-clause-blocks : goal.returns-clause-blocks
returns-clause-blocks c =
    let z : c.loop-j.j ≡ 0 = omega arith in
    let q : Rows (token_of c.args.sheet.now c.args.base) c.args.n 0 c.loop-j.table = rw z at c.loop-j.invariant.0 in all_blocks _ _ _ _ q
