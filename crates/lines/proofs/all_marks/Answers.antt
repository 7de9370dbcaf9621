use mathlib.Core.Path.{◌≡◌}
use Prim.Native.Nat.{◌+◌, ◌*◌, ◌/◌}
use native.Mathlib.Omega.{arith}
use Rattle.lines.proofs.MarkLaws.{by_block, by_last_block}
use Rattle.std.proofs.Common.{rules}
use Rattle.lines.proofs.all_marks.Goals as goal

pub loop-k-preserved : goal.loop-k-preserved
loop-k-preserved c =
    let z : 192 * (c.loop-k.k + 1) ≡ 192 * c.loop-k.k + 192 = omega arith in
    (search rules, rw z (by_block c.args.text.now c.args.start (192 * c.loop-k.k) 192 c.loop-k.feeds c.loop-k.tab c.marks_in-m.result c.loop-k.invariant.1 c.marks_in-m.ensures.0))

pub returns : goal.returns
returns c =
    let z : 192 * c.loop-k.k ≡ 192 * (c.args.n / 192) = omega arith in
    (by_last_block c.args.text.now c.args.start c.args.n (192 * (c.args.n / 192)) _ _ _ (omega arith) (rw z at c.loop-k.invariant.1) c.marks_in-m-2.ensures.0, omega (arith, c.marks_in-m-2.ensures.1, c.loop-k.invariant.0))
