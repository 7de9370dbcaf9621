use native.Mathlib.Omega.{arith}
use Rattle.longest.proofs.FlagLaws.{has_room, one_more}
use Rattle.std.proofs.Common.{rules}
use Rattle.longest.proofs.flags.Goals as goal

pub overflow_add-bits : goal.overflow_add-bits
overflow_add-bits c =
    let h = has_room c.args.text.now c.args.at c.args.far c.loop-k.k c.loop-k.bits c.loop-k-test.true c.loop-k.invariant in
    omega arith

pub overflow_add-bits-in-loop-k : goal.overflow_add-bits-in-loop-k
overflow_add-bits-in-loop-k c =
    let h = has_room c.args.text.now c.args.at c.args.far c.loop-k.k c.loop-k.bits c.loop-k-test.true c.loop-k.invariant in
    search rules

pub loop-k-preserved : goal.loop-k-preserved
loop-k-preserved c =
    one_more c.args.text.now c.args.at c.args.far c.loop-k.k c.loop-k.bits _ c.loop-k-test.true c.loop-k.invariant c.from.ensures (search rules)
