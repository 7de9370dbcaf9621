use native.Mathlib.Omega.{arith}
use Rattle.parts.proofs.LongLaws.{lane-more, lane-ready, lanes_on, all_told}
use Rattle.std.proofs.Common.{rules}
use Rattle.parts.proofs.long.Goals as goal

pub block-requires : goal.block-requires
block-requires c =
    let more = lane-more c.args.text.now c.args.start c.args.far c.loop-j.j c.loop-j.at c.loop-j.head c.loop-j.best c.loop-j.feeds c.requires.far_in_bounds c.loop-j.invariant (search rules) in
    (omega (arith, more, c.requires.far_in_bounds), lane-ready c.args.text.now c.args.start c.args.far c.loop-j.j c.loop-j.at c.loop-j.head c.loop-j.best c.loop-j.feeds c.requires.far_in_bounds c.loop-j.invariant (search rules))

pub loop-j-preserved : goal.loop-j-preserved
loop-j-preserved c =
    lanes_on c.args.text.now c.args.start c.args.far c.loop-j.j c.loop-j.at c.loop-j.head c.loop-j.best c.loop-j.feeds c.requires.far_in_bounds c.loop-j.invariant (search rules) _ _ _ _ c.block.ensures

pub join-requires : goal.join-requires
join-requires c =
    record { far_in_bounds = c.requires.far_in_bounds; at_le_best = search rules; told_all = all_told c.args.text.now c.args.start c.args.far c.loop-j.j c.args.from.best c.loop-j.at c.loop-j.head c.loop-j.best c.loop-j.feeds c.loop-j.invariant (search rules) (search rules) }
