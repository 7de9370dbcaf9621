use Rattle.lanes.proofs.BlockLaws.{over, on-sixteen}
use Rattle.lanes.proofs.block.Goals as goal

pub heads-requires : goal.heads-requires
heads-requires c =
    (c.requires.1.below, over c.args.text.now _ _ c.args.at.now _ _ _ _ _ _ _ _ c.args.start c.args.far c.coded-t.ensures c.coded-u.ensures c.requires.0 c.phases.ensures c.sixteen_on.ensures)

pub returns : goal.returns
returns c =
    on-sixteen c.args.text.now _ _ c.args.at.now _ _ _ _ _ _ _ _ c.args.start c.args.far c.coded-t.ensures c.coded-u.ensures c.requires.0 c.phases.ensures c.sixteen_on.ensures
    c.args.head.now c.args.best.now c.args.feeds.now _ _ _ _ _ c.requires.1 c.heads.ensures c.tops.ensures c.tops-2.ensures c.ends.ensures c.add.ensures
