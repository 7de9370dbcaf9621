use Rattle.narrow.proofs.NarrowLaws.{by_rows}
use Rattle.narrow.proofs.narrow_block.Goals as goal

pub returns : goal.returns
returns c =
    by_rows c.args.text.now _ _ c.args.start c.args.far c.args.at.now c.args.head.now c.args.best.now c.args.feeds.now _ _ _ _ _ _ c.requires.0 c.coded-t.ensures c.coded-u.ensures c.sixteen_on.ensures c.add.ensures
