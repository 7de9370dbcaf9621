use Rattle.side.proofs.SideLaws.{by-shuffles}
use Rattle.std.proofs.Common.{rules}
use Rattle.side.proofs.side_by_side.Goals as goal

pub returns : goal.returns
returns c =
    by-shuffles c.args.text.now c.args.start c.args.far _ _ _ _ _ c.lay.ensures c.shuffle.ensures c.shuffle-2.ensures c.shuffle-3.ensures c.shuffle-4.ensures (search rules)
