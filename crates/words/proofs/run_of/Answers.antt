use Rattle.words.proofs.BlockLaws.{by-block-more}
use Rattle.std.proofs.Common.{rules}
use Rattle.words.proofs.run_of.Goals as goal

pub loop-i-preserved : goal.loop-i-preserved
loop-i-preserved c =
    (search rules, search rules, by-block-more c.args.white c.args.src.now c.args.start c.loop-i.i 32 _ c.loop-i.invariant.2 c.all_white.ensures (c.if-not-all_white.false))
