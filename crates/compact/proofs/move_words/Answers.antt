use Rattle.std.proofs.Common.{rules}
use Rattle.compact.proofs.WriteLaws.{words-begin, words-on}
use Rattle.compact.proofs.move_words.Goals as goal

pub loop-k-init : goal.loop-k-init
loop-k-init c =
    words-begin c.args.sheet.now c.args.c c.args.out.now

pub loop-k-preserved : goal.loop-k-preserved
loop-k-preserved c =
    words-on c.args.sheet.now c.args.c c.requires.sheeted.0 c.args.out.now c.loop-k.out c.loop-k.k c.loop-k.invariant _ (search rules) c.move_word.ensures
