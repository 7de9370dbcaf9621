use Rattle.lines.proofs.MarkLaws.{by-mark}
use Rattle.std.proofs.Common.{rules}
use Rattle.lines.proofs.marks_in.Goals as goal

pub loop-i-preserved : goal.loop-i-preserved
loop-i-preserved c =
    (search rules, by-mark c.args.text.now c.args.start c.loop-i.i c.loop-i.feeds _ c.loop-i.tab (search rules) c.loop-i.invariant.1 c.from-feeds.ensures)
