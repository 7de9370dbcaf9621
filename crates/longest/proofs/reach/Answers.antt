use Rattle.longest.proofs.FlagLaws.{reached_more}
use Rattle.std.proofs.Common.{rules}
use Rattle.longest.proofs.reach.Goals as goal

pub returns : goal.returns
returns c =
    (search rules, reached_more _ _ c.args.h c.args.by c.args.n c.widen.ensures)
