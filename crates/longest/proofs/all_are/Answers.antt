use Rattle.longest.proofs.SameLaws.{by-fold}
use Rattle.std.proofs.Common.{rules}
use Rattle.longest.proofs.all_are.Goals as goal

pub returns : goal.returns
returns c =
    by-fold c.args.text.now c.args.start c.args.n c.args.b c.fold.result c.requires (search rules)
