use Rattle.brackets.proofs.OpeningLaws.{by-push-opening}
use Rattle.std.proofs.Common.{rules}
use Rattle.brackets.proofs.push_opening.Goals as goal

pub returns : goal.returns
returns c =
    search (rules, by-push-opening)
