use Rattle.brackets.proofs.OpeningLaws.{by-opening-at}
use Rattle.std.proofs.Common.{rules}
use Rattle.brackets.proofs.opening_at.Goals as goal

pub returns : goal.returns
returns c =
    search (rules, by-opening-at)
