use Rattle.brackets.proofs.ClosingLaws.{by-unfolded, by-inline-on, by_level}
use Rattle.std.proofs.Common.{rules}
use Rattle.brackets.proofs.ends_under.Goals as goal

pub returns-then-not-folded : goal.returns-then-not-folded
returns-then-not-folded c =
    search (rules, by-unfolded)

pub returns-then-is_on : goal.returns-then-is_on
returns-then-is_on c =
    search (rules, by-inline-on)

pub returns : goal.returns
returns c =
    search (rules, by_level)
