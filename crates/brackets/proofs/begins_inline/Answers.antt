use Rattle.brackets.proofs.OpeningLaws.{by-active, by-fitting}
use Rattle.std.proofs.Common.{rules}
use Rattle.brackets.proofs.begins_inline.Goals as goal

pub returns-then-is_active : goal.returns-then-is_active
returns-then-is_active c =
    search (rules, by-active)

pub returns : goal.returns
returns c =
    search (rules, by-fitting)
