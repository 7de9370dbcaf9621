use Rattle.judge.proofs.DueLaws.{due-nothing, due-own, due-cased}
use Rattle.std.proofs.Common.{rules}
use Rattle.judge.proofs.due_on.Goals as goal

pub returns-in-Nothing : goal.returns-in-Nothing
returns-in-Nothing c = search (rules, due-nothing)

pub returns-in-Own : goal.returns-in-Own
returns-in-Own c = search (rules, due-own)

pub returns-in-Cased : goal.returns-in-Cased
returns-in-Cased c = search (rules, due-cased)
