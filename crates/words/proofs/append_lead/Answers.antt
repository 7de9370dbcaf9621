use Rattle.words.proofs.CommentLaws.{by-no-lead, by-lead}
use Rattle.std.proofs.Common.{rules}
use Rattle.words.proofs.append_lead.Goals as goal

pub returns-then-lead-eq0 : goal.returns-then-lead-eq0
returns-then-lead-eq0 c =
    search (rules, by-no-lead)

pub returns : goal.returns
returns c =
    search (rules, by-lead)
