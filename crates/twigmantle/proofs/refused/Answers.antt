use Rattle.rules.specs.Answer.{report_of}
use Rattle.twigmantle.proofs.Laws.{by-cleared}
use Rattle.std.proofs.Common.{rules}
use Rattle.twigmantle.proofs.refused.Goals as goal

pub returns : goal.returns
unfolding report_of
returns c =
    search (rules, by-cleared)
