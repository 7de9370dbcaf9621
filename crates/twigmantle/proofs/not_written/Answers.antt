use Rattle.rules.specs.Compacted.{outcome_of}
use Rattle.twigmantle.proofs.Laws.{by-not-written}
use Rattle.std.proofs.Common.{rules}
use Rattle.twigmantle.proofs.not_written.Goals as goal

pub returns : goal.returns
unfolding outcome_of
returns c =
    search (rules, by-not-written)
