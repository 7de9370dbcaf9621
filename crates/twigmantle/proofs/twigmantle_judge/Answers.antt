use Rattle.foreign.proofs.Call.{call_judges}
use Rattle.std.proofs.Common.{rules}
use Rattle.twigmantle.proofs.twigmantle_judge.Goals as goal

pub returns : goal.returns
returns c =
    search (rules, call_judges)
