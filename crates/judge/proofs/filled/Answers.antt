use Rattle.judge.proofs.DueLaws.{due-filled}
use Rattle.std.proofs.Common.{rules}
use Rattle.judge.proofs.filled.Goals as goal

pub returns : goal.returns
returns c = search (rules, due-filled)
