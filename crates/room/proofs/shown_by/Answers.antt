use Rattle.room.proofs.TokenLaws.{shows_entry}
use Rattle.std.proofs.Common.{rules}
use Rattle.room.proofs.shown_by.Goals as goal

pub returns-then-lays_out : goal.returns-then-lays_out
returns-then-lays_out c = search (rules, shows_entry)
