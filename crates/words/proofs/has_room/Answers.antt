use Rattle.words.proofs.RoomLaws.{joined-short, by_value}
use Rattle.std.proofs.Common.{rules}
use Rattle.words.proofs.has_room.Goals as goal

pub returns-then-n-room : goal.returns-then-n-room
returns-then-n-room c =
    search (rules, by_value, joined-short)
