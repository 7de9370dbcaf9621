use Rattle.twigmantle.proofs.EnoughLaws.{room-enough}
use Rattle.std.proofs.Common.{rules}
use Rattle.twigmantle.proofs.twigmantle_room.Goals as goal

pub returns : goal.returns
returns c =
    search (rules, room-enough)
