use borrow.Author.Tests.{not-true, not-false}
use Rattle.text.proofs.AppendLaws.{kept_append, by-full}
use Rattle.words.proofs.RoomLaws.{by-no-room, by_fits, by_written}
use Rattle.std.proofs.Common.{rules}
use Rattle.words.proofs.append_reserved.Goals as goal

pub returns-then-fault-ne0 : goal.returns-then-fault-ne0
returns-then-fault-ne0 c =
    search (rules, kept_append)

pub returns-then-not-has_room : goal.returns-then-not-has_room
returns-then-not-has_room c =
    search (rules, not-true, by-full, by-no-room)

pub copy_joined-end-requires : goal.copy_joined-end-requires
copy_joined-end-requires c =
    search (rules, not-false, by_fits)

pub returns : goal.returns
returns c =
    search (rules, not-false, by_written)
