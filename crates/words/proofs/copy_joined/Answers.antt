use Rattle.words.proofs.CopyLaws.{by-from}
use Rattle.words.proofs.BlockLaws.{by-whole-room, by-rest-room, by-joined}
use Rattle.std.proofs.Common.{rules}
use Rattle.words.proofs.copy_joined.Goals as goal

pub join_blocks-j-requires : goal.join_blocks-j-requires
join_blocks-j-requires c =
    search (rules, by-whole-room)

pub join_bytes-all-requires : goal.join_bytes-all-requires
join_bytes-all-requires c =
    record { at_le_end = (search (rules, by-from), search (rules, by-rest-room)); n_in_bounds = search rules }

pub returns : goal.returns
returns c =
    search (rules, by-joined)
