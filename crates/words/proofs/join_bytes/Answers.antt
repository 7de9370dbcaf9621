use Rattle.words.proofs.CopyLaws.{by-none-joined, by-white, by-byte-room, by-black}
use Rattle.std.proofs.Common.{rules}
use Rattle.words.proofs.join_bytes.Goals as goal

pub loop-i-init : goal.loop-i-init
loop-i-init c =
    search (rules, by-none-joined)

pub loop-i-preserved-then-is_white : goal.loop-i-preserved-then-is_white
loop-i-preserved-then-is_white c =
    search (rules, by-white)

pub copy_spaced-end-requires : goal.copy_spaced-end-requires
copy_spaced-end-requires c =
    search (rules, by-byte-room)

pub loop-i-preserved : goal.loop-i-preserved
loop-i-preserved c =
    search (rules, by-black)
