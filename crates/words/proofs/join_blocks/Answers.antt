use Prim.Native.Nat.{◌+◌, ◌≤◌}
use lib.ListN.{length}
use Rattle.words.proofs.CopyLaws.{by-from}
use Rattle.words.proofs.BlockLaws.{by-start, by-white-run, by-run-room, by-black-run, by-block-room, by-block}
use Rattle.std.proofs.Common.{rules}
use Rattle.words.proofs.join_blocks.Goals as goal

pub loop-i-init : goal.loop-i-init
loop-i-init c =
    search (rules, by-start)

pub loop-i-preserved-then-white-ne0 : goal.loop-i-preserved-then-white-ne0
loop-i-preserved-then-white-ne0 c =
    search (rules, by-white-run)

pub copy_cased-requires : goal.copy_cased-requires
copy_cased-requires c =
    search (rules, by-run-room)

pub overflow_add-past : goal.overflow_add-past
overflow_add-past c =
    let fits : c.loop-i.j.end + c.run_of-run.result ≤ length c.loop-i.text = search (rules, by-run-room) in
    search rules

pub loop-i-preserved-then-both : goal.loop-i-preserved-then-both
loop-i-preserved-then-both c =
    search (rules, by-black-run)

pub join_bytes-j-requires : goal.join_bytes-j-requires
join_bytes-j-requires c =
    search (rules, by-from, by-block-room)

pub loop-i-preserved : goal.loop-i-preserved
loop-i-preserved c =
    search (rules, by-block)
