use native.Mathlib.Omega.{arith}
use Prim.Native.Nat.{◌+◌, ◌≤◌}
use Rattle.words.proofs.RoomLaws.{joined-short, by-count-start, by-count-white, by-count-black, by-count-fits}
use Rattle.std.proofs.Common.{rules}
use Rattle.words.proofs.joined_len.Goals as goal

pub loop-i-init : goal.loop-i-init
loop-i-init c =
    search (rules, by-count-start)

pub loop-i-preserved-then-is_white : goal.loop-i-preserved-then-is_white
loop-i-preserved-then-is_white c =
    search (rules, by-count-white)

pub overflow_add-len : goal.overflow_add-len
overflow_add-len c =
    let fits : c.loop-i.len + c.spaced_len-len.result ≤ c.args.n = search (rules, by-count-fits, joined-short) in
    omega arith

pub loop-i-preserved : goal.loop-i-preserved
loop-i-preserved c =
    search (rules, by-count-black)
