use Prim.Native.Nat.{◌+◌, ◌≤◌}
use native.Mathlib.Omega.{arith}
use Rattle.compact.proofs.PlaceLaws.{place_tested}
use Rattle.std.proofs.Common.{rules}
use Rattle.compact.proofs.mark_place.Goals as goal

pub place_at-p-requires : goal.place_at-p-requires
place_at-p-requires c =
    let i = (place_tested c.args.sheet.now c.args.c c.requires.sheeted.0 c.args.k c.starts_place.result c.requires.sheeted.1 c.starts_place.ensures c.if-starts_place.true) in search rules

pub mark-requires : goal.mark-requires
mark-requires c =
    let i = (place_tested c.args.sheet.now c.args.c c.requires.sheeted.0 c.args.k c.starts_place.result c.requires.sheeted.1 c.starts_place.ensures c.if-starts_place.true) in
    let l : c.to_usize.result + c.to_usize-then-starts_place.result ≤ 32768 = rw (c.to_usize.ensures.0, c.to_usize-then-starts_place.ensures.0, c.place_at-p.ensures) (omega arith) in search rules
