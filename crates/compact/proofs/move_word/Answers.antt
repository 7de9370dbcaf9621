use Prim.Native.Nat.{◌*◌}
use native.Mathlib.Omega.{arith}
use Rattle.compact.proofs.PlaceLaws.{place_tested}
use Rattle.compact.proofs.WriteLaws.{by_three, by-start, by-same, moved-start}
use Rattle.std.proofs.Common.{rules}
use Rattle.compact.proofs.move_word.Goals as goal

pub returns-then-at-eq12 : goal.returns-then-at-eq12
returns-then-at-eq12 c =
    by_three c.args.sheet.now c.args.c _ _ (4 * c.args.k) c.args.kept c.if-at-eq12.true c.requires.kept_value.0 c.put_word.ensures

pub place_at-p-requires : goal.place_at-p-requires
place_at-p-requires c =
    let i = (place_tested c.args.sheet.now c.args.c c.requires.sheeted.0 c.args.k c.starts_place.result c.requires.kept_value.1 c.starts_place.ensures c.if-starts_place.true) in search rules

pub new_start-requires : goal.new_start-requires
new_start-requires c =
    (c.requires.counted, (let i = (place_tested c.args.sheet.now c.args.c c.requires.sheeted.0 c.args.k c.starts_place.result c.requires.kept_value.1 c.starts_place.ensures c.if-starts_place.true) in rw c.place_at-p.ensures (omega arith)))

pub returns-then-starts_place : goal.returns-then-starts_place
returns-then-starts_place c =
    let m = moved-start c.args.sheet.now c.args.c c.args.bits.now c.requires.sheeted.1 c.place_at-p.result c.new_start.result (let i = (place_tested c.args.sheet.now c.args.c c.requires.sheeted.0 c.args.k c.starts_place.result c.requires.kept_value.1 c.starts_place.ensures c.if-starts_place.true) in rw c.place_at-p.ensures (omega arith)) c.new_start.ensures in
    by-start c.args.sheet.now c.args.c _ _ (4 * c.args.k) c.if-at-eq12.false c.starts_place.result c.starts_place.ensures c.place_at-p.result c.new_start.result c.if-starts_place.true c.place_at-p.ensures m c.put_word-then-starts_place.ensures

pub returns : goal.returns
returns c =
    by-same c.args.sheet.now c.args.c _ _ (4 * c.args.k) c.if-at-eq12.false c.starts_place.result c.starts_place.ensures c.if-starts_place.false c.copy_word.ensures
