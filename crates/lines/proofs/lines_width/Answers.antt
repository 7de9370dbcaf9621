use Prim.Native.Nat.{◌+◌, ◌*◌, ◌≤◌}
use Rattle.lines.proofs.MarkLaws.{by-more-lines, by_size, by-parts-feeds, few-feeds, by-parts-columns}
use Rattle.lines.proofs.StretchLaws.{by-stretch, by_width}
use Rattle.std.proofs.Common.{rules}
use Rattle.lines.proofs.lines_width.Goals as goal

pub overflow_add-lines : goal.overflow_add-lines
overflow_add-lines c =
    let some = few-feeds c.args.text.now c.loop-i.i (16 * c.in-Some.far) c.loop-i.m c.sixteen-s.result c.sixteen-s.ensures (search rules) in
    search (rules, some)

pub loop-i-preserved-in-Some : goal.loop-i-preserved-in-Some
loop-i-preserved-in-Some c =
    let fits : c.loop-i.i + 16 * c.in-Some.far ≤ c.args.len = search rules in
    let some = few-feeds c.args.text.now c.loop-i.i (16 * c.in-Some.far) c.loop-i.m c.sixteen-s.result c.sixteen-s.ensures (search (rules, fits)) in
    let fed = by-parts-feeds c.args.text.now c.loop-i.i (16 * c.in-Some.far) c.loop-i.m c.sixteen-s.result c.sixteen-s.ensures in
    let on = by-stretch c.args.text.now c.args.len c.loop-i.i c.loop-i.m c.loop-i.invariant.0 (16 * c.in-Some.far) _ c.requires.0 fits (by-parts-columns c.args.text.now c.loop-i.i (16 * c.in-Some.far) c.loop-i.m c.sixteen-s.result c.sixteen-s.ensures) in
    (on, search (rules, some), by-more-lines c.args.text.now c.loop-i.i (16 * c.in-Some.far) c.loop-i.lines c.sixteen-s.result.feeds fed c.loop-i.invariant.2)

pub loop-i-preserved : goal.loop-i-preserved
loop-i-preserved c =
    let on = by-stretch c.args.text.now c.args.len c.loop-i.i c.loop-i.m c.loop-i.invariant.0 4224 _ c.requires.0 (search rules) c.stretch-m.ensures in
    (on, search rules, by-more-lines c.args.text.now c.loop-i.i 4224 c.loop-i.lines _ c.all_marks-k.ensures.0.counted c.loop-i.invariant.2)

pub returns : goal.returns
returns c =
    search (rules, by_size, by_width)
