use mathlib.Core.Path.{◌∙◌}
use Prim.Native.Nat.{◌*◌}
use native.Mathlib.Omega.{arith}
use Rattle.ascii.specs.Part.{part}
use Rattle.parts.proofs.ShortLaws.{narrow-more, narrow-fed, narrows_on, all-narrow, wide-at, none-wide, a_wide_line, known-too}
use Rattle.std.proofs.Common.{rules}
use Rattle.parts.proofs.short.Goals as goal

pub narrow_block-requires : goal.narrow_block-requires
narrow_block-requires c =
    let s = c.loop-j.invariant in
    let more = narrow-more c.args.text.now c.args.start c.args.far _ _ _ _ _ c.requires.far_in_bounds s (search rules) in
    (omega (arith, more, c.requires.far_in_bounds), narrow-fed c.args.text.now c.args.start c.args.far _ _ _ _ _ c.requires.far_in_bounds s)

pub loop-j-preserved : goal.loop-j-preserved
loop-j-preserved c =
    narrows_on c.args.text.now c.args.start c.args.far c.loop-j.j _ _ _ _ c.requires.far_in_bounds c.loop-j.invariant (search rules) _ _ _ _ c.narrow_block.ensures

pub returns-then-is_some : goal.returns-then-is_some
returns-then-is_some c =
    let v = part c.args.text.now c.args.start (16 * c.args.far) in
    let w = wide-at _ _ c.first_wide.result c.first_wide.ensures (search rules) in
    let there = a_wide_line c.args.text.now c.args.start c.args.far c.loop-j.j w.0 _ _ _ _ c.args.from (search rules) c.loop-j.invariant (search rules) w.1.0 w.1.1 in
    c.long.ensures ∙ known-too c.args.from _ v (search rules) there

pub join-requires : goal.join-requires
join-requires c =
    record {
      far_in_bounds = c.requires.far_in_bounds;
      at_le_best = c.requires.at_le_best;
      told_all = all-narrow c.args.text.now c.args.start c.args.far c.loop-j.j c.args.from.best _ _ _ _ _ _ _ c.loop-j.invariant (search rules) (none-wide _ _ c.first_wide.result c.first_wide.ensures (search rules)) c.raise.ensures.new c.raise-2.ensures.new c.raise-3.ensures.new;
    }
