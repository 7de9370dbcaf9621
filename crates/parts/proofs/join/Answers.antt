use mathlib.Core.Path.{◌∙◌}
use Prim.Native.Nat.{◌+◌, ◌*◌}
use Rattle.ascii.specs.Part.{part}
use Rattle.parts.proofs.JoinLaws.{told-known, part-fits, part_room, parts_on, feeds-on, best_grows}
use Rattle.std.proofs.Common.{rules}
use Rattle.parts.proofs.join.Goals as goal

pub joined-m-requires : goal.joined-m-requires
joined-m-requires c =
    let fits = part-fits c.args.text.now c.args.start c.args.far c.loop-k.k c.args.from c.loop-k.m c.requires.far_in_bounds c.loop-k.invariant.0 (search rules) in
    let room = part_room c.args.text.now c.args.start c.args.far c.loop-k.k c.args.from c.loop-k.m c.requires.far_in_bounds c.loop-k.invariant.0 (search rules) (search rules) in
    record { n_in_bounds = (fits, search rules, c.loop-k.invariant.0.under, room); told = told-known _ c.args.from.best c.loop-k.m.best _ _ _ c.loop-k.invariant.1 (c.requires.told_all.each c.loop-k.k (search rules)) }

pub loop-k-preserved : goal.loop-k-preserved
loop-k-preserved c =
    let f = feeds-on c.args.text.now c.args.start c.args.far c.loop-k.k c.args.from c.loop-k.m c.requires.far_in_bounds c.loop-k.invariant.0 (search rules) c.loop-k.n _ c.loop-k.invariant.2 (c.from-n.ensures ∙ c.requires.told_all.fed c.loop-k.k (search rules)) c.loop-k.invariant.3 in
    let on = parts_on c.args.text.now c.args.start c.args.far c.loop-k.k c.args.from c.loop-k.m c.requires.far_in_bounds c.loop-k.invariant.0 (search rules) _ c.joined-m.ensures in
    (on, best_grows c.args.from.best c.loop-k.m _ (part c.args.text.now (c.args.start + c.loop-k.k * c.args.far) c.args.far) c.loop-k.invariant.1 c.joined-m.ensures, f.1, f.2)
