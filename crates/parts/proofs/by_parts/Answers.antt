use Prim.Native.Nat.{◌*◌}
use native.Mathlib.Omega.{arith}
use Rattle.ascii.specs.Part.{part}
use Rattle.columns.proofs.MeasureLaws.{by_rest}
use Rattle.parts.proofs.JoinLaws.{by-counted, by_first}
use Rattle.std.proofs.Common.{rules}
use Rattle.parts.proofs.by_parts.Goals as goal

pub by_columns-requires-2 : goal.by_columns-requires-2
by_columns-requires-2 c =
    let s = by_first c.args.text.now c.args.start c.args.n (16 * (c.min-far.result * 16)) c.args.from _ (search rules) (search rules) (omega (arith, c.min-far.ensures)) (by-counted _ c.args.from (part c.args.text.now c.args.start (16 * (c.min-far.result * 16))) c.sixteen-s.ensures) in
    (search rules, s.under, omega (arith, s.narrow))

pub returns : goal.returns
returns c =
    let far = c.min-far.result * 16 in
    let s = by_first c.args.text.now c.args.start c.args.n (16 * far) c.args.from _ (search rules) (search rules) (omega (arith, c.min-far.ensures)) (by-counted _ c.args.from (part c.args.text.now c.args.start (16 * far)) c.sixteen-s.ensures) in
    by_rest c.args.text.now c.args.start c.args.n c.args.from _ _ (search rules) s _ c.by_columns-2.ensures
