use mathlib.Core.Path.{◌≡◌}
use Prim.Native.Nat.{◌+◌, ◌-◌}
use native.Mathlib.Omega.{arith}
use Rattle.longest.proofs.LongestLaws.{by-found}
use Rattle.std.proofs.Common.{rules}
use Rattle.longest.proofs.past_last.Goals as goal

pub returns : goal.returns
returns c =
    let z : c.args.start + c.args.n - c.args.start ≡ c.args.n = omega arith in
    by-found c.args.text.now c.args.start c.args.n c.requires c.memrchr.result c.map_or.result (rw z at c.memrchr.ensures) (search rules)
