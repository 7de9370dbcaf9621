use native.Mathlib.Omega.{arith}
use Prim.Native.Nat.{◌+◌, ◌*◌, ◌/◌}
use Rattle.longest.proofs.FlagLaws.{by-flagged}
use Rattle.std.proofs.Common.{rules}
use Rattle.longest.proofs.short_lines.Goals as goal

pub returns-then-all_flagged : goal.returns-then-all_flagged
returns-then-all_flagged c =
    by-flagged c.args.text.now c.args.start c.args.n c.args.best c.min-far.result ((c.args.best / 16 + 1) * 16) c.reached-h.result _ _ (search rules) (omega arith) (omega arith) (omega arith) c.reached-h.ensures.0 c.flag.ensures c.reached-h.ensures.1 (c.all_flagged.ensures c.if-all_flagged.true)
