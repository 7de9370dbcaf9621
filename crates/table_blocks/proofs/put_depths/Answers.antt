use native.Mathlib.Omega.{arith}
use mathlib.Core.Path.{◌∙◌}
use Rattle.table_blocks.proofs.Fills.{depths_begin, level-small, depths_on, depths_end, short-of}
use Rattle.std.proofs.Common.{rules}
use Rattle.table_blocks.proofs.put_depths.Goals as goal

pub loop-j-init : goal.loop-j-init
loop-j-init c =
    search (rules, depths_begin)

pub put_onward-requires-clause-few : goal.put_onward-requires-clause-few
put_onward-requires-clause-few c =
    let few = c.requires.readable.placed.few in
    (few, level-small _ _ _ _ _ c.loop-j.invariant (short-of _ _ _ c.requires.readable), few)

pub level_after-level-requires : goal.level_after-level-requires
level_after-level-requires c =
    let h = level-small _ _ _ _ _ c.loop-j.invariant (short-of _ _ _ c.requires.readable) in omega arith

pub loop-j-preserved : goal.loop-j-preserved
loop-j-preserved c =
    depths_on _ _ _ _ _ c.loop-j.invariant (short-of _ _ _ c.requires.readable) _ _ c.loop-j-test.true c.put_onward.ensures (c.level_after-level.ensures ∙ rw (c.part_of.ensures, c.kind_at.ensures))

pub returns : goal.returns
returns c =
    depths_end _ _ _ _ _ c.loop-j.invariant (short-of _ _ _ c.requires.readable) c.loop-j-test.false
