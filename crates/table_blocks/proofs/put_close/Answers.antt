use native.Mathlib.Omega.{arith}
use Prim.Native.Nat.{◌-◌}
use Rattle.rules.specs.Sheet.{token_of}
use Rattle.table_blocks.proofs.Fills.{newlines_small, forbidden-small, close_row}
use Rattle.table_blocks.proofs.Levels.{depth-at, depth-in, depth-room}
use Rattle.table_blocks.proofs.Tables.{close-few, rows-close, rows-stray}
use Rattle.table_blocks.proofs.put_close.Goals as goal

pub put_counted-requires-clause-few : goal.put_counted-requires-clause-few
put_counted-requires-clause-few c =
    (newlines_small _ _ _ c.args.s c.requires.rows.written.short c.requires.k_lt_n.1, forbidden-small _ _ _ c.args.s c.requires.rows.written.short c.requires.k_lt_n.1)

pub onward_at-onward-requires : goal.onward_at-onward-requires
onward_at-onward-requires c =
    let r = depth-room _ _ _ c.args.k _ c.requires.rows c.requires.k_lt_n.0 _ c.onward_at-depth.ensures in omega arith

pub put_onward-requires : goal.put_onward-requires
put_onward-requires c =
    let f = token_of c.args.sheet.now c.args.base in
    let few = c.requires.rows.written.short.few in
    let r = depth-room _ _ _ c.args.k _ c.requires.rows c.requires.k_lt_n.0 _ c.onward_at-depth.ensures in
    let i = depth-in _ _ _ c.args.k _ c.requires.rows c.requires.k_lt_n.0 _ c.onward_at-depth.ensures in
    let y = forbidden-small _ _ _ c.args.s c.requires.rows.written.short c.requires.k_lt_n.1 in
    let o = close-few f c.args.n c.args.k _ c.requires.rows _ _ c.requires.k_lt_n.0 c.requires.k_value c.put_counted.ensures y (close_row _ _ _ c.args.s c.requires.rows.written.short c.requires.k_lt_n.1 c.args.length c.requires.k_lt_n.2) (c.onward_at-depth.result.depth - 1) _ (omega arith) c.onward_at-onward.ensures in
    record { d_in_bounds = omega arith; few = (o.0, o.1, omega arith) }

pub returns-then-depth-gt0 : goal.returns-then-depth-gt0
returns-then-depth-gt0 c =
    let f = token_of c.args.sheet.now c.args.base in
    let i = depth-in _ _ _ c.args.k _ c.requires.rows c.requires.k_lt_n.0 _ c.onward_at-depth.ensures in
    let d = depth-at _ _ _ c.args.k _ c.requires.rows c.requires.k_lt_n.0 _ c.onward_at-depth.ensures in
    let y = forbidden-small _ _ _ c.args.s c.requires.rows.written.short c.requires.k_lt_n.1 in
    rows-close f c.args.n c.args.k _ c.requires.rows _ _ c.requires.k_lt_n.0 c.requires.k_value c.put_counted.ensures y (close_row _ _ _ c.args.s c.requires.rows.written.short c.requires.k_lt_n.1 c.args.length c.requires.k_lt_n.2) _ (c.onward_at-depth.result.depth - 1) _ (omega arith) (omega arith) c.onward_at-onward.ensures c.put_onward.ensures

pub returns-else-depth-gt0 : goal.returns-else-depth-gt0
returns-else-depth-gt0 c =
    let f = token_of c.args.sheet.now c.args.base in
    let d = depth-at _ _ _ c.args.k _ c.requires.rows c.requires.k_lt_n.0 _ c.onward_at-depth.ensures in
    let y = forbidden-small _ _ _ c.args.s c.requires.rows.written.short c.requires.k_lt_n.1 in
    rows-stray f c.args.n c.args.k _ c.requires.rows _ _ c.requires.k_lt_n.0 c.requires.k_value c.put_counted.ensures y (close_row _ _ _ c.args.s c.requires.rows.written.short c.requires.k_lt_n.1 c.args.length c.requires.k_lt_n.2) (omega arith)
