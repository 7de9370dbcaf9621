use native.Mathlib.Omega.{arith}
use Rattle.table_blocks.proofs.Levels.{depth-at, depth-in, depth-room, onward-few, next-at}
use Rattle.table_blocks.proofs.Tables.{rows-top}
use Rattle.table_blocks.proofs.put_top.Goals as goal

pub onward_at-onward-requires : goal.onward_at-onward-requires
onward_at-onward-requires c =
    depth-room _ _ _ c.args.t _ c.requires.rows c.requires.t_lt_n.0 _ c.onward_at-depth.ensures

pub one_step-step-requires-clause-first : goal.one_step-step-requires-clause-first
one_step-step-requires-clause-first c =
    next-at _ _ _ c.args.t _ c.requires.rows c.requires.t_lt_n.0 _ c.onward_at-depth.ensures _ c.onward_at-onward.ensures

pub put_word-requires-clause-few : goal.put_word-requires-clause-few
put_word-requires-clause-few c =
    let few = c.requires.rows.written.short.few in
    let o = onward-few _ _ _ c.args.t _ c.requires.rows c.requires.t_lt_n.0 _ c.onward_at-depth.ensures _ c.onward_at-onward.ensures in
    let s = c.requires.t_lt_n.2.up_to in
    let l = c.one_step-step.ensures.last_value in (o.0, omega arith, omega arith, omega arith)

pub put_onward-requires : goal.put_onward-requires
put_onward-requires c =
    let few = c.requires.rows.written.short.few in
    let r = depth-room _ _ _ c.args.t _ c.requires.rows c.requires.t_lt_n.0 _ c.onward_at-depth.ensures in
    let o = onward-few _ _ _ c.args.t _ c.requires.rows c.requires.t_lt_n.0 _ c.onward_at-depth.ensures _ c.onward_at-onward.ensures in
    record { d_in_bounds = omega arith; few = (omega arith, o.1, o.2) }

pub returns : goal.returns
returns c =
    let few = c.requires.rows.written.short.few in
    let s = c.requires.t_lt_n.2.up_to in
    let l = c.one_step-step.ensures.last_value in
    let o = onward-few _ _ _ c.args.t _ c.requires.rows c.requires.t_lt_n.0 _ c.onward_at-depth.ensures _ c.onward_at-onward.ensures in
    rows-top _ _ c.args.t _ c.requires.rows c.put_word.new.table _ _ c.onward_at-depth.result.depth c.onward_at-onward.result c.requires.t_lt_n.0 c.requires.t_value
    (depth-at _ _ _ c.args.t _ c.requires.rows c.requires.t_lt_n.0 _ c.onward_at-depth.ensures) (depth-in _ _ _ c.args.t _ c.requires.rows c.requires.t_lt_n.0 _ c.onward_at-depth.ensures)
    c.onward_at-onward.ensures c.put_word.ensures c.put_onward.ensures
    (record {
      length_is = c.requires.t_lt_n.1;
      next_is = next-at _ _ _ c.args.t _ c.requires.rows c.requires.t_lt_n.0 _ c.onward_at-depth.ensures _ c.onward_at-onward.ensures;
      after_is = c.requires.t_lt_n.2;
      segment = λ h. c.one_step-step.ensures.segment (omega arith);
    })
    (omega arith, omega arith, o.1)
