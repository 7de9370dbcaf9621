use Rattle.table_blocks.proofs.Fills.{first-self, block_long, open_length, open_facts}
use Rattle.table_blocks.proofs.Levels.{depth-room, leaves-at, close-at}
use Rattle.table_blocks.proofs.Tables.{rows-open}
use Rattle.table_blocks.proofs.Steps.{written_on}
use Rattle.table_blocks.proofs.put_open.Goals as goal

pub onward_at-close-requires : goal.onward_at-close-requires
onward_at-close-requires c =
    depth-room _ _ _ c.args.i _ c.requires.rows c.requires.i_lt_n.0 _ c.onward_at-depth.ensures

pub end_at-end-requires : goal.end_at-end-requires
end_at-end-requires c =
    let q = leaves-at _ _ _ c.args.i _ c.requires.rows c.requires.i_lt_n.0 _ c.onward_at-depth.ensures _ c.onward_at-close.ensures in
    record { written = written_on _ _ q.past c.requires.rows.written; first = first-self q }

pub span_before-span-requires-clause-j_le_e : goal.span_before-span-requires-clause-j_le_e
span_before-span-requires-clause-j_le_e c =
    let q = close-at _ _ _ c.args.i _ c.requires.rows c.requires.i_lt_n.0 _ c.onward_at-depth.ensures _ c.onward_at-close.ensures in
    (q.past, q.up_to, c.requires.i_lt_n.2)

pub overflow_sub-s : goal.overflow_sub-s
overflow_sub-s c =
    let q = close-at _ _ _ c.args.i _ c.requires.rows c.requires.i_lt_n.0 _ c.onward_at-depth.ensures _ c.onward_at-close.ensures in
    block_long _ _ _ _ c.args.s _ c.requires.i_value c.requires.i_lt_n.0 q c.requires.i_lt_n.1 c.end_at-end.ensures

pub returns : goal.returns
returns c =
    let q = close-at _ _ _ c.args.i _ c.requires.rows c.requires.i_lt_n.0 _ c.onward_at-depth.ensures _ c.onward_at-close.ensures in
    rows-open _ _ c.args.i _ c.span_before-span.ensures.rows_2 _ _ _ c.requires.i_lt_n.0 c.requires.i_value c.put_two.ensures
    (open_length _ _ _ _ c.args.s _ c.requires.i_value c.requires.i_lt_n.0 q c.requires.i_lt_n.1 c.end_at-end.ensures)
    (open_facts _ _ _ _ c.args.s _ c.requires.i_value c.requires.i_lt_n.0 q c.requires.i_lt_n.1 c.end_at-end.ensures _ _ c.span_before-span.ensures.value.0 c.facts-facts.ensures)
