use Rattle.std.proofs.Common.{rules}
use Rattle.around.proofs.Lists.{readable_length}
use Rattle.table_spans.proofs.Bounds.{few-read}
use Rattle.table_spans.proofs.Turns.{past-room, through_few, turn_open, turn_saved, turn_unsaved}
use Rattle.table_spans.proofs.turn.Goals as goal

pub through-requires : goal.through-requires
through-requires c =
    past-room _ _ _ _ _ _ c.requires.readable c.requires.i_lt_n.0 c.requires.read_from c.requires.rows _ c.past-after.ensures

pub in_front-requires : goal.in_front-requires
in_front-requires c =
    search (rules, through_few, readable_length)

pub returns-in-Open : goal.returns-in-Open
returns-in-Open c =
    turn_open _ _ _ _ _ _ c.requires.readable c.requires.i_lt_n.0 c.requires.read_from c.requires.rows _ c.past-after.ensures _ c.through.ensures _ _ _ c.sort_at-sort.ensures c.value_len-len.ensures c.in-Open.is c.in_front.ensures

pub put_row-requires-clause-few_rests : goal.put_row-requires-clause-few_rests
put_row-requires-clause-few_rests c =
    search (rules, few-read)

pub in_front-requires-in-Head : goal.in_front-requires-in-Head
in_front-requires-in-Head c =
    search (rules, few-read, readable_length)

pub returns-in-Head : goal.returns-in-Head
returns-in-Head c =
    turn_saved _ _ _ _ _ _ c.requires.readable c.requires.i_lt_n.0 c.requires.read_from c.requires.rows _ _ _ c.sort_at-sort.ensures c.value_len-len.ensures c.in_front-in-Head.ensures _ c.in-Head.is c.requires.i_lt_n.1 c.put_row.ensures

pub in_front-requires-in-White : goal.in_front-requires-in-White
in_front-requires-in-White c =
    search (rules, few-read, readable_length)

pub returns-in-White : goal.returns-in-White
returns-in-White c =
    turn_unsaved _ _ _ _ _ _ c.requires.readable c.requires.i_lt_n.0 c.requires.read_from c.requires.rows _ _ _ c.sort_at-sort.ensures c.value_len-len.ensures c.in_front-in-White.ensures c.in-White.is
