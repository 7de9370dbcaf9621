use Rattle.reserved.proofs.Laws.{by-reserved}
use Rattle.reserved.proofs.format_reserved.Goals as goal

pub returns : goal.returns
returns c =
    by-reserved c.args.sheet.now c.args.x c.args.i c.args.s _ c.requires _ c.value_of-v.ensures _
    c.case_of-k.ensures _ _ _ _ c.set_previous_reserved.ensures c.format_reserved-u.ensures c.with_indentation.ensures
