use Rattle.values.proofs.Laws.{by-separator}
use Rattle.values.proofs.format_query_separator.Goals as goal

pub returns : goal.returns
returns c =
    by-separator c.args.sheet.now c.args.x c.args.i c.args.s _ c.requires _ c.value_of-v.ensures _ _ _ _
    c.format_query_separator-u.ensures c.reset_indentation.ensures c.with_indentation.ensures
