use mathlib.Core.Bool.{not, ◌&&◌}
use mathlib.Core.Path.{◌≡◌, ◌∙◌}
use Rattle.brackets.proofs.OpeningLaws.{by-opening, by-room}
use Rattle.brackets.proofs.format_opening_parentheses.Goals as goal
use Rattle.brackets.proofs.format_opening_parentheses.Goals.{then-inlined, else-inlined}

pub begin_if_possible-requires : goal.begin_if_possible-requires
begin_if_possible-requires c =
    let begins : c.if-inlined.begins ≡ (c.begins_inline-inlined.result && not c.opening_at-how.result.six) =
    elim c.if-inlined.branch [ then-inlined w ↦ rw w.if-inlined.true w.begins-is | else-inlined w ↦ w.begins-is ∙ (rw w.if-inlined.false) ] in
    record { clean = c.requires.ready.steady.inlined; level_bound = by-room c.args.sheet.now c.args.x c.args.i c.args.s _ c.requires.ready c.begins_inline-inlined.result _ _ _ _ c.requires.inline_block_in_bounds c.opening_at-how.ensures begins }

pub returns : goal.returns
returns c =
    let begins : c.if-inlined.begins ≡ (c.begins_inline-inlined.result && not c.opening_at-how.result.six) =
    elim c.if-inlined.branch [ then-inlined w ↦ rw w.if-inlined.true w.begins-is | else-inlined w ↦ w.begins-is ∙ (rw w.if-inlined.false) ] in
    by-opening c.args.sheet.now c.args.x c.args.i c.args.s _ c.requires.ready _ _ _ _ _ _ _ _ _ _
    c.begins_inline-inlined.ensures c.is_folded-folded.ensures c.increase_block_level.ensures c.level_into-level.ensures.0
    c.opening_at-how.ensures begins c.push_opening.ensures c.begin_if_possible.ensures
