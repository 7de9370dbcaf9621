use Rattle.indentation.proofs.Laws.{untop_if}
use mathlib.Core.Path.{◌≡◌, ◌∙◌}
use mathlib.Core.Bool.{◌&&◌}
use Rattle.indentation.specs.Of.{types_of, ends_top}
use Rattle.indentation.proofs.Indentation.decrease_top_level_if.Goals.{then-b, else-b}
use Rattle.indentation.proofs.Indentation.decrease_top_level_if.Goals as goal

pub returns : goal.returns
returns c =
    let e : c.if-b.ends ≡ (c.args.b && ends_top (types_of c.args.self)) =
    elim c.if-b.branch [ then-b w ↦ rw w.if-b.true (w.ends-is ∙ w.ends_top-ends.ensures) | else-b w ↦ w.ends-is ∙ (rw w.if-b.false) ] in
    untop_if _ c.requires _ _ _ _ _ _ _ _ _ _ _ e c.saturating_sub-s.ensures c.chosen.ensures c.saturating_sub-p.ensures c.chosen-2.ensures c.from-fewer.ensures c.saturating_sub.ensures c.saturating_sub-2.ensures c.saturating_sub-3.ensures c.saturating_sub-4.ensures
