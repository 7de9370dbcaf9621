use Rattle.indentation.proofs.Laws.{by_level_into}
use mathlib.Core.Path.{◌≡◌, ap, ◌∙◌}
use mathlib.Core.Bool.{◌&&◌, not}
use Rattle.rules.specs.Base.{full}
use Rattle.indentation.specs.Of.{indentation_of}
use Rattle.indentation.proofs.Indentation.level_into.Goals.{then-not-folded, else-not-folded}
use Rattle.indentation.proofs.Indentation.level_into.Goals as goal

pub returns : goal.returns
returns c =
    let e : c.if-not-folded.from ≡ (not c.args.folded && not (full (indentation_of c.args.self).indent_types)) =
    elim c.if-not-folded.branch [ then-not-folded w ↦ rw w.if-not-folded.true (w.from-is ∙ ap not w.is_full.ensures) | else-not-folded w ↦ w.from-is ∙ (rw w.if-not-folded.false) ] in
    by_level_into _ c.requires _ _ _ e c.from.ensures
