use Rattle.indentation.proofs.Laws.{top_if}
use mathlib.Core.Path.{◌≡◌, ◌∙◌}
use mathlib.Core.Bool.{◌&&◌}
use lib.Dec.{ltb}
use Rattle.indentation.proofs.Indentation.increase_top_level_if.Goals.{then-b, else-b}
use Rattle.indentation.proofs.Indentation.increase_top_level_if.Goals as goal

pub returns : goal.returns
returns c =
    let e : c.if-b.grows ≡ (c.args.b && ltb c.args.self.nkinds 128) =
    elim c.if-b.branch [ then-b w ↦ rw w.if-b.true w.grows-is | else-b w ↦ w.grows-is ∙ (rw w.if-b.false) ] in
    top_if _ c.requires _ _ _ _ _ _ e c.min-at.ensures c.chosen.ensures c.from-more.ensures
