use Rattle.indentation.proofs.Laws.{block_if}
use mathlib.Core.Path.{◌≡◌, refl, ◌∙◌}
use mathlib.Core.Bool.{◌&&◌}
use borrow.Author.Tests.{lt-ltb, le-ltb}
use lib.Dec.{eqb, ltb}
use Rattle.indentation.specs.declared.TheConstants.{BLOCK}
use Rattle.indentation.proofs.Indentation.increase_block_level.Goals.{then-grows, else-grows}
use Rattle.indentation.proofs.Indentation.increase_block_level.Goals as goal

pub returns : goal.returns
returns c =
    let e : c.if-grows.from ≡ (ltb c.args.self.nkinds 128 && eqb c.block_kind-kind.result BLOCK) =
    elim c.if-grows.branch [ then-grows w ↦ rw (lt-ltb _ _ w.if-grows.true) w.from-is | else-grows w ↦ w.from-is ∙ (rw (le-ltb _ _ w.if-grows.false)) ] in
    block_if _ c.requires _ _ _ _ _ _ _ _ refl c.min-at.ensures c.block_kind-kind.ensures c.chosen.ensures c.from-more.ensures e c.from.ensures
