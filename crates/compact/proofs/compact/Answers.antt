use mathlib.Core.Path.{◌∙◌}
use Rattle.compact.proofs.CoverLaws.{marks-of, kept-all}
use Rattle.compact.proofs.compact.Goals as goal

pub write-requires : goal.write-requires
write-requires c =
    let a = marks-of c.args.sheet.now c.args.c _ _ c.settle-kept.ensures.counted (λ j l. c.settle-kept.ensures.by_index j l ∙ c.mark_places.ensures.by_index j l) in
    record { sheeted = (c.requires, a); counted = c.settle-kept.ensures.counted; kept_value = c.settle-kept.ensures.value ∙ kept-all c.args.sheet.now c.args.c c.requires _ a }
