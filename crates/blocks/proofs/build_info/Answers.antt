use mathlib.Core.Path.{refl, ap, ◌∙◌}
use borrow.Author.Tests.{ne_eqb}
use Rattle.rules.specs.InlineBlock.{part_of}
use Rattle.blocks.proofs.Laws.{length-room, measuring_closes, measuring_turns}
use Rattle.std.proofs.Common.{rules}
use Rattle.blocks.proofs.build_info.Goals.{then-matches, else-matches, in-Rest, in_default, in-Top, in-Newline, in-Open, in-Close+else-level-eq0, in-Comment, in-Rest-part_of}
use Rattle.blocks.proofs.build_info.Goals as goal

pub overflow_add-length : goal.overflow_add-length
overflow_add-length c =
    let fits = length-room _ _ _ _ _ _ c.loop-j.invariant c.requires.readable c.loop-j-test.true _ c.value_len-length.ensures in
    search (rules, fits)

pub returns-then-level-eq0 : goal.returns-then-level-eq0
returns-then-level-eq0 c =
    measuring_closes _ _ _ _ _ _ c.loop-j.invariant c.requires.readable c.loop-j-test.true _ c.value_len-length.ensures _
    (c.in-Close.ensures ∙ ap part_of c.kind_at-kind.ensures) c.saturating_sub-level.ensures c.if-level-eq0.true

pub loop-j-preserved : goal.loop-j-preserved
loop-j-preserved c =
    let kind = ap part_of c.kind_at-kind.ensures in
    let turns = measuring_turns _ _ _ _ _ _ c.loop-j.invariant c.requires.readable c.loop-j-test.true _ c.value_len-length.ensures in
    elim c.if-matches.branch [
      | then-matches w ↦ rw (w.level-is, w.start-is, w.span-is, w.forbidden-is, w.reserved-is) (elim c.match-matches.branch [
        | in-Rest v ↦ turns _ (v.in-Rest.ensures ∙ kind) _ _ refl w.is_byte-forbidden.ensures refl
        | in_default v ↦ cc
      ])
      | else-matches w ↦ rw (w.level-is, w.start-is, w.span-is, w.forbidden-is, w.reserved-is) (elim w.match-part_of.branch [
        | in-Top v ↦ rw (v.level-is, v.start-is, v.span-is, v.forbidden-is, v.reserved-is, v.start_after-start.ensures, v.span_after-span.ensures) (turns _ (v.in-Top.ensures ∙ kind) _ _ refl w.is_byte-separates.ensures refl)
        | in-Newline v ↦ rw (v.level-is, v.start-is, v.span-is, v.forbidden-is, v.reserved-is) (turns _ (v.in-Newline.ensures ∙ kind) _ _ refl w.is_byte-separates.ensures refl)
        | in-Open v ↦ rw (v.level-is, v.start-is, v.span-is, v.forbidden-is, v.reserved-is) (turns _ (v.in-Open.ensures ∙ kind) _ _ refl w.is_byte-separates.ensures refl)
        | in-Close+else-level-eq0 v ↦ rw (v.level-is, v.start-is, v.span-is, v.forbidden-is, v.reserved-is, v.saturating_sub-level.ensures) (turns _ (v.in-Close.ensures ∙ kind) _ _ refl w.is_byte-separates.ensures (ne_eqb _ 0 (λ e. v.if-level-eq0.false (v.saturating_sub-level.ensures ∙ e))))
        | in-Comment v ↦ rw (v.level-is, v.start-is, v.span-is, v.forbidden-is, v.reserved-is) (turns _ (v.in-Comment.ensures ∙ kind) _ _ refl w.is_byte-separates.ensures refl)
        | in-Rest-part_of v ↦ rw (v.level-is, v.start-is, v.span-is, v.forbidden-is, v.reserved-is) (turns _ (v.in-Rest-part_of.ensures ∙ kind) _ _ refl w.is_byte-separates.ensures refl)
      ])
    ]
