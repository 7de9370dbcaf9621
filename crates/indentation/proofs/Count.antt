-- Wish 3: both claims of specs/Count.antt hold. Assumes nothing.
use mathlib.Core.Path.{◌≡◌, refl, sym, ap, ◌∙◌}
use mathlib.Core.Bool.{Bool, true, false, ◌&&◌, not}
use mathlib.Core.List.{List, [], ◌∷◌, tail}
use Prim.Native.Nat.{ℕ, suc, ◌+◌, ◌-◌}
use native.Mathlib.Omega.{arith}
use native.Mathlib.Numerals.{add-one}
use Rattle.rules.specs.declared.IndentType.{IndentType}
use Rattle.rules.specs.declared.IndentType.TheVariants.{Top, Block, FoldedBlock}
use Rattle.rules.specs.Base.{when, full}
use Rattle.std.specs.Prelude.{if◌then◌else◌}
use Rattle.rules.specs.Indentation.{Indentation, PreviousTokens, no_indentation, increase_top_level, increase_block_level, decrease_top_level, pop_top, decrease_block_level, pop_block, set_previous_reserved, set_previous_top_level, unfolded}
use Rattle.indentation.specs.declared.Indentation.{Indentation as Code}
use Rattle.indentation.specs.Of.{indentation_of, ends_top, Stands}
use Rattle.indentation.specs.Count.{Operation, reset, push_top, push_block, drop_top, close_block, note_reserved, note_top_level, after, run, closing, moved, kept, Call, operations, Promised, reached, KeptRight, LevelRight}

-- ---- one operation

module _ {W : Type 0} where
  push-top : (b f : Bool) (i j : Indentation W) → j.indent_types ≡ Top ∷ i.indent_types
      → (if b && not f then unfolded i.indent_types + 1 else unfolded i.indent_types) ≡ unfolded (if b then if f then i else j else i).indent_types
  unfolding unfolded
  push-top true true i j e = refl
  push-top true false i j e = rw (e, add-one)
  push-top false f i j e = refl

  push-block : (folded f : Bool) (i j : Indentation W) → j.indent_types ≡ (if folded then FoldedBlock else Block) ∷ i.indent_types
      → (if not folded && not f then unfolded i.indent_types + 1 else unfolded i.indent_types) ≡ unfolded (if f then i else j).indent_types
  unfolding unfolded
  push-block true true i j e = refl
  push-block true false i j e = rw e
  push-block false true i j e = refl
  push-block false false i j e = rw (e, add-one)

  drop-top : (b : Bool) (ts : List IndentType) (i : Indentation W) → ts ≡ i.indent_types
      → (if b && ends_top ts then unfolded ts - 1 else unfolded ts) ≡ unfolded (if b then pop_top ts i else i).indent_types
  unfolding unfolded ends_top pop_top
  drop-top true [] i e = ap unfolded e
  drop-top true (Top ∷ ts) i e = omega arith
  drop-top true (Block ∷ ts) i e = ap unfolded e
  drop-top true (FoldedBlock ∷ ts) i e = ap unfolded e
  drop-top false ts i e = ap unfolded e

  close_block_lem : (ts : List IndentType) (sp : List ℕ) (pr : List (PreviousTokens W)) → closing ts (unfolded ts) ≡ unfolded (pop_block ts sp pr).left.indent_types
  unfolding unfolded closing pop_block
  close_block_lem [] sp pr = refl
  close_block_lem (Top ∷ ts) sp pr =
      let e : suc (unfolded ts) - 1 ≡ unfolded ts = omega arith in
      ap (closing ts) e ∙ close_block_lem ts (tail sp) (tail pr)
  close_block_lem (Block ∷ ts) sp pr = omega arith
  close_block_lem (FoldedBlock ∷ ts) sp pr = refl

  moved-right : (o : Operation W) (i : Indentation W) → moved o i.indent_types (unfolded i.indent_types) ≡ unfolded (after o i).indent_types
  unfolding moved after no_indentation unfolded when increase_top_level increase_block_level decrease_top_level decrease_block_level set_previous_reserved set_previous_top_level
  moved-right reset i = refl
  moved-right (push_top b sp) i = push-top b (full i.indent_types) i _ refl
  moved-right (push_block folded) i = push-block folded (full i.indent_types) i _ refl
  moved-right (drop_top b) i = drop-top b i.indent_types i refl
  moved-right close_block i = close_block_lem i.indent_types i.top_level_span i.previous
  moved-right (note_reserved v) i = refl
  moved-right (note_top_level v sp) i = refl

  -- ---- any operations

  kept_from : (os : List (Operation W)) (i : Indentation W) → kept os i (unfolded i.indent_types) ≡ unfolded (run os i).indent_types
  unfolding kept run
  kept_from [] i = refl
  kept_from (o ∷ os) i = ap (kept os (after o i)) (moved-right o i) ∙ kept_from os (after o i)

pub kept-right : KeptRight
unfolding no_indentation unfolded
kept-right W os = kept_from os no_indentation

reached-stands : (w : Indentation ℕ) (i : Code) (cs : List Call) → Stands w i → Promised i cs → Stands (run (operations cs) w) (reached i cs)
unfolding run
reached-stands w i [] s p = s
reached-stands w i (c ∷ cs) s p = reached-stands (after c.operation w) c.result cs (rw s.is at (p.0 s.clean)) p.1

pub level-right : LevelRight
unfolding indentation_of
level-right i cs s p =
    let r = reached-stands no_indentation i cs s p in
    let own = r.clean.counted in
    let rules = own ∙ ap (λ (d : Indentation ℕ). unfolded d.indent_types) r.is in
    record { stands = r; own = own; rules = rules; kept_so = rules ∙ sym (kept-right ℕ (operations cs)) }
