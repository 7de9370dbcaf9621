-- indentation.rs: the stacks of indent kinds, spans and previous words, as lists with the top first.
-- W is what stands for a word: its value in these rules, its place in the code.
use Rattle.std.specs.Prelude.{if◌then◌else◌, Bool, true, false, ◌&&◌, ℕ, suc, ◌-◌, eqb, leb, get_or, Option, None, Some}
use mathlib.Core.List.{List, [], ◌∷◌, tail}
use Rattle.rules.specs.declared.IndentType.{IndentType}
use Rattle.rules.specs.declared.IndentType.TheVariants.{Top, Block, FoldedBlock}
use Rattle.rules.specs.declared.SpanInfo.{SpanInfo}
use Rattle.rules.specs.Base.{full}

-- what is asked of the last top-level word's span, and the last reserved word
pub record PreviousTokens (W : Type 0) : Type 0 where
  pub top_level_reserved : Option SpanInfo
  pub reserved : Option W

pub record Indentation (W : Type 0) : Type 0 where
  pub indent_types : List IndentType
  pub top_level_span : List ℕ
  pub previous : List (PreviousTokens W)

unfoldable pub no_indentation : {W : Type 0} → Indentation W
no_indentation = record { indent_types = []; top_level_span = []; previous = [] }

unfoldable pub no_previous : {W : Type 0} → PreviousTokens W
no_previous = record { top_level_reserved = None; reserved = None }

-- the entries that aren't folded
unfoldable pub unfolded : List IndentType → ℕ
unfolded [] = 0
unfolded (Top ∷ ts) = suc (unfolded ts)
unfolded (Block ∷ ts) = suc (unfolded ts)
unfolded (FoldedBlock ∷ ts) = unfolded ts

-- the level of `get_indent`: one less after a folded block
unfoldable pub indent_level : {W : Type 0} → Bool → Indentation W → ℕ
indent_level folded i = unfolded i.indent_types - (if folded then 1 else 0)

-- a full stack stays: refusal 6 is given before
unfoldable pub increase_top_level : {W : Type 0} → SpanInfo → Indentation W → Indentation W
increase_top_level sp i =
    if full i.indent_types then i
    else record { indent_types = Top ∷ i.indent_types; top_level_span = sp.full_span ∷ i.top_level_span; previous = i.previous }

unfoldable pub increase_block_level : {W : Type 0} → Bool → Indentation W → Indentation W
increase_block_level folded i =
    if full i.indent_types then i
    else record { indent_types = (if folded then FoldedBlock else Block) ∷ i.indent_types; top_level_span = i.top_level_span; previous = no_previous ∷ i.previous }

-- a top-level entry goes with its span and a previous word, though it pushed no previous word
unfoldable pub pop_top : {W : Type 0} → List IndentType → Indentation W → Indentation W
pop_top [] i = i
pop_top (Top ∷ ts) i = record { indent_types = ts; top_level_span = tail i.top_level_span; previous = tail i.previous }
pop_top (Block ∷ ts) i = i
pop_top (FoldedBlock ∷ ts) i = i

unfoldable pub decrease_top_level : {W : Type 0} → Indentation W → Indentation W
decrease_top_level i = pop_top i.indent_types i

-- whether the block was folded, and what is left
pub record Closed (W : Type 0) : Type 0 where
  pub folded : Bool
  pub left : Indentation W

-- top-level entries go, and the first entry that is none
unfoldable pub pop_block : {W : Type 0} → List IndentType → List ℕ → List (PreviousTokens W) → Closed W
pop_block [] sp pr = record { folded = false; left = record { indent_types = []; top_level_span = sp; previous = pr } }
pop_block (Top ∷ ts) sp pr = pop_block ts (tail sp) (tail pr)
pop_block (Block ∷ ts) sp pr = record { folded = false; left = record { indent_types = ts; top_level_span = sp; previous = tail pr } }
pop_block (FoldedBlock ∷ ts) sp pr = record { folded = true; left = record { indent_types = ts; top_level_span = sp; previous = tail pr } }

unfoldable pub decrease_block_level : {W : Type 0} → Indentation W → Closed W
decrease_block_level i = pop_block i.indent_types i.top_level_span i.previous

-- ---- previous words

-- one argument, and two blocks at most
unfoldable pub is_single : SpanInfo → Bool
is_single sp = leb sp.blocks 2 && eqb sp.arguments 1

-- what later tokens ask of a span: its length, whether a new line follows, whether it is single (specs/Asked.antt)
unfoldable pub asked : SpanInfo → SpanInfo
asked sp = record { full_span = sp.full_span; blocks = 0; newline_before = false; newline_after = sp.newline_after; arguments = (if is_single sp then 1 else 0) }

unfoldable pub mark_reserved : {W : Type 0} → W → List (PreviousTokens W) → List (PreviousTokens W)
mark_reserved v [] = record { top_level_reserved = None; reserved = Some v } ∷ []
mark_reserved v (p ∷ ps) = record { top_level_reserved = p.top_level_reserved; reserved = Some v } ∷ ps

unfoldable pub mark_top_level : {W : Type 0} → W → SpanInfo → List (PreviousTokens W) → List (PreviousTokens W)
mark_top_level v sp [] = record { top_level_reserved = Some (asked sp); reserved = Some v } ∷ []
mark_top_level v sp (p ∷ ps) = record { top_level_reserved = Some (asked sp); reserved = p.reserved } ∷ ps

unfoldable pub set_previous_reserved : {W : Type 0} → W → Indentation W → Indentation W
set_previous_reserved v i = record { indent_types = i.indent_types; top_level_span = i.top_level_span; previous = mark_reserved v i.previous }

unfoldable pub set_previous_top_level : {W : Type 0} → W → SpanInfo → Indentation W → Indentation W
set_previous_top_level v sp i = record { indent_types = i.indent_types; top_level_span = i.top_level_span; previous = mark_top_level v sp i.previous }

unfoldable pub last_reserved : {W : Type 0} → List (PreviousTokens W) → Option W
last_reserved [] = None
last_reserved (p ∷ ps) = p.reserved

unfoldable pub last_top_level : {W : Type 0} → List (PreviousTokens W) → Option SpanInfo
last_top_level [] = None
last_top_level (p ∷ ps) = p.top_level_reserved

unfoldable pub previous_reserved : {W : Type 0} → Indentation W → Option W
previous_reserved i = last_reserved i.previous

unfoldable pub previous_top_level_reserved : {W : Type 0} → Indentation W → Option SpanInfo
previous_top_level_reserved i = last_top_level i.previous

-- the full span between two top-level words
unfoldable pub span : {W : Type 0} → Indentation W → ℕ
span i = get_or i.top_level_span 0 0
