-- The stacks' operations keep the bound on the previous words. Assumes nothing.
use mathlib.Core.Bool.{Bool, true, false}
use Rattle.std.specs.Prelude.{Option, None, Some, if◌then◌else◌}
use mathlib.Core.List.{List, [], ◌∷◌, tail}
use Prim.Native.Nat.{ℕ, ◌≤◌, ◌<◌}
use native.Mathlib.Omega.{arith}
use Rattle.rules.specs.declared.IndentType.{IndentType}
use Rattle.rules.specs.declared.IndentType.TheVariants.{Top, Block, FoldedBlock}
use Rattle.rules.specs.declared.SpanInfo.{SpanInfo}
use Rattle.rules.specs.Base.{full}
use Rattle.rules.specs.Indentation.{Indentation, PreviousTokens, no_indentation, no_previous, increase_top_level, increase_block_level, pop_top, decrease_top_level, pop_block, decrease_block_level, mark_reserved, mark_top_level, set_previous_reserved, set_previous_top_level, last_reserved, previous_reserved}
use Rattle.state.specs.Below.{WordBelow, AllBelow, Below}

word-up : {k m : ℕ} → k ≤ m → (w : Option ℕ) → WordBelow k w → WordBelow m w
word-up h None b = tt
word-up h (Some n) b = omega arith

all_up : {k m : ℕ} → k ≤ m → (ps : List (PreviousTokens ℕ)) → AllBelow k ps → AllBelow m ps
all_up h [] b = tt
all_up h (p ∷ ps) b = (word-up h p.reserved b.0, all_up h ps b.1)

all_tail : (k : ℕ) (ps : List (PreviousTokens ℕ)) → AllBelow k ps → AllBelow k (tail ps)
all_tail k [] b = tt
all_tail k (p ∷ ps) b = b.1

pub below_up : {k m : ℕ} {i : Indentation ℕ} → k ≤ m → Below k i → Below m i
below_up {k} {m} {i} h b = record { words = all_up h i.previous b.words }

pub none_below : (k : ℕ) → Below k no_indentation
unfolding no_indentation
none_below k = record { words = tt }

module _ (k : ℕ) (i : Indentation ℕ) (b : Below k i) where
  pub top_below : (sp : SpanInfo) → Below k (increase_top_level sp i)
  unfolding increase_top_level
  top_below sp = go (full i.indent_types)
    where
      go : (f : Bool) → Below k (if f then i else record { indent_types = Top ∷ i.indent_types; top_level_span = sp.full_span ∷ i.top_level_span; previous = i.previous })
      go true = b
      go false = record { words = b.words }

  pub block_below : (folded : Bool) → Below k (increase_block_level folded i)
  unfolding increase_block_level no_previous
  block_below folded = go (full i.indent_types)
    where
      go : (f : Bool) → Below k (if f then i else record { indent_types = (if folded then FoldedBlock else Block) ∷ i.indent_types; top_level_span = i.top_level_span; previous = no_previous ∷ i.previous })
      go true = b
      go false = record { words = (tt, b.words) }

  pub untop_below : Below k (decrease_top_level i)
  unfolding decrease_top_level pop_top
  untop_below = go i.indent_types
    where
      go : (ts : List IndentType) → Below k (pop_top ts i)
      go [] = b
      go (Top ∷ ts) = record { words = all_tail k i.previous b.words }
      go (Block ∷ ts) = b
      go (FoldedBlock ∷ ts) = b

  pub reserved-below : (n : ℕ) → n < k → Below k (set_previous_reserved n i)
  unfolding set_previous_reserved mark_reserved
  reserved-below n h = record { words = go i.previous b.words }
    where
      go : (ps : List (PreviousTokens ℕ)) → AllBelow k ps → AllBelow k (mark_reserved n ps)
      go [] c = (h, tt)
      go (p ∷ ps) c = (h, c.1)

  pub top-level-below : (n : ℕ) (sp : SpanInfo) → n < k → Below k (set_previous_top_level n sp i)
  unfolding set_previous_top_level mark_top_level
  top-level-below n sp h = record { words = go i.previous b.words }
    where
      go : (ps : List (PreviousTokens ℕ)) → AllBelow k ps → AllBelow k (mark_top_level n sp ps)
      go [] c = (h, tt)
      go (p ∷ ps) c = c

  pub last-below : WordBelow k (previous_reserved i)
  unfolding previous_reserved last_reserved
  last-below = go i.previous b.words
    where
      go : (ps : List (PreviousTokens ℕ)) → AllBelow k ps → WordBelow k (last_reserved ps)
      go [] c = tt
      go (p ∷ ps) c = c.0

popped : (k : ℕ) (ts : List IndentType) (sp : List ℕ) (pr : List (PreviousTokens ℕ)) → AllBelow k pr → Below k (pop_block ts sp pr).left
unfolding pop_block
popped k [] sp pr b = record { words = b }
popped k (Top ∷ ts) sp pr b = popped k ts (tail sp) (tail pr) (all_tail k pr b)
popped k (Block ∷ ts) sp pr b = record { words = all_tail k pr b }
popped k (FoldedBlock ∷ ts) sp pr b = record { words = all_tail k pr b }

pub closed-below : (k : ℕ) (i : Indentation ℕ) → Below k i → Below k (decrease_block_level i).left
unfolding decrease_block_level
closed-below k i b = popped k i.indent_types i.top_level_span i.previous b.words

pub below_all : {k m : ℕ} {i : Indentation ℕ} → k < m → Below k i → Below m i
below_all h b = below_up (omega arith) b
