-- Every rule on the stacks keeps to another name for each word. Assumes nothing.
use mathlib.Core.Path.{◌≡◌, refl}
use mathlib.Core.Bool.{Bool, true, false}
use mathlib.Core.List.{List, [], ◌∷◌, map, tail}
use Prim.Native.Nat.{ℕ}
use Rattle.rules.specs.declared.IndentType.{IndentType}
use Rattle.rules.specs.declared.IndentType.TheVariants.{Top, Block, FoldedBlock}
use Rattle.rules.specs.declared.SpanInfo.{SpanInfo}
use Rattle.rules.specs.Base.{full}
use Rattle.std.specs.Prelude.{if◌then◌else◌}
use Rattle.stacks.proofs.StackLaws.{tail_map}
use Rattle.rules.specs.Indentation.{Indentation, indent_level, PreviousTokens, no_indentation, no_previous, increase_top_level, increase_block_level, pop_top, decrease_top_level, pop_block, decrease_block_level, mark_reserved, mark_top_level, set_previous_reserved, set_previous_top_level, last_reserved, last_top_level, previous_reserved, previous_top_level_reserved}
use Rattle.state.specs.Words.{on_option, on_previous, on_words, on_closed}

module _ {A B : Type 0} (f : A → B) where
  pub none-words : on_words f no_indentation ≡ no_indentation
  unfolding on_words no_indentation
  none-words = refl

  pub top-words : (sp : SpanInfo) (i : Indentation A) → on_words f (increase_top_level sp i) ≡ increase_top_level sp (on_words f i)
  unfolding on_words increase_top_level
  top-words sp i = go (full i.indent_types)
    where
      go : (b : Bool)
          → on_words f (if b then i else record { indent_types = Top ∷ i.indent_types; top_level_span = sp.full_span ∷ i.top_level_span; previous = i.previous })
          ≡ (if b then on_words f i else record { indent_types = Top ∷ i.indent_types; top_level_span = sp.full_span ∷ i.top_level_span; previous = map (on_previous f) i.previous })
      go true = refl
      go false = refl

  pub block_words : (folded : Bool) (i : Indentation A) → on_words f (increase_block_level folded i) ≡ increase_block_level folded (on_words f i)
  unfolding on_words increase_block_level no_previous
  block_words folded i = go (full i.indent_types)
    where
      go : (b : Bool)
          → on_words f (if b then i else record { indent_types = (if folded then FoldedBlock else Block) ∷ i.indent_types; top_level_span = i.top_level_span; previous = no_previous ∷ i.previous })
          ≡ (if b then on_words f i else record { indent_types = (if folded then FoldedBlock else Block) ∷ i.indent_types; top_level_span = i.top_level_span; previous = no_previous ∷ map (on_previous f) i.previous })
      go true = refl
      go false = refl

  pub untop_words : (i : Indentation A) → on_words f (decrease_top_level i) ≡ decrease_top_level (on_words f i)
  unfolding on_words decrease_top_level pop_top
  untop_words i = go i.indent_types
    where
      go : (ts : List IndentType) → on_words f (pop_top ts i) ≡ pop_top ts (on_words f i)
      go [] = refl
      go (Top ∷ ts) = rw tail_map
      go (Block ∷ ts) = refl
      go (FoldedBlock ∷ ts) = refl

  pop_words : (ts : List IndentType) (sp : List ℕ) (pr : List (PreviousTokens A)) → on_closed f (pop_block ts sp pr) ≡ pop_block ts sp (map (on_previous f) pr)
  unfolding on_words pop_block
  pop_words [] sp pr = refl
  pop_words (Top ∷ ts) sp pr = rw (← tail_map) (pop_words ts (tail sp) (tail pr))
  pop_words (Block ∷ ts) sp pr = rw tail_map
  pop_words (FoldedBlock ∷ ts) sp pr = rw tail_map

  pub closed-words : (i : Indentation A) → on_closed f (decrease_block_level i) ≡ decrease_block_level (on_words f i)
  unfolding on_words decrease_block_level
  closed-words i = pop_words i.indent_types i.top_level_span i.previous

  pub reserved-words : (v : A) (i : Indentation A) → on_words f (set_previous_reserved v i) ≡ set_previous_reserved (f v) (on_words f i)
  unfolding on_words set_previous_reserved mark_reserved
  reserved-words v i = go i.previous
    where
      go : (ps : List (PreviousTokens A))
          → ◌≡◌ {A = Indentation B} (record { indent_types = i.indent_types; top_level_span = i.top_level_span; previous = map (on_previous f) (mark_reserved v ps) })
          (record { indent_types = i.indent_types; top_level_span = i.top_level_span; previous = mark_reserved (f v) (map (on_previous f) ps) })
      go [] = refl
      go (p ∷ ps) = refl

  pub top-level-words : (v : A) (sp : SpanInfo) (i : Indentation A) → on_words f (set_previous_top_level v sp i) ≡ set_previous_top_level (f v) sp (on_words f i)
  unfolding on_words set_previous_top_level mark_top_level
  top-level-words v sp i = go i.previous
    where
      go : (ps : List (PreviousTokens A))
          → ◌≡◌ {A = Indentation B} (record { indent_types = i.indent_types; top_level_span = i.top_level_span; previous = map (on_previous f) (mark_top_level v sp ps) })
          (record { indent_types = i.indent_types; top_level_span = i.top_level_span; previous = mark_top_level (f v) sp (map (on_previous f) ps) })
      go [] = refl
      go (p ∷ ps) = refl

  last_word : (ps : List (PreviousTokens A)) → last_reserved (map (on_previous f) ps) ≡ on_option f (last_reserved ps)
  unfolding last_reserved
  last_word [] = refl
  last_word (p ∷ ps) = refl

  last-span : (ps : List (PreviousTokens A)) → last_top_level (map (on_previous f) ps) ≡ last_top_level ps
  unfolding last_top_level
  last-span [] = refl
  last-span (p ∷ ps) = refl

  pub last-reserved : (i : Indentation A) → previous_reserved (on_words f i) ≡ on_option f (previous_reserved i)
  unfolding on_words previous_reserved
  last-reserved i = last_word i.previous

  pub last-top-level : (i : Indentation A) → previous_top_level_reserved (on_words f i) ≡ previous_top_level_reserved i
  unfolding on_words previous_top_level_reserved
  last-top-level i = last-span i.previous

  -- levels do not hang on the words
  pub level-words : (b : Bool) (i : Indentation A) → indent_level b (on_words f i) ≡ indent_level b i
  unfolding on_words indent_level
  level-words b i = refl
