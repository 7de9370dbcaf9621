-- What each rule does to the open inline blocks and to the blocks on the indent stack: brackets move both, a `;` clears the stack, and no other rule touches either. Assumes nothing.
use mathlib.Core.Path.{◌≡◌, refl, ap, ◌∙◌}
use mathlib.Core.Bool.{Bool, true, false, not, ◌&&◌}
use Rattle.std.specs.Prelude.{Option, None, Some, if◌then◌else◌}
use mathlib.Core.List.{List, [], ◌∷◌, tail}
use Prim.Native.Nat.{ℕ, suc, ◌-◌, ◌≤◌}
use native.Mathlib.Omega.{arith}
use lib.ListN.{length}
use Rattle.rules.specs.declared.TokenKind.{TokenKind}
use Rattle.rules.specs.declared.TokenKind.TheVariants as kind
use Rattle.rules.specs.declared.Part.{Part}
use Rattle.rules.specs.declared.Part.TheVariants as part
use Rattle.rules.specs.declared.IndentType.{IndentType}
use Rattle.rules.specs.declared.IndentType.TheVariants.{Top, Block, FoldedBlock}
use Rattle.rules.specs.declared.SpanInfo.{SpanInfo}
use Rattle.rules.specs.declared.BlockInfo.{BlockInfo}
use Rattle.rules.specs.Bytes.{bytes}
use Rattle.rules.specs.Base.{same, choose, when, full}
use Rattle.rules.specs.Tokens.{Token, Here}
use Rattle.rules.specs.Sheet.{Env}
use Rattle.rules.specs.Text.{Text, fits, refused, refuse}
use Rattle.rules.specs.InlineBlock.{part_of, level_after, closes_at, is_active, begins_inline, begin_if_possible}
use Rattle.rules.specs.Indentation.{Indentation, PreviousTokens, increase_block_level, pop_top, decrease_top_level, pop_block, decrease_block_level, set_previous_reserved, set_previous_top_level}
use Rattle.rules.specs.Indentation as indentation
use Rattle.rules.specs.State.{State, refuse_if, trim_spaces_end, trim_all_spaces_end, push_str, push, one_blank, on_text, on_indentation, on_inline_block, on_block_level, on_index, add_new_line, close_line_comment, add_new_line_inner, increase_top_level}
use Rattle.rules.specs.Formatter.{push_reserved, format_line_comment, format_type_specifier, format_block_comment, new_top_line, format_top_level_reserved_word, format_top_level_reserved_word_no_indent, format_newline_after_reserved_word, indent_inlined, format_newline_reserved_word, format_reserved, format_with_spaces, format_with_space_after, format_without_spaces, format_opening_parentheses, format_closing_parentheses, format_placeholder, format_comma, format_query_separator, format_by_value, format_token}
use Rattle.rules.proofs.Adds.{Grown, opened}
use Rattle.rules.specs.Nested.{blocks_in}

pub never : {A : Type 0} → true ≡ false → A
never e = absurd (let z : ◌≡◌ {A = ℕ} 1 0 = ap (λ (b : Bool). if b then 1 else 0) e in omega arith)

-- ---- what the rules leave alone

-- from s to u the inline blocks stay, and so does what f reads of the stacks
pub record Kept {A : Type 0} (f : Indentation (List ℕ) → A) (s u : State) : Type 0 where
  pub inline : u.inline_block ≡ s.inline_block
  pub stacks : f u.indentation ≡ f s.indentation

module _ {A : Type 0} {f : Indentation (List ℕ) → A} where
  infixl 40 ◌then◌
  ◌then◌ : {s u w : State} → Kept f s u → Kept f u w → Kept f s w
  ◌then◌ p q = record { inline = q.inline ∙ p.inline; stacks = q.stacks ∙ p.stacks }

  chosen : (b : Bool) (g h : State → State) {s : State} → Kept f s (g s) → Kept f s (h s) → Kept f s (choose b g h s)
  unfolding choose
  chosen true g h p q = p
  chosen false g h p q = q

  unchosen : (b : Bool) (g h : State → State) {s : State} → b ≡ false → Kept f s (h s) → Kept f s (choose b g h s)
  unfolding choose
  unchosen true g h k p = never k
  unchosen false g h k p = p

  stays : {s : State} → Kept f s s
  stays = record { inline = refl; stacks = refl }

  maybe : (b : Bool) (g : State → State) {s : State} → Kept f s (g s) → Kept f s (when b g s)
  unfolding when
  maybe true g p = p
  maybe false g p = stays

  indents : (g : Indentation (List ℕ) → Indentation (List ℕ)) {s : State} → f (g s.indentation) ≡ f s.indentation → Kept f s (on_indentation g s)
  unfolding on_indentation
  indents g h = record { inline = refl; stacks = h }

  levels : (g : ℕ → ℕ) {s : State} → Kept f s (on_block_level g s)
  unfolding on_block_level
  levels g = record { inline = refl; stacks = refl }

  moves : (g : ℕ → ℕ) {s : State} → Kept f s (on_index g s)
  unfolding on_index
  moves g = record { inline = refl; stacks = refl }

  -- ---- the text alone

  texts : (g : Text → Text) {s : State} → Kept f s (on_text g s)
  unfolding on_text
  texts g = record { inline = refl; stacks = refl }

  pub pushes : (e : Env) (v : List ℕ) {s : State} → Kept f s (push_str e v s)
  unfolding push_str
  pushes e v = texts _

  blank : (e : Env) {s : State} → Kept f s (push e 32 s)
  unfolding push
  blank e = pushes e _

  trims : {s : State} → Kept f s (trim_spaces_end s)
  unfolding trim_spaces_end
  trims = texts _

  trims_all : {s : State} → Kept f s (trim_all_spaces_end s)
  unfolding trim_all_spaces_end
  trims_all = texts _

  refuses : (b : Bool) (n : ℕ) {s : State} → Kept f s (refuse_if b n s)
  unfolding refuse_if
  refuses b n = texts _

  blanked : (e : Env) {s : State} → Kept f s (one_blank e s)
  unfolding one_blank
  blanked e = trims then blank e

  new_line_inner : (e : Env) (folded : Bool) {s : State} → Kept f s (add_new_line_inner e folded s)
  unfolding add_new_line_inner
  new_line_inner e folded = texts _

  lines : (e : Env) {s : State} → Kept f s (add_new_line e s)
  unfolding add_new_line
  lines e = new_line_inner e false

  closes : (e : Env) {s : State} → Kept f s (close_line_comment e s)
  unfolding close_line_comment
  closes e = texts _

  word : (e : Env) (t : Token) {s : State} → Kept f s (push_reserved e t s)
  unfolding push_reserved
  word e t = pushes e _

  with_spaces : (e : Env) (v : List ℕ) {s : State} → Kept f s (format_with_spaces e v s)
  unfolding format_with_spaces
  with_spaces e v = pushes e v then blank e

  space_after : (e : Env) (v : List ℕ) {s : State} → Kept f s (format_with_space_after e v s)
  unfolding format_with_space_after
  space_after e v = trims then pushes e v then blank e

  without_spaces : (e : Env) (v : List ℕ) {s : State} → Kept f s (format_without_spaces e v s)
  unfolding format_without_spaces
  without_spaces e v = trims then pushes e v

  comma : (e : Env) (v : List ℕ) {s : State} → Kept f s (format_comma e v s)
  unfolding format_comma
  comma e v = space_after e v then maybe _ _ (lines e)

  line_comment : (e : Env) (h : Here) {s : State} → Kept f s (format_line_comment e h s)
  unfolding format_line_comment
  line_comment e h = chosen _ _ _ (lines e) (maybe _ _ (trims_all then pushes e _)) then pushes e _ then closes e

  type_specifier : (e : Env) (h : Here) {s : State} → Kept f s (format_type_specifier e h s)
  unfolding format_type_specifier
  type_specifier e h = trims_all then pushes e _ then maybe _ _ (blank e)

  block_comment : (e : Env) (h : Here) {s : State} → Kept f s (format_block_comment e h s)
  unfolding format_block_comment
  block_comment e h = lines e then pushes e _ then lines e

  placeholder : (e : Env) (t : Token) {s : State} → Kept f s (format_placeholder e t s)
  unfolding format_placeholder
  placeholder e t = refuses _ 5 then pushes e _ then blank e then maybe _ _ (moves suc)

-- ---- the stack

pub blocks-few : (ts : List IndentType) → blocks_in ts ≤ length ts
unfolding blocks_in
blocks-few [] = omega arith
blocks-few (Top ∷ ts) = let h = blocks-few ts in omega arith
blocks-few (Block ∷ ts) = let h = blocks-few ts in omega arith
blocks-few (FoldedBlock ∷ ts) = let h = blocks-few ts in omega arith

top-pops : (ts : List IndentType) (i : Indentation (List ℕ)) → i.indent_types ≡ ts → blocks_in (pop_top ts i).indent_types ≡ blocks_in ts
unfolding pop_top blocks_in
top-pops [] i e = rw e
top-pops (Top ∷ ts) i e = refl
top-pops (Block ∷ ts) i e = rw e
top-pops (FoldedBlock ∷ ts) i e = rw e

-- a close takes one block off, if there is one
block_pops : (ts : List IndentType) (sp : List ℕ) (pr : List (PreviousTokens (List ℕ))) → blocks_in (pop_block ts sp pr).left.indent_types ≡ blocks_in ts - 1
unfolding pop_block blocks_in
block_pops [] sp pr = refl
block_pops (Top ∷ ts) sp pr = block_pops ts (tail sp) (tail pr)
block_pops (Block ∷ ts) sp pr = omega arith
block_pops (FoldedBlock ∷ ts) sp pr = omega arith

top-pushed : (sp : SpanInfo) (i : Indentation (List ℕ)) → blocks_in (indentation.increase_top_level sp i).indent_types ≡ blocks_in i.indent_types
unfolding indentation.increase_top_level blocks_in
top-pushed sp i = go (full i.indent_types)
  where
    go : (b : Bool) → blocks_in (if b then i else record { indent_types = Top ∷ i.indent_types; top_level_span = sp.full_span ∷ i.top_level_span; previous = i.previous }).indent_types ≡ blocks_in i.indent_types
    go true = refl
    go false = refl

-- ---- top-level words move the stack, and no block of it

abbrev pub blocks : Indentation (List ℕ) → ℕ
blocks i = blocks_in i.indent_types

abbrev pub Same : State → State → Type 0
Same s u = Kept blocks s u

lowers : {s : State} → Same s (on_indentation decrease_top_level s)
unfolding decrease_top_level
lowers {s} = indents _ (top-pops s.indentation.indent_types s.indentation refl)

marks_top : (v : List ℕ) (sp : SpanInfo) {s : State} → Same s (on_indentation (set_previous_top_level v sp) s)
unfolding set_previous_top_level
marks_top v sp = indents _ refl

marks : (v : List ℕ) {s : State} → Same s (on_indentation (set_previous_reserved v) s)
unfolding set_previous_reserved
marks v = indents _ refl

increases : (sp : SpanInfo) {s : State} → Same s (increase_top_level sp s)
unfolding increase_top_level
increases sp = refuses _ 6 then indents _ (top-pushed sp _)

top_lines : (e : Env) {s : State} → Same s (new_top_line e s)
unfolding new_top_line
top_lines e = lowers then lines e

indents_inlined : (o : Option SpanInfo) {s : State} → Same s (indent_inlined o s)
unfolding indent_inlined
indents_inlined None = stays
indents_inlined (Some sp) = maybe _ _ (increases sp)

top_level : (e : Env) (h : Here) (sp : SpanInfo) {s : State} → Same s (format_top_level_reserved_word e h sp s)
unfolding format_top_level_reserved_word
top_level e h sp = maybe _ _ (top_lines e) then word e _ then chosen _ _ _ (increases sp then lines e) (blank e) then marks_top _ sp

top_level_no_indent : (e : Env) (h : Here) (sp : SpanInfo) {s : State} → Same s (format_top_level_reserved_word_no_indent e h sp s)
unfolding format_top_level_reserved_word_no_indent
top_level_no_indent e h sp = maybe _ _ (top_lines e) then word e _ then chosen _ _ _ (lines e) (blank e) then marks_top _ sp

newline_after : (e : Env) (h : Here) (sp : SpanInfo) {s : State} → Same s (format_newline_after_reserved_word e h sp s)
unfolding format_newline_after_reserved_word
newline_after e h sp = chosen _ _ _ (top_lines e) (blanked e) then word e _ then increases sp then lines e then marks_top _ sp

newline : (e : Env) (h : Here) {s : State} → Same s (format_newline_reserved_word e h s)
unfolding format_newline_reserved_word
newline e h = chosen _ _ _ (indents_inlined _ then maybe _ _ trims then lines e) (blanked e) then word e _ then blank e then marks _

reserved : (e : Env) (h : Here) {s : State} → Same s (format_reserved e h s)
unfolding format_reserved
reserved e h = word e _ then blank e then marks _

-- a `;` clears the stacks; nothing else that goes by its value moves them
by_value : (e : Env) (v : List ℕ) {s : State} → same v (bytes ";") ≡ false → Same s (format_by_value e v s)
unfolding format_by_value
by_value e v h = chosen _ _ _ (comma e v) (chosen _ _ _ (space_after e v) (chosen _ _ _ (without_spaces e v) (unchosen _ _ _ h (with_spaces e v))))

-- the inline blocks stay in any case
abbrev pub inlined : Indentation (List ℕ) → ℕ
inlined i = 0

separator : (e : Env) (v : List ℕ) {s : State} → Kept inlined s (format_query_separator e v s)
unfolding format_query_separator
separator e v = indents _ refl then trims then pushes e v then pushes e _

any_value : (e : Env) (v : List ℕ) {s : State} → Kept inlined s (format_by_value e v s)
unfolding format_by_value
any_value e v = chosen _ _ _ (comma e v) (chosen _ _ _ (space_after e v) (chosen _ _ _ (without_spaces e v) (chosen _ _ _ (separator e v) (with_spaces e v))))

-- ---- one token: a kind that is no bracket

abbrev pub Plain : TokenKind → Type 0
Plain k = level_after (part_of k) 1 ≡ 1

pub plain-level : (p : Part) → level_after p 1 ≡ 1 → (n : ℕ) → (level_after p n ≡ n) × (closes_at p n ≡ false)
plain-level part.Top h n = (refl, refl)
plain-level part.Newline h n = (refl, refl)
plain-level part.Open h n = absurd (omega arith)
plain-level part.Close h n = absurd (omega arith)
plain-level part.Comment h n = (refl, refl)
plain-level part.Rest h n = (refl, refl)

module _ (e : Env) (h : Here) (s : State) where
  pub plain-same : (k : TokenKind) → Plain k → same h.token.value (bytes ";") ≡ false → Same s (format_token e h k s)
  unfolding format_token
  plain-same kind.Whitespace p f = stays
  plain-same kind.LineComment p f = line_comment e h
  plain-same kind.BlockComment p f = block_comment e h
  plain-same kind.ReservedTopLevel p f = top_level e h _
  plain-same kind.ReservedTopLevelNoIndent p f = top_level_no_indent e h _
  plain-same kind.ReservedNewlineAfter p f = newline_after e h _
  plain-same kind.ReservedNewline p f = newline e h
  plain-same kind.Reserved p f = reserved e h
  plain-same kind.OpenParen p f = absurd (omega arith)
  plain-same kind.CloseParen p f = absurd (omega arith)
  plain-same kind.Placeholder p f = placeholder e _
  plain-same kind.TypeSpecifier p f = type_specifier e h
  plain-same kind.String p f = by_value e _ f
  plain-same kind.Operator p f = by_value e _ f
  plain-same kind.Number p f = by_value e _ f
  plain-same kind.Word p f = by_value e _ f
  plain-same kind.Join p f = by_value e _ f

  pub plain-inline : (k : TokenKind) → Plain k → (format_token e h k s).inline_block ≡ s.inline_block
  unfolding format_token
  plain-inline kind.Whitespace p = refl
  plain-inline kind.LineComment p = (line_comment {f = inlined} e h).inline
  plain-inline kind.BlockComment p = (block_comment {f = inlined} e h).inline
  plain-inline kind.ReservedTopLevel p = (top_level e h _).inline
  plain-inline kind.ReservedTopLevelNoIndent p = (top_level_no_indent e h _).inline
  plain-inline kind.ReservedNewlineAfter p = (newline_after e h _).inline
  plain-inline kind.ReservedNewline p = (newline e h).inline
  plain-inline kind.Reserved p = (reserved e h).inline
  plain-inline kind.OpenParen p = absurd (omega arith)
  plain-inline kind.CloseParen p = absurd (omega arith)
  plain-inline kind.Placeholder p = (placeholder {f = inlined} e _).inline
  plain-inline kind.TypeSpecifier p = (type_specifier {f = inlined} e h).inline
  plain-inline kind.String p = (any_value e _).inline
  plain-inline kind.Operator p = (any_value e _).inline
  plain-inline kind.Number p = (any_value e _).inline
  plain-inline kind.Word p = (any_value e _).inline
  plain-inline kind.Join p = (any_value e _).inline

-- ---- an opening bracket

abbrev pub begins : Env → BlockInfo → State → Bool
begins e info s = begins_inline e.options info s.inline_block && not (full s.indentation.indent_types)

block_pushed : (folded : Bool) (i : Indentation (List ℕ)) → full i.indent_types ≡ false → blocks_in (increase_block_level folded i).indent_types ≡ suc (blocks_in i.indent_types)
unfolding increase_block_level blocks_in
block_pushed folded i f = rw f (go folded)
  where
    go : (b : Bool) → blocks_in ((if b then FoldedBlock else Block) ∷ i.indent_types) ≡ suc (blocks_in i.indent_types)
    go true = refl
    go false = refl

-- the stacks stay, whatever the inline blocks do
record Unstacked (s u : State) : Type 0 where
  same_stacks : u.indentation ≡ s.indentation

infixl 40 ◌and◌ ◌onto◌
◌and◌ : {s u w : State} → Unstacked s u → Kept {A = Indentation (List ℕ)} (λ i. i) u w → Unstacked s w
◌and◌ p q = record { same_stacks = q.stacks ∙ p.same_stacks }

begun : (f : List ℕ → List ℕ) {s u : State} → Kept {A = Indentation (List ℕ)} (λ i. i) s u → Unstacked s (on_inline_block f u)
unfolding on_inline_block
begun f p = record { same_stacks = p.stacks }

-- a block more, where the stack is not full
pub record Pushed (s u : State) : Type 0 where
  pub more : full s.indentation.indent_types ≡ false → blocks_in u.indentation.indent_types ≡ suc (blocks_in s.indentation.indent_types)

opens : (folded : Bool) {s u : State} → Unstacked s u → Pushed s (on_indentation (increase_block_level folded) u)
unfolding on_indentation
opens folded {s} {u} p = record { more = λ f. rw p.same_stacks (block_pushed folded s.indentation f) }

◌onto◌ : {s u w : State} → Pushed s u → Same u w → Pushed s w
◌onto◌ p q = record { more = λ f. q.stacks ∙ p.more f }

module _ (e : Env) (h : Here) (info : BlockInfo) (s : State) where
  pub opening-inline : (format_opening_parentheses e h info s).inline_block ≡ begin_if_possible (begins e info s) info.length s.inline_block
  unfolding format_opening_parentheses on_block_level refuse_if on_text on_inline_block
  opening-inline =
      let k : Kept inlined _ (format_opening_parentheses e h info s) =
      maybe _ _ trims then maybe _ _ (blanked e) then maybe _ _ (trims_all then blank e) then indents _ refl then pushes e _ then chosen _ _ _ (lines e) (maybe _ _ (blank e)) in
      k.inline

  pub opening-blocks : Pushed s (format_opening_parentheses e h info s)
  unfolding format_opening_parentheses
  opening-blocks =
      opens _ (begun _ (levels suc then refuses _ 6) and maybe _ _ trims and maybe _ _ (blanked e) and maybe _ _ (trims_all then blank e))
      onto pushes e _ onto chosen _ _ _ (lines e) (maybe _ _ (blank e))

  -- where 6 is given no text is left
  pub opening-six : (k m : ℕ) (b : List ℕ) → (format_opening_parentheses e h info s).text ≡ fits k m b → full s.indentation.indent_types ≡ false
  unfolding refuse_if on_text on_block_level
  opening-six k m b g = go (full s.indentation.indent_types) s.text _ (rw g at (opened e h info s).goes.grown)
    where
      go : (f : Bool) (t : Text) (v : List ℕ) → Grown (if f then refuse 6 t else t) (fits k m b) v → f ≡ false
      go true (fits i j c) v h = absurd h
      go true (refused n) v h = absurd h
      go false t v h = refl

-- ---- a closing bracket

-- the last step of s, of which the stacks stay
record Ends (s u : State) : Type 0 where
  blocks_stay : blocks u.indentation ≡ blocks s.indentation
  inline_is : u.inline_block ≡ (if is_active s.inline_block then tail s.inline_block else s.inline_block)

ends : (b : Bool) (f g : State → State) (s : State) → b ≡ is_active s.inline_block → Same (on_inline_block tail s) (f s) → Same s (g s) → Ends s (choose b f g s)
unfolding choose on_inline_block
ends true f g s a p q = record { blocks_stay = p.stacks; inline_is = rw (← a) p.inline }
ends false f g s a p q = record { blocks_stay = q.stacks; inline_is = rw (← a) q.inline }

module _ (e : Env) (h : Here) (s : State) where
  closed : Ends (on_indentation (λ i. (decrease_block_level s.indentation).left) (on_block_level (λ n. n - 1) s)) (format_closing_parentheses e h s)
  unfolding format_closing_parentheses on_indentation on_block_level
  closed = ends (is_active s.inline_block) _ _ _ refl (chosen _ _ _ (blanked e then with_spaces e _) (space_after e _)) (refuses _ 8 then new_line_inner e _ then with_spaces e _)

  pub closing-blocks : blocks_in (format_closing_parentheses e h s).indentation.indent_types ≡ blocks_in s.indentation.indent_types - 1
  unfolding on_indentation decrease_block_level
  closing-blocks = closed.blocks_stay ∙ block_pops s.indentation.indent_types s.indentation.top_level_span s.indentation.previous

  pub closing-inline : (format_closing_parentheses e h s).inline_block ≡ (if is_active s.inline_block then tail s.inline_block else s.inline_block)
  unfolding on_indentation on_block_level
  closing-inline = closed.inline_is
