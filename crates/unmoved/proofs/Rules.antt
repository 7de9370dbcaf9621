-- Two states that differ in their texts alone, which are the same items: each rule that adds no value keeps them so. Assumes nothing.
use mathlib.Core.Path.{◌≡◌, refl, sym, subst}
use mathlib.Core.Bool.{Bool, true, false}
use Rattle.std.specs.Prelude.{Option, None, Some}
use mathlib.Core.List.{List, [], ◌∷◌}
use Prim.Native.Nat.{ℕ, suc}
use Rattle.rules.specs.declared.TokenKind.{TokenKind}
use Rattle.rules.specs.declared.TokenKind.TheVariants as kind
use Rattle.rules.specs.declared.Turn.{Turn}
use Rattle.rules.specs.declared.Turn.TheVariants as turn
use Rattle.rules.specs.declared.SpanInfo.{SpanInfo}
use Rattle.rules.specs.declared.BlockInfo.{BlockInfo}
use Rattle.rules.specs.declared.FormatOptions.{FormatOptions}
use Rattle.rules.specs.Base.{◌▹◌, choose, when}
use Rattle.rules.specs.Tokens.{Token, Here, is}
use Rattle.rules.specs.Sheet.{Env, QueryParams}
use Rattle.rules.specs.Text.{Text, is_on}
use Rattle.rules.specs.Indentation.{Indentation}
use Rattle.rules.specs.State.{State, refuse_if, trim_spaces_end, trim_all_spaces_end, push_str, push, one_blank, on_text, on_indentation, on_inline_block, on_block_level, on_index, add_new_line, close_line_comment, add_new_line_inner, get_indent, increase_top_level}
use Rattle.rules.specs.Formatter.{case_for, format_reserved_word, push_reserved, format_line_comment, format_type_specifier, format_block_comment, new_top_line, format_top_level_reserved_word, format_top_level_reserved_word_no_indent, format_newline_after_reserved_word, indent_inlined, format_newline_reserved_word, format_reserved, format_with_spaces, format_with_space_after, format_without_spaces, format_opening_parentheses, format_closing_parentheses, comma_breaks, format_comma, format_query_separator, format_by_value, span_info, format_placeholder, format_token, format_no_change}
use Rattle.rules.specs.Answer.{taken_as}
use Rattle.rules.specs.Rows.{lays_out}
use Rattle.unmoved.proofs.Items.{Spot}
use Rattle.unmoved.proofs.Texts.{Texts, texts-append, texts-refuse, texts-blanks, texts-white, texts-line, texts-closing}

-- the state with another text
abbrev pub put : Text → State → State
put u s = record { text = u; indentation = s.indentation; inline_block = s.inline_block; block_level = s.block_level; index = s.index }

-- lows and spots of the one, and of the other, as `Texts` has them
pub record Twins (ls hs ls' hs' : List Spot) (s t : State) : Type 0 where
  pub other : Text
  pub alike : t ≡ put other s
  pub texts : Texts ls hs ls' hs' s.text other

-- what holds of a state and the same with another text holds of twins
enter : {ls hs ls' hs' ms is ms' is' : List Spot} (f g : State → State) → ((s : State) (u : Text) → Texts ls hs ls' hs' s.text u → Twins ms is ms' is' (f s) (g (put u s)))
    → {s t : State} → Twins ls hs ls' hs' s t → Twins ms is ms' is' (f s) (g t)
enter {ms = ms} {is = is} {ms' = ms'} {is' = is'} f g k {s} {t} p = subst (λ (x : State). Twins ms is ms' is' (f s) (g x)) (sym p.alike) (k s p.other p.texts)

-- ---- steps and choices

module _ {ls hs ls' hs' : List Spot} where
  pub twins : {s : State} {u : Text} → Texts ls hs ls' hs' s.text u → Twins ls hs ls' hs' s (put u s)
  twins {s} {u} p = record { other = u; alike = refl; texts = p }

  chosen : (b : Bool) (f g f' g' : State → State) {s t : State} → (Twins ls hs ls' hs' s t → Twins ls hs ls' hs' (f s) (f' t)) → (Twins ls hs ls' hs' s t → Twins ls hs ls' hs' (g s) (g' t))
      → Twins ls hs ls' hs' s t → Twins ls hs ls' hs' (choose b f g s) (choose b f' g' t)
  unfolding choose
  chosen true f g f' g' x y p = x p
  chosen false f g f' g' x y p = y p

  pub maybe : (b : Bool) (f f' : State → State) {s t : State} → (Twins ls hs ls' hs' s t → Twins ls hs ls' hs' (f s) (f' t)) → Twins ls hs ls' hs' s t → Twins ls hs ls' hs' (when b f s) (when b f' t)
  unfolding when
  maybe true f f' x p = x p
  maybe false f f' x p = p

-- ---- steps that leave the text

module _ {ls hs ls' hs' : List Spot} where
  indents : (f : Indentation (List ℕ) → Indentation (List ℕ)) {s t : State} → Twins ls hs ls' hs' s t → Twins ls hs ls' hs' (on_indentation f s) (on_indentation f t)
  unfolding on_indentation
  indents f = enter (on_indentation f) (on_indentation f) (λ s u p. twins p)

  levels : (f : ℕ → ℕ) {s t : State} → Twins ls hs ls' hs' s t → Twins ls hs ls' hs' (on_block_level f s) (on_block_level f t)
  unfolding on_block_level
  levels f = enter (on_block_level f) (on_block_level f) (λ s u p. twins p)

  inlines : (f : List ℕ → List ℕ) {s t : State} → Twins ls hs ls' hs' s t → Twins ls hs ls' hs' (on_inline_block f s) (on_inline_block f t)
  unfolding on_inline_block
  inlines f = enter (on_inline_block f) (on_inline_block f) (λ s u p. twins p)

  pub counts : {s t : State} → Twins ls hs ls' hs' s t → Twins ls hs ls' hs' (on_index suc s) (on_index suc t)
  unfolding on_index
  counts = enter (on_index suc) (on_index suc) (λ s u p. twins p)

-- ---- steps on the text

pub on_texts : {ls hs ls' hs' ms is ms' is' : List Spot} (f g : Text → Text) → ((t u : Text) → Texts ls hs ls' hs' t u → Texts ms is ms' is' (f t) (g u))
    → {s t : State} → Twins ls hs ls' hs' s t → Twins ms is ms' is' (on_text f s) (on_text g t)
unfolding on_text
on_texts f g k = enter (on_text f) (on_text g) (λ s u p. twins (k s.text u p))

-- two environments that differ in their parameters and their buffers
module _ (op : FormatOptions) (keep : List (List ℕ)) (ps qs : QueryParams) (room room' : ℕ) where
  abbrev pub ones : Env
  ones = record { options = op; params = ps; keep = keep; room = room }

  abbrev pub others : Env
  others = record { options = op; params = qs; keep = keep; room = room' }

  module _ {ls hs ls' hs' : List Spot} {s t : State} where
    pub pushes : (v : List ℕ) → Twins ls hs ls' hs' s t → Twins ls hs ls' hs' (push_str ones v s) (push_str others v t)
    unfolding push_str
    pushes v = on_texts _ _ (λ t u p. texts-append room room' v p)

    pub blank : Twins ls hs ls' hs' s t → Twins ls hs ls' hs' (push ones 32 s) (push others 32 t)
    unfolding push
    blank = pushes (32 ∷ [])

    refuses : (b : Bool) (n : ℕ) → Twins ls hs ls' hs' s t → Twins ls hs ls' hs' (refuse_if b n s) (refuse_if b n t)
    unfolding refuse_if
    refuses b n = on_texts _ _ (λ t u p. texts-refuse n b p)

  -- no value is added
  module _ (hs hs' : List Spot) where
    abbrev pub Twin : State → State → Type 0
    Twin s t = Twins hs hs hs' hs' s t

    trims : {s t : State} → Twin s t → Twin (trim_spaces_end s) (trim_spaces_end t)
    unfolding trim_spaces_end
    trims = on_texts _ _ (λ t u p. texts-blanks p)

    trims_all : {s t : State} → Twin s t → Twin (trim_all_spaces_end s) (trim_all_spaces_end t)
    unfolding trim_all_spaces_end
    trims_all = on_texts _ _ (λ t u p. texts-white p)

    blanked : {s t : State} → Twin s t → Twin (one_blank ones s) (one_blank others t)
    unfolding one_blank
    blanked p = p ▹ trims ▹ blank

    new_line_inner : (folded : Bool) {s t : State} → Twin s t → Twin (add_new_line_inner ones folded s) (add_new_line_inner others folded t)
    unfolding add_new_line_inner get_indent on_text
    new_line_inner folded = enter (add_new_line_inner ones folded) (add_new_line_inner others folded) (λ s u p. twins (texts-line room room' (is_on op.inline) _ p))

    lines : {s t : State} → Twin s t → Twin (add_new_line ones s) (add_new_line others t)
    unfolding add_new_line
    lines = new_line_inner false

    closes : {s t : State} → Twin s t → Twin (close_line_comment ones s) (close_line_comment others t)
    unfolding close_line_comment get_indent on_text
    closes = enter (close_line_comment ones) (close_line_comment others) (λ s u p. twins (texts-closing room room' op.inline _ p))

    increases : (sp : SpanInfo) {s t : State} → Twin s t → Twin (increase_top_level sp s) (increase_top_level sp t)
    unfolding increase_top_level
    increases sp = enter (increase_top_level sp) (increase_top_level sp) (λ s u p. twins {s = s} p ▹ refuses _ 6 ▹ indents _)

    top_lines : {s t : State} → Twin s t → Twin (new_top_line ones s) (new_top_line others t)
    unfolding new_top_line
    top_lines p = p ▹ indents _ ▹ lines

    -- ---- the rules, one by one

    with_spaces : (v : List ℕ) {s t : State} → Twin s t → Twin (format_with_spaces ones v s) (format_with_spaces others v t)
    unfolding format_with_spaces
    with_spaces v p = p ▹ pushes v ▹ blank

    space_after : (v : List ℕ) {s t : State} → Twin s t → Twin (format_with_space_after ones v s) (format_with_space_after others v t)
    unfolding format_with_space_after
    space_after v p = p ▹ trims ▹ pushes v ▹ blank

    without_spaces : (v : List ℕ) {s t : State} → Twin s t → Twin (format_without_spaces ones v s) (format_without_spaces others v t)
    unfolding format_without_spaces
    without_spaces v p = p ▹ trims ▹ pushes v

    comma : (v : List ℕ) {s t : State} → Twin s t → Twin (format_comma ones v s) (format_comma others v t)
    unfolding format_comma comma_breaks
    comma v = enter (format_comma ones v) (format_comma others v) (λ s u p. twins {s = s} p ▹ space_after v ▹ maybe _ _ _ lines)

    separator : (v : List ℕ) {s t : State} → Twin s t → Twin (format_query_separator ones v s) (format_query_separator others v t)
    unfolding format_query_separator
    separator v p = p ▹ indents _ ▹ trims ▹ pushes v ▹ pushes _

    by_value : (v : List ℕ) {s t : State} → Twin s t → Twin (format_by_value ones v s) (format_by_value others v t)
    unfolding format_by_value
    by_value v = chosen _ _ _ _ _ (comma v) (chosen _ _ _ _ _ (space_after v) (chosen _ _ _ _ _ (without_spaces v) (chosen _ _ _ _ _ (separator v) (with_spaces v))))

    word : (t : Token) {a b : State} → Twin a b → Twin (push_reserved ones t a) (push_reserved others t b)
    unfolding push_reserved format_reserved_word case_for
    word t = pushes _

    reserved : (h : Here) {s t : State} → Twin s t → Twin (format_reserved ones h s) (format_reserved others h t)
    unfolding format_reserved
    reserved h p = p ▹ word h.token ▹ blank ▹ indents _

    line_comment : (h : Here) {s t : State} → Twin s t → Twin (format_line_comment ones h s) (format_line_comment others h t)
    unfolding format_line_comment
    line_comment h p = p ▹ chosen _ _ _ _ _ lines (maybe _ _ _ (λ q. q ▹ trims_all ▹ pushes _)) ▹ pushes _ ▹ closes

    type_specifier : (h : Here) {s t : State} → Twin s t → Twin (format_type_specifier ones h s) (format_type_specifier others h t)
    unfolding format_type_specifier
    type_specifier h p = p ▹ trims_all ▹ pushes _ ▹ maybe _ _ _ blank

    block_comment : (h : Here) {s t : State} → Twin s t → Twin (format_block_comment ones h s) (format_block_comment others h t)
    unfolding format_block_comment get_indent
    block_comment h = enter (format_block_comment ones h) (format_block_comment others h) (λ s u p. twins {s = s} p ▹ lines ▹ pushes _ ▹ lines)

    top_level : (h : Here) (sp : SpanInfo) {s t : State} → Twin s t → Twin (format_top_level_reserved_word ones h sp s) (format_top_level_reserved_word others h sp t)
    unfolding format_top_level_reserved_word
    top_level h sp p = p ▹ maybe _ _ _ top_lines ▹ word h.token ▹ chosen _ _ _ _ _ (λ q. q ▹ increases sp ▹ lines) blank ▹ indents _

    top_level_no_indent : (h : Here) (sp : SpanInfo) {s t : State} → Twin s t → Twin (format_top_level_reserved_word_no_indent ones h sp s) (format_top_level_reserved_word_no_indent others h sp t)
    unfolding format_top_level_reserved_word_no_indent
    top_level_no_indent h sp p = p ▹ maybe _ _ _ top_lines ▹ word h.token ▹ chosen _ _ _ _ _ lines blank ▹ indents _

    newline_after : (h : Here) (sp : SpanInfo) {s t : State} → Twin s t → Twin (format_newline_after_reserved_word ones h sp s) (format_newline_after_reserved_word others h sp t)
    unfolding format_newline_after_reserved_word
    newline_after h sp = enter (format_newline_after_reserved_word ones h sp) (format_newline_after_reserved_word others h sp) (λ s u p. twins {s = s} p ▹ chosen _ _ _ _ _ top_lines blanked ▹ word h.token ▹ increases sp ▹ lines ▹ indents _)

    indents_inlined : (o : Option SpanInfo) {s t : State} → Twin s t → Twin (indent_inlined o s) (indent_inlined o t)
    unfolding indent_inlined
    indents_inlined None p = p
    indents_inlined (Some sp) p = p ▹ maybe _ _ _ (increases sp)

    newline : (h : Here) {s t : State} → Twin s t → Twin (format_newline_reserved_word ones h s) (format_newline_reserved_word others h t)
    unfolding format_newline_reserved_word
    newline h = enter (format_newline_reserved_word ones h) (format_newline_reserved_word others h) (λ s u p. twins {s = s} p ▹ chosen _ _ _ _ _ (λ q. q ▹ indents_inlined _ ▹ maybe _ _ _ trims ▹ lines) blanked ▹ word h.token ▹ blank ▹ indents _)

    opening : (h : Here) (info : BlockInfo) {s t : State} → Twin s t → Twin (format_opening_parentheses ones h info s) (format_opening_parentheses others h info t)
    unfolding format_opening_parentheses format_reserved_word case_for
    opening h info =
        enter (format_opening_parentheses ones h info) (format_opening_parentheses others h info) (λ s u p.
        twins {s = s} p ▹ levels suc ▹ refuses _ 6 ▹ inlines _ ▹ maybe _ _ _ trims ▹ maybe _ _ _ blanked ▹ maybe _ _ _ (λ q. q ▹ trims_all ▹ blank)
        ▹ indents _ ▹ pushes _ ▹ chosen _ _ _ _ _ lines (maybe _ _ _ blank))

    closing : (h : Here) {s t : State} → Twin s t → Twin (format_closing_parentheses ones h s) (format_closing_parentheses others h t)
    unfolding format_closing_parentheses format_reserved_word case_for
    closing h =
        enter (format_closing_parentheses ones h) (format_closing_parentheses others h) (λ s u p.
        twins {s = s} p ▹ levels _ ▹ indents _
        ▹ chosen _ _ _ _ _ (λ q. q ▹ inlines _ ▹ chosen _ _ _ _ _ (λ r. r ▹ blanked ▹ with_spaces _) (space_after _)) (λ q. q ▹ refuses _ 8 ▹ new_line_inner _ ▹ with_spaces _))

    -- ---- a token is a placeholder that is laid out, or it adds no value

    module _ (h : Here) (s : State) (u : Text) (p : Texts hs hs hs' hs' s.text u) (P : Bool → State → State → Type 0) (other : (a b : State) → Twin a b → P false a b)
        (fill : P true (format_placeholder ones h.token s) (format_placeholder others h.token (put u s))) where
      steps : {a b : State} → (Twin s (put u s) → Twin a b) → P false a b
      steps f = other _ _ (f (twins {s = s} p))

      by_kind : (k : TokenKind) → P (is k kind.Placeholder) (format_token ones h k s) (format_token others h k (put u s))
      unfolding format_token span_info
      by_kind kind.Whitespace = steps (λ q. q)
      by_kind kind.LineComment = steps (line_comment h)
      by_kind kind.BlockComment = steps (block_comment h)
      by_kind kind.ReservedTopLevel = steps (top_level h _)
      by_kind kind.ReservedTopLevelNoIndent = steps (top_level_no_indent h _)
      by_kind kind.ReservedNewlineAfter = steps (newline_after h _)
      by_kind kind.ReservedNewline = steps (newline h)
      by_kind kind.Reserved = steps (reserved h)
      by_kind kind.OpenParen = steps (opening h _)
      by_kind kind.CloseParen = steps (closing h)
      by_kind kind.Placeholder = fill
      by_kind kind.TypeSpecifier = steps (type_specifier h)
      by_kind kind.String = steps (by_value h.token.value)
      by_kind kind.Operator = steps (by_value h.token.value)
      by_kind kind.Number = steps (by_value h.token.value)
      by_kind kind.Word = steps (by_value h.token.value)
      by_kind kind.Join = steps (by_value h.token.value)

      pub by_turn : (t : Turn) → P (lays_out t h.token.kind) (taken_as t ones h s) (taken_as t others h (put u s))
      unfolding lays_out taken_as format_no_change
      by_turn turn.Dropped = steps (λ q. q)
      by_turn (turn.Switches off) = steps (λ q. q)
      by_turn turn.LaidOut = by_kind h.token.kind
      by_turn turn.Copied = steps (pushes h.token.value)
