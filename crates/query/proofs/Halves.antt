-- Each handler of the rules is what it does to the text and what it does to the rest.
use mathlib.Core.Path.{◌≡◌, refl}
use mathlib.Core.Bool.{Bool, true, false, not, ◌&&◌, ◌||◌}
use Rattle.std.specs.Prelude.{Option, None, Some, if◌then◌else◌, is_some}
use mathlib.Core.List.{List, [], ◌∷◌, tail}
use Prim.Native.Nat.{ℕ, suc, ◌-◌}
use lib.Dec.{eqb}
use lib.ListN.{length}
use Rattle.rules.specs.declared.SpanInfo.{SpanInfo}
use Rattle.rules.specs.declared.BlockInfo.{BlockInfo}
use Rattle.rules.specs.declared.TokenKind.TheVariants as kind
use Rattle.rules.specs.Base.{◌▹◌, holds, choose, when, full}
use Rattle.rules.specs.Bytes.{bytes}
use Rattle.rules.specs.Tokens.{Here}
use Rattle.rules.specs.Sheet.{Env}
use Rattle.rules.specs.Text.{Text, append, cut_blanks, is_lower, equalize_whitespace, is_on}
use Rattle.rules.specs.Indentation.{Indentation, Closed, no_indentation, indent_level, unfolded, increase_block_level, decrease_top_level, decrease_block_level, set_previous_reserved, set_previous_top_level, previous_top_level_reserved, span, increase_top_level as increase_top}
use Rattle.rules.specs.InlineBlock.{is_active, begins_inline, begin_if_possible}
use Rattle.rules.specs.Params.{get, advances, offends}
use Rattle.rules.specs.State.{State, on_text, on_indentation, on_inline_block, on_block_level, on_index, refuse_if, push_str, push, trim_spaces_end, trim_all_spaces_end, get_indent, add_new_line_inner, add_new_line, close_line_comment, increase_top_level, one_blank as one_blank_s}
use Rattle.rules.specs.Formatter as rule
use Rattle.query.specs.Query

-- the level of a new line
abbrev pub level_of : State → ℕ
level_of s = indent_level false s.indentation

abbrev pub word_of : Env → Here → List ℕ
word_of e h = equalize_whitespace (rule.format_reserved_word e h.token.value)

abbrev pub bracket_of : Env → Here → List ℕ
bracket_of e h = rule.format_reserved_word e h.token.value

-- the last top-level word was inlined; its span
unfoldable pub was_inlined : Option SpanInfo → Bool
was_inlined None = false
was_inlined (Some sp) = not sp.newline_after

unfoldable pub span_or : Option SpanInfo → SpanInfo
span_or None = record { full_span = 0; blocks = 0; newline_before = false; newline_after = false; arguments = 0 }
span_or (Some sp) = sp

-- the text and the stacks of a state
unfoldable pub halves : Text → Indentation (List ℕ) → State → State
halves w i s = record { text = w; indentation = i; inline_block = s.inline_block; block_level = s.block_level; index = s.index }

-- ---- handlers that leave the rest as it is

module _ (e : Env) (h : Here) (s : State) where
  pub line-comment : rule.format_line_comment e h s ≡ on_text (Query.line_comment e.room e.options (level_of s) (rule.after_line_feed h && rule.white_then_no_operator h) (rule.two_after_comma h) h.token.value) s
  unfolding rule.format_line_comment Query.line_comment Query.line_at Query.closing_at when choose Query.after_comma on_text push_str trim_all_spaces_end add_new_line add_new_line_inner close_line_comment get_indent
  line-comment = go (rule.after_line_feed h && rule.white_then_no_operator h) (rule.two_after_comma h)
    where
      go : (b c : Bool)
          → (s ▹ choose b (add_new_line e) (when c (λ r. r ▹ trim_all_spaces_end ▹ push_str e (bytes "  "))) ▹ push_str e h.token.value ▹ close_line_comment e)
          ≡ on_text (Query.line_comment e.room e.options (level_of s) b c h.token.value) s
      go true c = refl
      go false true = refl
      go false false = refl

  abbrev pub spaced_after : Bool
  spaced_after = holds (rule.kind_in (kind.Reserved ∷ kind.ReservedNewline ∷ kind.ReservedNewlineAfter ∷ [])) (rule.next_non_whitespace_token h)

  pub type-specifier : rule.format_type_specifier e h s ≡ on_text (Query.type_specifier e.room h.token.value spaced_after) s
  unfolding rule.format_type_specifier Query.type_specifier when Query.blank on_text push_str push trim_all_spaces_end
  type-specifier = go spaced_after
    where
      go : (b : Bool) → (s ▹ trim_all_spaces_end ▹ push_str e h.token.value ▹ when b (push e 32)) ≡ on_text (Query.type_specifier e.room h.token.value b) s
      go true = refl
      go false = refl

  pub block-comment : rule.format_block_comment e h s ≡ on_text (Query.block_comment e.room e.options (level_of s) h.token.value) s
  unfolding rule.format_block_comment Query.block_comment Query.line_at on_text push_str add_new_line add_new_line_inner get_indent
  block-comment = refl

  pub no_change : rule.format_no_change e h s ≡ on_text (append e.room h.token.value) s
  unfolding rule.format_no_change push_str
  no_change = refl

-- ---- values

module _ (e : Env) (v : List ℕ) (s : State) where
  pub with-spaces : rule.format_with_spaces e v s ≡ on_text (Query.with_spaces e.room v) s
  unfolding rule.format_with_spaces Query.with_spaces Query.blank on_text push_str push
  with-spaces = refl

  pub with-space-after : rule.format_with_space_after e v s ≡ on_text (Query.with_space_after e.room v) s
  unfolding rule.format_with_space_after Query.with_space_after Query.blank on_text push_str push trim_spaces_end
  with-space-after = refl

  pub without-spaces : rule.format_without_spaces e v s ≡ on_text (Query.without_spaces e.room v) s
  unfolding rule.format_without_spaces Query.without_spaces on_text push_str trim_spaces_end
  without-spaces = refl

  pub comma : rule.format_comma e v s ≡ on_text (Query.comma e.room e.options v (rule.comma_breaks e s) (level_of s)) s
  unfolding rule.format_comma rule.format_with_space_after Query.comma Query.with_space_after Query.blank when Query.line_at on_text push_str push trim_spaces_end add_new_line add_new_line_inner get_indent
  comma = go (rule.comma_breaks e s)
    where
      go : (b : Bool) → (s ▹ rule.format_with_space_after e v ▹ when b (add_new_line e)) ≡ on_text (Query.comma e.room e.options v b (level_of s)) s
      go true = refl
      go false = refl

  pub separator : rule.format_query_separator e v s ≡ halves (Query.separator e.room v e.options.lines_between_queries s.text) no_indentation s
  unfolding rule.format_query_separator Query.separator Query.without_spaces halves on_text on_indentation push_str trim_spaces_end
  separator = refl

-- ---- reserved words

module _ (e : Env) (h : Here) (s : State) where
  pub reserved : rule.format_reserved e h s ≡ halves (Query.with_spaces e.room (word_of e h) s.text) (set_previous_reserved h.token.value s.indentation) s
  unfolding rule.format_reserved rule.push_reserved Query.with_spaces Query.blank halves on_text on_indentation push_str push
  reserved = refl

  module _ (sp : SpanInfo) where
    -- the stacks before the word
    abbrev pub out_of : Bool → Indentation (List ℕ)
    out_of b = when b decrease_top_level s.indentation

    pub top-level : rule.format_top_level_reserved_word e h sp s
        ≡ (let out = out_of sp.newline_before in
        let after = sp.newline_after && not h.token.create in
        let into = when after (increase_top sp) out in
        halves (Query.top_level e.room e.options sp.newline_before (indent_level false out) (word_of e h) after (full out.indent_types) (indent_level false into) s.text)
        (set_previous_top_level h.token.value sp into) s)
    unfolding rule.format_top_level_reserved_word rule.push_reserved rule.new_top_line Query.top_level Query.deeper Query.line_at when choose Query.blank halves refuse_if on_text on_indentation push_str push add_new_line add_new_line_inner get_indent increase_top_level
    top-level = go sp.newline_before (sp.newline_after && not h.token.create)
      where
        go : (b d : Bool)
            → (s ▹ when b (rule.new_top_line e) ▹ rule.push_reserved e h.token ▹ choose d (λ r. r ▹ increase_top_level sp ▹ add_new_line e) (push e 32) ▹ on_indentation (set_previous_top_level h.token.value sp))
            ≡ halves (Query.top_level e.room e.options b (indent_level false (out_of b)) (word_of e h) d (full (out_of b).indent_types) (indent_level false (when d (increase_top sp) (out_of b))) s.text)
            (set_previous_top_level h.token.value sp (when d (increase_top sp) (out_of b))) s
        go true true = refl
        go true false = refl
        go false true = refl
        go false false = refl

    pub top-level-no-indent : rule.format_top_level_reserved_word_no_indent e h sp s
        ≡ (let out = out_of sp.newline_before in
        halves (Query.top_level e.room e.options sp.newline_before (indent_level false out) (word_of e h) sp.newline_after false (indent_level false out) s.text)
        (set_previous_top_level h.token.value sp out) s)
    unfolding rule.format_top_level_reserved_word_no_indent rule.push_reserved rule.new_top_line Query.top_level Query.deeper Query.line_at when choose Query.blank halves on_text on_indentation push_str push add_new_line add_new_line_inner get_indent
    top-level-no-indent = go sp.newline_before sp.newline_after
      where
        go : (b d : Bool)
            → (s ▹ when b (rule.new_top_line e) ▹ rule.push_reserved e h.token ▹ choose d (add_new_line e) (push e 32) ▹ on_indentation (set_previous_top_level h.token.value sp))
            ≡ halves (Query.top_level e.room e.options b (indent_level false (out_of b)) (word_of e h) d false (indent_level false (out_of b)) s.text) (set_previous_top_level h.token.value sp (out_of b)) s
        go true true = refl
        go true false = refl
        go false true = refl
        go false false = refl

    abbrev pub breaks_out : Bool
    breaks_out = rule.newline_before e.options.max_inline_top_level (previous_top_level_reserved s.indentation) (length h.token.value)

    pub newline-after : rule.format_newline_after_reserved_word e h sp s
        ≡ (let out = out_of breaks_out in
        let into = increase_top sp out in
        halves (Query.newline_after e.room e.options breaks_out (indent_level false out) (word_of e h) (full out.indent_types) (indent_level false into) s.text)
        (set_previous_top_level h.token.value sp into) s)
    unfolding rule.format_newline_after_reserved_word rule.push_reserved rule.new_top_line Query.newline_after Query.deeper Query.one_blank Query.line_at when choose Query.blank halves refuse_if on_text on_indentation push_str push trim_spaces_end one_blank_s add_new_line add_new_line_inner get_indent increase_top_level
    newline-after = go breaks_out
      where
        go : (b : Bool)
            → (s ▹ choose b (rule.new_top_line e) (one_blank_s e) ▹ rule.push_reserved e h.token ▹ increase_top_level sp ▹ add_new_line e ▹ on_indentation (set_previous_top_level h.token.value sp))
            ≡ halves (Query.newline_after e.room e.options b (indent_level false (out_of b)) (word_of e h) (full (out_of b).indent_types) (indent_level false (increase_top sp (out_of b))) s.text)
            (set_previous_top_level h.token.value sp (increase_top sp (out_of b))) s
        go true = refl
        go false = refl

  -- ---- a newline word: what was inlined is indented where it breaks

  abbrev pub breaks_before : Bool
  breaks_before = rule.after_line_comment h || not (is_active s.inline_block) && rule.over_limit e.options.max_inline_arguments (span s.indentation)

  -- the chain, d telling whether the word's span is pushed
  abbrev newline_chain : Bool → Bool → (State → State) → State
  newline_chain b c f =
      s ▹ choose b (λ r. r ▹ f ▹ when c trim_spaces_end ▹ add_new_line e) (one_blank_s e) ▹ rule.push_reserved e h.token ▹ push e 32 ▹ on_indentation (set_previous_reserved h.token.value)

  abbrev newline_halves : Bool → Bool → Bool → SpanInfo → State
  newline_halves b c d sp =
      let into = when (b && d) (increase_top sp) s.indentation in
      halves (Query.newline e.room e.options b (d && full s.indentation.indent_types) c (indent_level false into) (word_of e h) s.text) (set_previous_reserved h.token.value into) s

  newline-by : (b c d : Bool) (sp : SpanInfo) → newline_chain b c (when d (increase_top_level sp)) ≡ newline_halves b c d sp
  unfolding rule.push_reserved Query.newline Query.newline_break Query.one_blank Query.line_at when choose Query.blank halves refuse_if on_text on_indentation push_str push trim_spaces_end one_blank_s add_new_line add_new_line_inner get_indent increase_top_level
  newline-by true true true sp = refl
  newline-by true true false sp = refl
  newline-by true false true sp = refl
  newline-by true false false sp = refl
  newline-by false c true sp = refl
  newline-by false c false sp = refl

  newline-of : (b c : Bool) (o : Option SpanInfo) → newline_chain b c (rule.indent_inlined o) ≡ newline_halves b c (was_inlined o) (span_or o)
  unfolding rule.indent_inlined was_inlined span_or when
  newline-of b c None = newline-by b c false (span_or None)
  newline-of b c (Some sp) = newline-by b c (not sp.newline_after) sp

  pub newline-word : rule.format_newline_reserved_word e h s
      ≡ (let last = previous_top_level_reserved s.indentation in
      let into = when (breaks_before && was_inlined last) (increase_top (span_or last)) s.indentation in
      halves (Query.newline e.room e.options breaks_before (was_inlined last && full s.indentation.indent_types) (rule.after_line_comment h) (indent_level false into) (word_of e h) s.text)
      (set_previous_reserved h.token.value into) s)
  unfolding rule.format_newline_reserved_word
  newline-word = newline-of breaks_before (rule.after_line_comment h) (previous_top_level_reserved s.indentation)

-- ---- brackets and placeholders

-- steps of the state that change its text alone

when-trim : (b : Bool) (s : State) → when b trim_spaces_end s ≡ on_text (when b cut_blanks) s
unfolding when trim_spaces_end on_text
when-trim true s = refl
when-trim false s = refl

when-between : (e : Env) (b : Bool) (s : State) → when b (one_blank_s e) s ≡ on_text (when b (Query.one_blank e.room)) s
unfolding when one_blank_s trim_spaces_end push push_str on_text Query.one_blank Query.blank
when-between e true s = refl
when-between e false s = refl

when-folded : (e : Env) (b : Bool) (s : State) → when b (λ r. r ▹ trim_all_spaces_end ▹ push e 32) s ≡ on_text (when b (Query.fold e.room)) s
unfolding when trim_all_spaces_end push push_str on_text Query.fold Query.blank
when-folded e true s = refl
when-folded e false s = refl

after-bracket : (e : Env) (i k : Bool) (s : State) → choose (not i) (add_new_line e) (when k (push e 32)) s ≡ on_text (Query.after_opening e.room e.options i k (level_of s)) s
unfolding when choose add_new_line add_new_line_inner get_indent push push_str on_text Query.after_opening Query.line_at Query.blank
after-bracket e true true s = refl
after-bracket e true false s = refl
after-bracket e false k s = refl

close-inline : (e : Env) (k : Bool) (v : List ℕ) (s : State)
    → choose k (λ q. q ▹ one_blank_s e ▹ rule.format_with_spaces e v) (rule.format_with_space_after e v) s ≡ on_text (Query.closing_inline e.room k v) s
unfolding choose one_blank_s trim_spaces_end push push_str on_text rule.format_with_spaces rule.format_with_space_after Query.closing_inline Query.one_blank Query.with_spaces Query.with_space_after Query.blank
close-inline e true v s = refl
close-inline e false v s = refl

close-by : (e : Env) (closed : Closed (List ℕ)) (v : List ℕ) (s : State) (a k : Bool)
    → (s ▹ on_block_level (λ n. n - 1) ▹ on_indentation (λ i. closed.left)
    ▹ choose a (λ r. r ▹ on_inline_block tail ▹ choose k (λ q. q ▹ one_blank_s e ▹ rule.format_with_spaces e v) (rule.format_with_space_after e v))
    (λ r. r ▹ refuse_if (closed.folded && (not (is_on e.options.inline) && eqb (unfolded closed.left.indent_types) 0)) 8 ▹ add_new_line_inner e closed.folded ▹ rule.format_with_spaces e v))
    ≡ record {
      text =
          choose a (Query.closing_inline e.room k v)
          (Query.closing e.room e.options (closed.folded && (not (is_on e.options.inline) && eqb (unfolded closed.left.indent_types) 0)) (indent_level closed.folded closed.left) v)
          s.text;
      indentation = closed.left;
      inline_block = if a then tail s.inline_block else s.inline_block;
      block_level = s.block_level - 1;
      index = s.index;
    }
unfolding choose on_text on_indentation on_inline_block on_block_level refuse_if add_new_line_inner get_indent push_str push rule.format_with_spaces Query.closing Query.with_spaces when Query.line_at Query.blank
close-by e closed v s true k = close-inline e k v _
close-by e closed v s false k = refl

-- the counter moves where b holds
when-index : (b : Bool) (s : State)
    → when b (on_index suc) s ≡ record { text = s.text; indentation = s.indentation; inline_block = s.inline_block; block_level = s.block_level; index = if b then suc s.index else s.index }
unfolding when on_index
when-index true s = refl
when-index false s = refl

module _ (e : Env) (h : Here) (s : State) where
  pub opening : (info : BlockInfo) → rule.format_opening_parentheses e h info s
      ≡ (let inlined = begins_inline e.options info s.inline_block in
      let folded = not inlined && (is_some e.options.max_inline_top_level && (holds (rule.kind_is kind.ReservedTopLevel) (rule.previous_non_whitespace_token h) && holds rule.folds_in (previous_top_level_reserved s.indentation))) in
      let into = increase_block_level folded s.indentation in
      record {
        text =
            s.text
            ▹ Query.before_opening e.room (full s.indentation.indent_types) (rule.cuts_before h) (rule.blank_between h) folded
            ▹ append e.room (bracket_of e h)
            ▹ Query.after_opening e.room e.options inlined (is_lower h.token.value (bytes "case")) (indent_level false into);
        indentation = into;
        inline_block = begin_if_possible (inlined && not (full s.indentation.indent_types)) info.length s.inline_block;
        block_level = suc s.block_level;
        index = s.index;
      })
  unfolding rule.format_opening_parentheses Query.before_opening on_text on_indentation on_inline_block on_block_level refuse_if push_str when
  opening info = rw (when-trim, when-between e, when-folded e, after-bracket e)

  pub closing : rule.format_closing_parentheses e h s
      ≡ (let closed = decrease_block_level s.indentation in
      let active = is_active s.inline_block in
      let eight = closed.folded && (not (is_on e.options.inline) && eqb (unfolded closed.left.indent_types) 0) in
      record {
        text =
            choose active (Query.closing_inline e.room (is_lower (bracket_of e h) (bytes "end")) (bracket_of e h))
            (Query.closing e.room e.options eight (indent_level closed.folded closed.left) (bracket_of e h))
            s.text;
        indentation = closed.left;
        inline_block = if active then tail s.inline_block else s.inline_block;
        block_level = s.block_level - 1;
        index = s.index;
      })
  unfolding rule.format_closing_parentheses
  closing = close-by e (decrease_block_level s.indentation) (bracket_of e h) s (is_active s.inline_block) (is_lower (bracket_of e h) (bytes "end"))

  pub placeholder : rule.format_placeholder e h.token s
      ≡ record {
        text = Query.placeholder e.room (offends e.params h.token.key) (get e.params h.token.key s.index h.token.value) s.text;
        indentation = s.indentation;
        inline_block = s.inline_block;
        block_level = s.block_level;
        index = if advances e.params h.token.key then suc s.index else s.index;
      }
  unfolding rule.format_placeholder Query.placeholder Query.with_spaces when Query.blank refuse_if on_text push_str push
  placeholder = when-index (advances e.params h.token.key) _
