-- Each handler's rule from what its calls gave. Assumes nothing.
use mathlib.Core.Path.{◌≡◌, sym, ◌∙◌}
use mathlib.Core.Bool.{Bool, true, false, not}
use mathlib.Core.List.{List}
use Prim.Native.Nat.{ℕ, ◌+◌}
use lib.ListN.{length}
use Rattle.rules.specs.declared.SpanInfo.{SpanInfo}
use Rattle.rules.specs.Base.{or_zero}
use Rattle.rules.specs.Text.{append, is_lower}
use Rattle.rules.specs.Sheet.{env_of}
use Rattle.rules.specs.State.{State}
use Rattle.rules.specs.Indentation.{Indentation, no_indentation, indent_level, previous_reserved, previous_top_level_reserved}
use Rattle.rules.specs.InlineBlock.{is_active}
use Rattle.rules.specs.Formatter.{format_no_change, format_with_spaces, format_with_space_after, format_without_spaces, format_comma, format_query_separator, comma_breaks, span_within}
use Rattle.ascii.specs.Part.{part as bytes}
use Rattle.text.specs.Held.{text_of, Laid}
use Rattle.text.specs.declared.Text.{Text as CodeText}
use Rattle.indentation.specs.Of.{indentation_of, Stands}
use Rattle.indentation.specs.declared.Indentation.{Indentation as Stacks}
use Rattle.inline_block.specs.Of.{inline_block_of}
use Rattle.query.specs.Query
use Rattle.query.specs.declared.Value.{Value}
use Rattle.query.proofs.Halves as halves
use Rattle.state.specs.declared.State.{State as Code}
use Rattle.state.specs.declared.Context.{Context}
use Rattle.state.proofs.Words.{none-words, last-reserved, last-top-level}
use Rattle.state.specs.Of.{value_in, word_of, state_of, with_text, with_indentation, Ready, env_in, here_in, Handled}
use Rattle.std.specs.Prelude.{Option, Some}
use Rattle.rules.specs.Bytes.{bytes as text}
use Rattle.state.proofs.Below.{none_below}
use Rattle.state.proofs.Laws.{by_value, by-halves, level_is, value-is}
use Rattle.values.specs.Comma.{limit_in, breaks_in}
use Rattle.values.specs.On.{on_value}

module _ (s : List ℕ) (x : Context) (i : ℕ) (st : Code) (d : List ℕ) (ready : Ready s x i st d) (v : Value) (e : v ≡ value_in s x i) (t : CodeText) (r : Code) (q : List ℕ) where
  abbrev now : State
  now = state_of s x.base st d

  pub by-no-change : Laid (length d) (append (length d) (bytes s v.start v.len) (text_of st.text d)) t q → r ≡ with_text st t → Handled s x i format_no_change st d r q
  unfolding env_of
  by-no-change laid m = by_value s x i format_no_change st d ready (append (length d)) v t r q e laid m (halves.no_change (env_in s x (length d)) (here_in s x i) now)

  pub by-with-spaces : Laid (length d) (Query.with_spaces (length d) (bytes s v.start v.len) (text_of st.text d)) t q → r ≡ with_text st t → Handled s x i (on_value format_with_spaces) st d r q
  unfolding env_of
  by-with-spaces laid m = by_value s x i (on_value format_with_spaces) st d ready (Query.with_spaces (length d)) v t r q e laid m (halves.with-spaces (env_in s x (length d)) (word_of s x.base i) now)

  pub by-with-space-after : Laid (length d) (Query.with_space_after (length d) (bytes s v.start v.len) (text_of st.text d)) t q → r ≡ with_text st t → Handled s x i (on_value format_with_space_after) st d r q
  unfolding env_of
  by-with-space-after laid m = by_value s x i (on_value format_with_space_after) st d ready (Query.with_space_after (length d)) v t r q e laid m (halves.with-space-after (env_in s x (length d)) (word_of s x.base i) now)

  pub by-without-spaces : Laid (length d) (Query.without_spaces (length d) (bytes s v.start v.len) (text_of st.text d)) t q → r ≡ with_text st t → Handled s x i (on_value format_without_spaces) st d r q
  unfolding env_of
  by-without-spaces laid m = by_value s x i (on_value format_without_spaces) st d ready (Query.without_spaces (length d)) v t r q e laid m (halves.without-spaces (env_in s x (length d)) (word_of s x.base i) now)

  pub by-separator : (n : Stacks) → Laid (length d) (Query.separator (length d) (bytes s v.start v.len) x.options.lines_between_queries (text_of st.text d)) t q → Stands no_indentation n → r ≡ with_indentation st t n
      → Handled s x i (on_value format_query_separator) st d r q
  unfolding env_of state_of
  by-separator n laid stands m =
      rw m (by-halves s x i (on_value format_query_separator) st d ready (Query.separator (length d) (word_of s x.base i) x.options.lines_between_queries (text_of st.text d)) no_indentation t n q
      (rw (value-is s x i v e) at laid) stands (none_below (i + 1)) (rw (none-words, ready.known.options) (halves.separator (env_in s x (length d)) (word_of s x.base i) now)))

  -- ---- a comma

  comma-breaks : (b : Bool) → b ≡ breaks_in s x (is_active (inline_block_of st.inline_block)) (indentation_of st.indentation) → b ≡ comma_breaks (env_in s x (length d)) now
  unfolding breaks_in limit_in comma_breaks state_of env_of
  comma-breaks b h = h ∙ rw (ready.known.options, last-reserved, last-top-level)

  pub by-comma : (active b : Bool) (level : ℕ) → active ≡ is_active (inline_block_of st.inline_block) → b ≡ breaks_in s x active (indentation_of st.indentation) → level ≡ indent_level false (indentation_of st.indentation)
      → Laid (length d) (Query.comma (length d) x.options (bytes s v.start v.len) b level (text_of st.text d)) t q → r ≡ with_text st t → Handled s x i (on_value format_comma) st d r q
  unfolding env_of
  by-comma active b level ha hb hl laid m =
      by_value s x i (on_value format_comma) st d ready (λ w. Query.comma (length d) x.options w b level) v t r q e laid m
      (rw (ready.known.options, comma-breaks b (hb ∙ rw ha), hl ∙ sym (level_is s x.base st d false)) (halves.comma (env_in s x (length d)) (word_of s x.base i) now))

-- ---- the tests of a comma

pub by_word : (s : List ℕ) (x : Context) (n : ℕ) (v : Value) (b : Bool) → v ≡ value_in s x n → b ≡ is_lower (bytes s v.start v.len) (text "limit") → b ≡ limit_in s x (Some n)
unfolding limit_in
by_word s x n v b f g = rw (g, value-is s x n v f)

module _ (s : List ℕ) (x : Context) (active : Bool) (i : Indentation ℕ) where
  pub by-active : active ≡ true → false ≡ breaks_in s x active i
  unfolding breaks_in
  by-active e = rw e

  pub by-limit : (w : Option ℕ) (b : Bool) → active ≡ false → w ≡ previous_reserved i → b ≡ limit_in s x w → b ≡ true → false ≡ breaks_in s x active i
  unfolding breaks_in
  by-limit w b a e f t = rw (a, ← e, ← f, t)

  pub by-within : (w : Option ℕ) (b d : Bool) (most : ℕ) (last : Option SpanInfo) → active ≡ false → w ≡ previous_reserved i → b ≡ limit_in s x w → b ≡ false
      → most ≡ or_zero x.options.max_inline_arguments → last ≡ previous_top_level_reserved i → d ≡ span_within most last → not d ≡ breaks_in s x active i
  unfolding breaks_in
  by-within w b d most last a e f t g h k = rw (a, ← e, ← f, t, k, g, h)
