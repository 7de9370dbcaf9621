-- Each handler's rule from what its calls gave. Assumes nothing.
use mathlib.Core.Path.{◌≡◌, refl, ap, ◌∙◌}
use mathlib.Core.Bool.{Bool, true, false, not, ◌&&◌, ◌||◌}
use Rattle.std.specs.Prelude.{Option, None, Some, ℕ}
use mathlib.Core.List.{List}
use Prim.Native.Nat.{ℕ, ◌+◌, ◌≤◌, ◌<◌}
use native.Mathlib.Omega.{arith}
use lib.ListN.{length}
use Rattle.rules.specs.declared.Case.{Case}
use Rattle.rules.specs.declared.Place.{Place}
use Rattle.rules.specs.declared.SpanInfo.{SpanInfo}
use Rattle.rules.specs.Base.{when, full}
use Rattle.rules.specs.Text.{Text, in_case, equalize_whitespace}
use Rattle.rules.specs.Words.{body_at, token_at}
use Rattle.rules.specs.Sheet.{body_part, env_of}
use Rattle.rules.specs.State.{State}
use Rattle.rules.specs.Indentation.{Indentation, indent_level, increase_top_level, set_previous_reserved, previous_top_level_reserved, span}
use Rattle.rules.specs.InlineBlock.{is_active}
use Rattle.rules.specs.Formatter.{format_reserved_word, after_line_comment, over_limit, format_newline_reserved_word, format_reserved}
use Rattle.ascii.specs.Part.{part as bytes}
use Rattle.text.specs.Held.{text_of, Laid}
use Rattle.text.specs.declared.Text.{Text as CodeText}
use Rattle.tokens.specs.Placed.{Inside}
use Rattle.indentation.specs.Of.{indentation_of, Stands}
use Rattle.indentation.specs.declared.Indentation.{Indentation as Stacks}
use Rattle.inline_block.specs.Of.{inline_block_of}
use Rattle.query.specs.Query
use Rattle.query.specs.declared.Value.{Value}
use Rattle.query.proofs.Halves as halves
use Rattle.keeps.specs.CaseOf.{case_of}
use Rattle.keeps.proofs.CaseOf.{rules-case}
use Rattle.state.specs.declared.State.{State as Code}
use Rattle.state.specs.declared.Context.{Context}
use Rattle.state.specs.Words.{on_words}
use Rattle.state.proofs.Words.{top-words, reserved-words, last-top-level}
use Rattle.state.specs.Below.{Below}
use Rattle.state.proofs.Below.{below_up, top_below, reserved-below}
use Rattle.state.specs.Of.{value_in, word_of, state_of, with_indentation, Known, Ready, env_in, here_in, Handled}
use Rattle.state.proofs.Laws.{by-halves, value-is}
use Rattle.reserved.specs.declared.Newline.{Newline}
use Rattle.reserved.specs.Inlined.{indent_last, inlined_last, or_no_span, six_in, indented_in, Indented}

-- ---- where a test holds

module _ (f : Indentation ℕ → Indentation ℕ) (i : Indentation ℕ) where
  pub when-below : (k : ℕ) (b : Bool) → Below k i → Below k (f i) → Below k (when b f i)
  unfolding when
  when-below k true p q = q
  when-below k false p q = p

  pub when-words : (w : ℕ → List ℕ) (b : Bool) (g : Indentation (List ℕ) → Indentation (List ℕ)) → on_words w (f i) ≡ g (on_words w i) → on_words w (when b f i) ≡ when b g (on_words w i)
  unfolding when
  when-words w true g e = e
  when-words w false g e = refl

-- what is read of the stacks, under another name for each word
module _ (w : ℕ → List ℕ) (i : Indentation ℕ) where
  pub level-words : indent_level false i ≡ indent_level false (on_words w i)
  unfolding on_words indent_level
  level-words = refl

  pub full-words : full i.indent_types ≡ full (on_words w i).indent_types
  unfolding on_words
  full-words = refl

  span-words : span i ≡ span (on_words w i)
  unfolding on_words span
  span-words = refl

-- ---- what was inlined is indented

module _ (i : Indentation ℕ) where
  last-below : (k : ℕ) (o : Option SpanInfo) → Below k i → Below k (indent_last o i)
  unfolding indent_last
  last-below k None p = p
  last-below k (Some sp) p = when-below (increase_top_level sp) i k (not sp.newline_after) p (top_below k i p sp)

  inlined-words : (w : ℕ → List ℕ) (b : Bool) (o : Option SpanInfo)
      → on_words w (when b (indent_last o) i) ≡ when (b && halves.was_inlined o) (increase_top_level (halves.span_or o)) (on_words w i)
  unfolding when indent_last halves.was_inlined halves.span_or
  inlined-words w false o = refl
  inlined-words w true None = refl
  inlined-words w true (Some sp) = when-words (increase_top_level sp) i w (not sp.newline_after) (increase_top_level sp) (top-words w sp i)

six-is : (o : Option SpanInfo) (b : Bool) → six_in o b ≡ (halves.was_inlined o && b)
unfolding six_in halves.was_inlined
six-is None b = refl
six-is (Some sp) b = refl

-- the last top-level word, as the code holds it
inlined-is : {W : Type 0} (b : Bool) (o : Option SpanInfo) (i : Indentation W) → when (b && inlined_last o) (increase_top_level (or_no_span o)) i ≡ when b (indent_last o) i
unfolding when indent_last inlined_last or_no_span
inlined-is false o i = refl
inlined-is true None i = refl
inlined-is true (Some sp) i = refl

pub by-indented : (i : Stacks) (breaks : Bool) (n : ℕ) (last : Option SpanInfo) (b : Bool) (sp : SpanInfo) (to noted : Stacks) (f six : Bool) (level : ℕ) → last ≡ previous_top_level_reserved (indentation_of i)
    → b ≡ (breaks && inlined_last last) → sp ≡ or_no_span last → Stands (when b (increase_top_level sp) (indentation_of i)) to → Stands (set_previous_reserved n (indentation_of to)) noted → f ≡ full (indentation_of i).indent_types → six ≡ six_in last f
    → (level ≡ indent_level false (indentation_of to)) × (level ≤ 128) → Indented (indentation_of i) breaks n (record { six = six; level = level; stacks = noted })
by-indented i breaks n last b sp to noted f six level hl hb hp ht hn hf hs hv =
    let e : indentation_of to ≡ indented_in breaks (indentation_of i) = ht.is ∙ rw (hb, hp, inlined-is, hl) in
    record { six = hs ∙ rw (hl, hf); level = hv.0 ∙ rw e; low = hv.1; stands = rw (← e) hn }

-- ---- the word

module _ (s : List ℕ) (x : Context) (i : ℕ) (known : Known s x) (p : Place) (e : p ≡ (token_at s i).value) where
  pub place_inside : i < x.counts.tokens → Inside s (body_at x.counts) p
  place_inside here = rw e (known.sheeted.tokens.within i here).value_in

  pub by-case : (r : Case) → r ≡ case_of s x.counts x.options.casing (body_part s (body_at x.counts) p) → r ≡ case_of s x.counts x.options.casing (word_of s x.base i)
  by-case r h = h ∙ rw (e, known.base)

module _ (s : List ℕ) (x : Context) (i : ℕ) (known : Known s x) (v : Value) (ev : v ≡ value_in s x i) (k : Case) (ek : k ≡ case_of s x.counts x.options.casing (word_of s x.base i)) where
  -- the word as the handlers write it
  abbrev pub written : List ℕ
  written = equalize_whitespace (in_case k (bytes s v.start v.len))

  pub word-is : (room : ℕ) → written ≡ halves.word_of (env_in s x room) (here_in s x i)
  unfolding format_reserved_word
  word-is room = rw (value-is s x i v ev, rules-case s x.counts room x.options.casing k (word_of s x.base i) (ap (λ o. o.casing) known.options) ek)

module _ (s : List ℕ) (x : Context) (i : ℕ) (st : Code) (d : List ℕ) (ready : Ready s x i st d) (v : Value) (ev : v ≡ value_in s x i) (k : Case) (ek : k ≡ case_of s x.counts x.options.casing (word_of s x.base i)) (t : CodeText) (r : Code) (q : List ℕ) where
  abbrev now : State
  now = state_of s x.base st d

  abbrev before : Indentation ℕ
  before = indentation_of st.indentation

  abbrev word : List ℕ
  word = written s x i ready.known v ev k ek

  below : Below (i + 1) before
  below = below_up (omega arith) ready.steady.words

  pub by-reserved : (n : Stacks) → Stands (set_previous_reserved i before) n → Laid (length d) (Query.with_spaces (length d) word (text_of st.text d)) t q → r ≡ with_indentation st t n → Handled s x i format_reserved st d r q
  unfolding env_of state_of
  by-reserved n stands laid m =
      rw m (by-halves s x i format_reserved st d ready (Query.with_spaces (length d) word (text_of st.text d)) (set_previous_reserved i before) t n q laid stands (reserved-below (i + 1) before below i (omega arith))
      (rw (reserved-words, word-is s x i ready.known v ev k ek (length d)) (halves.reserved (env_in s x (length d)) (here_in s x i) now)))

  -- ---- a newline word

  module _ (comment active breaks : Bool) (n : ℕ) (l : Newline) (hc : comment ≡ after_line_comment (here_in s x i)) (ha : active ≡ is_active (inline_block_of st.inline_block)) (hn : n ≡ span before) (hb : breaks ≡ (comment || not active && over_limit x.options.max_inline_arguments n)) (told : Indented before breaks i l) where
    abbrev broken : Text
    broken = Query.newline (length d) x.options breaks l.six comment l.level word (text_of st.text d)

    newline-ruled : format_newline_reserved_word (env_in s x (length d)) (here_in s x i) now ≡ halves.halves broken (on_words (word_of s x.base) (set_previous_reserved i (indented_in breaks before))) now
    unfolding env_of state_of
    newline-ruled =
        let w = word_of s x.base in
        rw (told.six, six-is, told.level, level-words w, reserved-words, inlined-words, full-words w before, word-is s x i ready.known v ev k ek (length d), hb, hn, span-words w before, hc, ha, ready.known.options, ← last-top-level w before)
        (halves.newline-word (env_in s x (length d)) (here_in s x i) now)

    pub by-newline : Laid (length d) broken t q → r ≡ with_indentation st t l.stacks → Handled s x i format_newline_reserved_word st d r q
    by-newline laid m =
        let into : Below (i + 1) (indented_in breaks before) = when-below (indent_last (previous_top_level_reserved before)) before (i + 1) breaks below (last-below before (i + 1) (previous_top_level_reserved before) below) in
        rw m
        (by-halves s x i format_newline_reserved_word st d ready broken (set_previous_reserved i (indented_in breaks before)) t l.stacks q laid told.stands (reserved-below (i + 1) (indented_in breaks before) into i (omega arith)) newline-ruled)
