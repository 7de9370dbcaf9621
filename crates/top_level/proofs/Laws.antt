-- Each handler's rule from what its calls gave. Assumes nothing.
use mathlib.Core.Path.{◌≡◌, refl, ◌∙◌}
use mathlib.Core.Bool.{Bool, true, false, not, ◌&&◌}
use Rattle.std.specs.Prelude.{Option, if◌then◌else◌, ℕ}
use mathlib.Core.List.{List, [], ◌∷◌}
use Prim.Native.Nat.{ℕ, ◌+◌, ◌-◌, ◌≤◌, ◌<◌}
use native.Mathlib.Omega.{arith}
use lib.ListN.{length}
use Rattle.rules.specs.declared.Case.{Case}
use Rattle.rules.specs.declared.SpanInfo.{SpanInfo}
use Rattle.rules.specs.declared.IndentType.{IndentType}
use Rattle.rules.specs.declared.IndentType.TheVariants.{Top, Block, FoldedBlock}
use Rattle.rules.specs.Text.{Text}
use Rattle.rules.specs.Tokens.{Here}
use Rattle.rules.specs.Words.{token_at}
use Rattle.rules.specs.Sheet.{Env, env_of}
use Rattle.rules.specs.State.{State}
use Rattle.rules.specs.Indentation.{Indentation, unfolded, indent_level, increase_top_level, pop_top, decrease_top_level, set_previous_top_level, previous_top_level_reserved}
use Rattle.rules.specs.Formatter.{newline_before, format_top_level_reserved_word, format_top_level_reserved_word_no_indent, format_newline_after_reserved_word}
use Rattle.text.specs.Held.{text_of, Laid}
use Rattle.text.specs.declared.Text.{Text as CodeText}
use Rattle.indentation.specs.Of.{types_of, indentation_of, Clean, Stands}
use Rattle.indentation.proofs.Laws.{types_length}
use Rattle.indentation.specs.declared.Indentation.{Indentation as Stacks}
use Rattle.query.specs.Query
use Rattle.query.specs.declared.Value.{Value}
use Rattle.query.proofs.Halves as halves
use Rattle.keeps.specs.CaseOf.{case_of}
use Rattle.state.specs.declared.State.{State as Code}
use Rattle.state.specs.declared.Context.{Context}
use Rattle.state.specs.Words.{on_words}
use Rattle.state.proofs.Words.{top-words, untop_words, top-level-words, last-top-level}
use Rattle.state.specs.Below.{Below}
use Rattle.state.proofs.Below.{below_up, top_below, untop_below, top-level-below}
use Rattle.state.specs.Of.{value_in, word_of, state_of, with_indentation, Known, Ready, env_in, here_in, Handled, given}
use Rattle.state.proofs.Laws.{by-halves}
use Rattle.rules.specs.Base.{when, full}
use Rattle.reserved.proofs.Laws.{when-below, when-words, level-words, full-words, written, word-is}
use Rattle.top_level.specs.declared.Levels.{Levels}
use Rattle.top_level.specs.Levels.{out_of, into_of, Turned}

-- ---- the stacks around the word

-- a top-level entry counts for one level
record Fewer (less more : List IndentType) : Type 0 where
  fewer : length less ≤ length more
  levels : unfolded more ≡ unfolded less + (length more - length less)

counts_same : (ts : List IndentType) → Fewer ts ts
counts_same ts = record { fewer = omega arith; levels = omega arith }

counts-top : (ts : List IndentType) → Fewer ts (Top ∷ ts)
unfolding unfolded
counts-top ts = record { fewer = omega arith; levels = omega arith }

untop_counts : (b : Bool) (i : Indentation ℕ) → Fewer (when b decrease_top_level i).indent_types i.indent_types
unfolding when decrease_top_level pop_top
untop_counts false i = counts_same i.indent_types
untop_counts true i = go i.indent_types refl
  where
    go : (ts : List IndentType) → i.indent_types ≡ ts → Fewer (pop_top ts i).indent_types ts
    go [] e = rw e (counts_same [])
    go (Top ∷ ts) e = counts-top ts
    go (Block ∷ ts) e = rw e (counts_same (Block ∷ ts))
    go (FoldedBlock ∷ ts) e = rw e (counts_same (FoldedBlock ∷ ts))

top-counts : (b : Bool) (sp : SpanInfo) (i : Indentation ℕ) → Fewer i.indent_types (when b (increase_top_level sp) i).indent_types
unfolding when increase_top_level
top-counts false sp i = counts_same i.indent_types
top-counts true sp i = go (full i.indent_types)
  where
    go : (b : Bool) → Fewer i.indent_types (if b then i else record { indent_types = Top ∷ i.indent_types; top_level_span = sp.full_span ∷ i.top_level_span; previous = i.previous }).indent_types
    go true = counts_same i.indent_types
    go false = counts-top i.indent_types

level-counts : (less more : Stacks) → Fewer (indentation_of less).indent_types (indentation_of more).indent_types
    → (less.nkinds ≤ more.nkinds) × (indent_level false (indentation_of more) ≡ indent_level false (indentation_of less) + (more.nkinds - less.nkinds))
unfolding indentation_of indent_level
level-counts less more c =
    let p = c.fewer in
    let q = c.levels in
    let m = types_length more in
    let l = types_length less in
    (omega arith, omega arith)

pub by-fewer : (i from : Stacks) (b : Bool) → Stands (when b decrease_top_level (indentation_of i)) from → from.nkinds ≤ i.nkinds
by-fewer i from b h = (level-counts from i (rw h.is (untop_counts b (indentation_of i)))).0

pub by-more : (from to : Stacks) (b : Bool) (sp : SpanInfo) → Stands (when b (increase_top_level sp) (indentation_of from)) to → from.nkinds ≤ to.nkinds
by-more from to b sp h = (level-counts from to (rw h.is (top-counts b sp (indentation_of from)))).0

out-told : (i from : Stacks) (b : Bool) (level : ℕ) → level ≡ indent_level false (indentation_of i) → Stands (when b decrease_top_level (indentation_of i)) from
    → level ≡ indent_level false (indentation_of from) + (i.nkinds - from.nkinds)
out-told i from b level e h = e ∙ (level-counts from i (rw h.is (untop_counts b (indentation_of i)))).1

pub by_level : (i from : Stacks) (b : Bool) (level : ℕ) → level ≡ indent_level false (indentation_of i) → Stands (when b decrease_top_level (indentation_of i)) from → i.nkinds - from.nkinds ≤ level
by_level i from b level e h = let o = out-told i from b level e h in omega arith

unfolded-within : (ts : List IndentType) → unfolded ts ≤ length ts
unfolding unfolded
unfolded-within [] = omega arith
unfolded-within (Top ∷ ts) = let h = unfolded-within ts in omega arith
unfolded-within (Block ∷ ts) = let h = unfolded-within ts in omega arith
unfolded-within (FoldedBlock ∷ ts) = let h = unfolded-within ts in omega arith

level-within : (i : Stacks) → Clean i → indent_level false (indentation_of i) ≤ 128
unfolding indentation_of indent_level
level-within i c =
    let w = c.kinds.within in
    let l = types_length i in
    let u = unfolded-within (types_of i) in
    omega arith

pub by_turned : (i : Stacks) (level : ℕ) (before after : Bool) (sp : SpanInfo) (n : ℕ) (from to noted : Stacks) (six : Bool) → level ≡ indent_level false (indentation_of i) → Stands (when before decrease_top_level (indentation_of i)) from
    → Stands (when after (increase_top_level sp) (indentation_of from)) to → Stands (set_previous_top_level n sp (indentation_of to)) noted → six ≡ full (indentation_of from).indent_types
    → Turned (indentation_of i) before after sp n (record { out = level - (i.nkinds - from.nkinds); six = six; into = (level - (i.nkinds - from.nkinds)) + (to.nkinds - from.nkinds); stacks = noted })
by_turned i level before after sp n from to noted six hl hf ht hn hs =
    let o = out-told i from before level hl hf in
    let p = (level-counts from to (rw ht.is (top-counts after sp (indentation_of from)))).1 in
    let low = level-within from hf.clean in
    let high = level-within to ht.clean in
    let out : level - (i.nkinds - from.nkinds) ≡ indent_level false (indentation_of from) = omega arith in
    let into : (level - (i.nkinds - from.nkinds)) + (to.nkinds - from.nkinds) ≡ indent_level false (indentation_of to) = omega arith in
    record { out = out ∙ rw hf.is; out_low = omega arith; six = hs ∙ rw hf.is; into = into ∙ rw (ht.is, hf.is); into_low = omega arith; stands = rw (← hf.is, ← ht.is) hn }

module _ (i : Indentation ℕ) (before after : Bool) (sp : SpanInfo) where
  out-words : (w : ℕ → List ℕ) → on_words w (out_of before i) ≡ when before decrease_top_level (on_words w i)
  out-words w = when-words decrease_top_level i w before decrease_top_level (untop_words w i)

  into-words : (w : ℕ → List ℕ) → on_words w (into_of before after sp i) ≡ when after (increase_top_level sp) (when before decrease_top_level (on_words w i))
  into-words w = when-words (increase_top_level sp) (out_of before i) w after (increase_top_level sp) (top-words w sp (out_of before i)) ∙ rw (out-words w)

  into-below : (k : ℕ) → Below k i → Below k (into_of before after sp i)
  into-below k b =
      let out : Below k (out_of before i) = when-below decrease_top_level i k before b (untop_below k i b) in
      when-below (increase_top_level sp) (out_of before i) k after out (top_below k (out_of before i) out sp)

-- ---- tests

pub by-create : (b create after : Bool) → create ≡ b → after ≡ true → not create ≡ (after && not b)
by-create b create after e h = rw (h, e)

pub number-few : (s : List ℕ) (x : Context) (i : ℕ) → Known s x → i < x.counts.tokens → i < 65535
number-few s x i known here = let f = known.sheeted.few.tokens in omega arith

-- ---- the handlers

module _ (s : List ℕ) (x : Context) (i : ℕ) (st : Code) (d : List ℕ) (ready : Ready s x i st d) (v : Value) (ev : v ≡ value_in s x i) (k : Case) (ek : k ≡ case_of s x.counts x.options.casing (word_of s x.base i)) (sp : SpanInfo) (t : CodeText) (r : Code) (q : List ℕ) where
  abbrev now : State
  now = state_of s x.base st d

  abbrev stacks : Indentation ℕ
  stacks = indentation_of st.indentation

  abbrev word : List ℕ
  word = written s x i ready.known v ev k ek

  -- from what the handler does with this span
  by_span : (f : Env → Here → SpanInfo → State → State) (before after : Bool) (l : Levels) (w : Text) → Turned stacks before after sp i l → Laid (length d) w t q → r ≡ with_indentation st t l.stacks
      → f (env_in s x (length d)) (here_in s x i) sp now ≡ halves.halves w (on_words (word_of s x.base) (set_previous_top_level i sp (into_of before after sp stacks))) now → Handled s x i (given f sp) st d r q
  by_span f before after l w told laid m e =
      rw m
      (by-halves s x i (given f sp) st d ready w (set_previous_top_level i sp (into_of before after sp stacks)) t l.stacks q laid told.stands
      (top-level-below (i + 1) (into_of before after sp stacks) (into-below stacks before after sp (i + 1) (below_up (omega arith) ready.steady.words)) i sp (omega arith)) e)

  -- what the handler reads of its levels, in the rules' words
  module _ (before after : Bool) (l : Levels) (told : Turned stacks before after sp i l) where
    abbrev out : Indentation (List ℕ)
    out = when before decrease_top_level (on_words (word_of s x.base) stacks)

    abbrev into : Indentation (List ℕ)
    into = when after (increase_top_level sp) out

    out-is : l.out ≡ indent_level false out
    out-is = told.out ∙ rw (level-words (word_of s x.base) (out_of before stacks), out-words stacks before after sp (word_of s x.base))

    six-is : l.six ≡ full out.indent_types
    six-is = told.six ∙ rw (full-words (word_of s x.base) (out_of before stacks), out-words stacks before after sp (word_of s x.base))

    into-is : l.into ≡ indent_level false into
    into-is = told.into ∙ rw (level-words (word_of s x.base) (into_of before after sp stacks), into-words stacks before after sp (word_of s x.base))

    noted_is : on_words (word_of s x.base) (set_previous_top_level i sp (into_of before after sp stacks)) ≡ set_previous_top_level (word_of s x.base i) sp into
    noted_is = rw (top-level-words, into-words stacks before after sp (word_of s x.base))

  pub by-top-level : (after : Bool) (l : Levels) → after ≡ (sp.newline_after && not (token_at s i).create) → Turned stacks sp.newline_before after sp i l
      → Laid (length d) (Query.top_level (length d) x.options sp.newline_before l.out word after l.six l.into (text_of st.text d)) t q → r ≡ with_indentation st t l.stacks
      → Handled s x i (given format_top_level_reserved_word sp) st d r q
  unfolding env_of state_of
  by-top-level after l ha told laid m =
      let b = sp.newline_before in
      by_span format_top_level_reserved_word b after l (Query.top_level (length d) x.options b l.out word after l.six l.into (text_of st.text d)) told laid m
      (rw (out-is b after l told, six-is b after l told, into-is b after l told, noted_is b after l told, word-is s x i ready.known v ev k ek (length d), ha, ready.known.options)
      (halves.top-level (env_in s x (length d)) (here_in s x i) now sp))

  pub by-no-indent : (l : Levels) → Turned stacks sp.newline_before false sp i l
      → Laid (length d) (Query.top_level (length d) x.options sp.newline_before l.out word sp.newline_after false l.into (text_of st.text d)) t q → r ≡ with_indentation st t l.stacks
      → Handled s x i (given format_top_level_reserved_word_no_indent sp) st d r q
  unfolding env_of state_of when
  by-no-indent l told laid m =
      let b = sp.newline_before in
      by_span format_top_level_reserved_word_no_indent b false l (Query.top_level (length d) x.options b l.out word sp.newline_after false l.into (text_of st.text d)) told laid m
      (rw (out-is b false l told, into-is b false l told, noted_is b false l told, word-is s x i ready.known v ev k ek (length d), ready.known.options)
      (halves.top-level-no-indent (env_in s x (length d)) (here_in s x i) now sp))

  pub by-newline-after : (last : Option SpanInfo) (n : ℕ) (before : Bool) (l : Levels) → n ≡ length (word_of s x.base i) → last ≡ previous_top_level_reserved stacks
      → before ≡ newline_before x.options.max_inline_top_level last n → Turned stacks before true sp i l
      → Laid (length d) (Query.newline_after (length d) x.options before l.out word l.six l.into (text_of st.text d)) t q → r ≡ with_indentation st t l.stacks
      → Handled s x i (given format_newline_after_reserved_word sp) st d r q
  unfolding env_of state_of when
  by-newline-after last n before l hn hl hb told laid m =
      by_span format_newline_after_reserved_word before true l (Query.newline_after (length d) x.options before l.out word l.six l.into (text_of st.text d)) told laid m
      (rw (out-is before true l told, six-is before true l told, into-is before true l told, noted_is before true l told, word-is s x i ready.known v ev k ek (length d), hb, hn, hl, ← last-top-level (word_of s x.base) stacks, ready.known.options)
      (halves.newline-after (env_in s x (length d)) (here_in s x i) now sp))
