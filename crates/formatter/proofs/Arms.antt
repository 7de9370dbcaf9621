-- What each arm of the step gives, by the token's kind and by how it is taken. Assumes nothing.
use mathlib.Core.Path.{◌≡◌, refl, sym, ap, ◌∙◌}
use mathlib.Core.Bool.{Bool, true, false}
use mathlib.Core.List.{List, [], ◌∷◌}
use Prim.Native.Nat.{ℕ}
use lib.ListN.{length}
use native.Mathlib.Omega.{arith}
use types.Run.{OneOf, miss}
use denote.Enum.Declared as Declared
use Rattle.rules.specs.contracts.TokenKind as kinds
use Rattle.rules.specs.contracts.Turn as turns
use Rattle.rules.specs.declared.TokenKind.{TokenKind}
use Rattle.rules.specs.declared.TokenKind.TheVariants as kind
use Rattle.rules.specs.declared.Turn.{Turn}
use Rattle.rules.specs.declared.Turn.TheVariants as turn
use Rattle.rules.specs.Tokens.{Here}
use Rattle.rules.specs.Sheet.{Env, env_of}
use Rattle.rules.specs.State.{State}
use Rattle.rules.specs.Answer.{taken_as}
use Rattle.rules.specs.Formatter.{span_info, format_token, format_no_change, format_line_comment, format_block_comment, format_top_level_reserved_word, format_top_level_reserved_word_no_indent, format_newline_after_reserved_word, format_newline_reserved_word, format_reserved, format_opening_parentheses, format_closing_parentheses, format_placeholder, format_query_separator, format_type_specifier, format_by_value}
use Rattle.values.specs.On.{on_value, on_token, separates}
use Rattle.values.proofs.ByValue.{is-separator}
use Rattle.rules.specs.declared.SpanInfo.{SpanInfo}
use Rattle.rules.specs.declared.BlockInfo.{BlockInfo}
use Rattle.rules.specs.Span.{top_level_tokens_info}
use Rattle.rules.specs.InlineBlock.{build_info, cur_len}
use Rattle.table.specs.Facts.{SameFacts}
use Rattle.table.proofs.Facts.{opens-alike}
use Rattle.inline_block.specs.Of.{inline_block_of}
use Rattle.text.specs.declared.Text.{Text as CodeText}
use Rattle.state.specs.declared.State.{State as Code}
use Rattle.state.specs.declared.Context.{Context}
use Rattle.state.proofs.Below.{below_up}
use Rattle.state.specs.Of.{state_of, with_text, Ready, env_in, here_in, Handled, given}
use Rattle.formatter.specs.Run.{token_rule, changes_kind, changes_in, kind_in}

-- a bracket's block, from the bracket on
abbrev block_info : Here → BlockInfo
block_info h = build_info (h.token ∷ h.after)

pub false_true : {A : Type 0} → false ≡ true → A
false_true e = absurd (let z : ◌≡◌ {A = ℕ} 0 1 = cc in omega arith)

-- only a token that is laid out changes more than the text
laid_out : (t : Turn) (k : TokenKind) (separator : Bool) → changes_in t k separator ≡ true → t ≡ turn.LaidOut
unfolding changes_in
laid_out turn.Dropped k separator h = false_true h
laid_out (turn.Switches off) k separator h = false_true h
laid_out turn.LaidOut k separator h = refl
laid_out turn.Copied k separator h = false_true h

-- the kinds of an arm `_`
abbrev left_over : List ℕ
left_over = 2 ∷ 3 ∷ 4 ∷ 5 ∷ 6 ∷ 7 ∷ 8 ∷ 9 ∷ 10 ∷ 13 ∷ 14 ∷ 15 ∷ 16 ∷ []

abbrev pub other-kinds : List ℕ
other-kinds = 0 ∷ 1 ∷ 2 ∷ 8 ∷ 11 ∷ 12 ∷ 13 ∷ 15 ∷ 16 ∷ []

-- ---- which tokens change more than the text

abbrev changing : List ℕ
changing = 3 ∷ 4 ∷ 5 ∷ 6 ∷ 7 ∷ 9 ∷ 10 ∷ 14 ∷ []

pub always_changes : (k : TokenKind) (separator : Bool) → OneOf changing (Declared.tag_of kinds.the_type k) → true ≡ changes_kind k separator
unfolding changes_kind
always_changes kind.TypeSpecifier separator o = absurd (miss changing 0 tt o)
always_changes kind.Whitespace separator o = absurd (miss changing 1 tt o)
always_changes kind.String separator o = absurd (miss changing 2 tt o)
always_changes kind.Reserved separator o = refl
always_changes kind.ReservedTopLevel separator o = refl
always_changes kind.ReservedTopLevelNoIndent separator o = refl
always_changes kind.ReservedNewline separator o = refl
always_changes kind.ReservedNewlineAfter separator o = refl
always_changes kind.Operator separator o = absurd (miss changing 8 tt o)
always_changes kind.OpenParen separator o = refl
always_changes kind.CloseParen separator o = refl
always_changes kind.LineComment separator o = absurd (miss changing 11 tt o)
always_changes kind.BlockComment separator o = absurd (miss changing 12 tt o)
always_changes kind.Number separator o = absurd (miss changing 13 tt o)
always_changes kind.Placeholder separator o = refl
always_changes kind.Word separator o = absurd (miss changing 15 tt o)
always_changes kind.Join separator o = absurd (miss changing 16 tt o)

abbrev passing : List ℕ
passing = 0 ∷ 1 ∷ 3 ∷ []

pub never-changes : (t : Turn) (k : TokenKind) (separator : Bool) → OneOf passing (Declared.tag_of turns.the_type t) → false ≡ changes_in t k separator
unfolding changes_in
never-changes turn.Dropped k separator o = refl
never-changes (turn.Switches off) k separator o = refl
never-changes turn.LaidOut k separator o = absurd (miss passing 2 tt o)
never-changes turn.Copied k separator o = refl

pub unchanging : (t : Turn) (k : TokenKind) (separator : Bool) → t ≡ turn.LaidOut → changes_in t k separator ≡ false → changes_kind k separator ≡ false
unfolding changes_in
unchanging t k separator e h = rw e at h

pub no-separator : (k : TokenKind) (separator : Bool) → OneOf left_over (Declared.tag_of kinds.the_type k) → changes_kind k separator ≡ false → separator ≡ false
unfolding changes_kind
no-separator kind.TypeSpecifier separator o h = absurd (miss left_over 0 tt o)
no-separator kind.Whitespace separator o h = absurd (miss left_over 1 tt o)
no-separator kind.String separator o h = h
no-separator kind.Reserved separator o h = false_true (sym h)
no-separator kind.ReservedTopLevel separator o h = false_true (sym h)
no-separator kind.ReservedTopLevelNoIndent separator o h = false_true (sym h)
no-separator kind.ReservedNewline separator o h = false_true (sym h)
no-separator kind.ReservedNewlineAfter separator o h = false_true (sym h)
no-separator kind.Operator separator o h = h
no-separator kind.OpenParen separator o h = false_true (sym h)
no-separator kind.CloseParen separator o h = false_true (sym h)
no-separator kind.LineComment separator o h = absurd (miss left_over 11 tt o)
no-separator kind.BlockComment separator o h = absurd (miss left_over 12 tt o)
no-separator kind.Number separator o h = h
no-separator kind.Placeholder separator o h = false_true (sym h)
no-separator kind.Word separator o h = h
no-separator kind.Join separator o h = h

module _ (s : List ℕ) (x : Context) (i : ℕ) (st : Code) (d : List ℕ) (ready : Ready s x i st d) where
  same-state : (f : Env → Here → State → State) → ((e : Env) (h : Here) (u : State) → f e h u ≡ u) → Handled s x i f st d st d
  same-state f e =
      let k = ready.steady in
      let l = k.level in
      let m = k.index in
      record {
        room = refl;
        steady = record { held = k.held; stacks = k.stacks; words = below_up (omega arith) k.words; inlined = k.inlined; level = omega arith; index = omega arith };
        state = sym (e (env_in s x (length d)) (here_in s x i) (state_of s x.base st d));
      }

  -- ---- how a token is taken

  by-laid-out : (t : Turn) (r : Code) (q : List ℕ) → t ≡ turn.LaidOut → Handled s x i token_rule st d r q → Handled s x i (taken_as t) st d r q
  unfolding taken_as
  by-laid-out t r q e h = rw e (record { room = h.room; steady = h.steady; state = h.state })

  pub by-dropped : (t : Turn) (u : CodeText) → u ≡ st.text → t ≡ turn.Dropped → Handled s x i (taken_as t) st d (with_text st u) d
  unfolding taken_as
  by-dropped t u e q = rw (q, e) (same-state (taken_as turn.Dropped) (λ e h u. refl))

  pub by-switch : (t : Turn) (off : Bool) (u : CodeText) → u ≡ st.text → t ≡ turn.Switches off → Handled s x i (taken_as t) st d (with_text st u) d
  unfolding taken_as
  by-switch t off u e q = rw (q, e) (same-state (taken_as (turn.Switches off)) (λ e h u. refl))

  pub by-text-laid-out : (t : Turn) (u : CodeText) (q : List ℕ) → t ≡ turn.LaidOut → Handled s x i token_rule st d (with_text st u) q → Handled s x i (taken_as t) st d (with_text st u) q
  by-text-laid-out t u q = by-laid-out t (with_text st u) q

  pub by-copied : (t : Turn) (r : Code) (q : List ℕ) → t ≡ turn.Copied → Handled s x i format_no_change st d r q → Handled s x i (taken_as t) st d r q
  unfolding taken_as
  by-copied t r q e h = rw e (record { room = h.room; steady = h.steady; state = h.state })

  module _ (k : TokenKind) (told : k ≡ kind_in s x i) where
    -- the rule of the kind j is f
    by_kind : (j : TokenKind) (f : Env → Here → State → State) (r : Code) (q : List ℕ) → k ≡ j → ((e : Env) (h : Here) (u : State) → format_token e h j u ≡ f e h u) → Handled s x i f st d r q → Handled s x i token_rule st d r q
    by_kind j f r q e rule h =
        let env = env_in s x (length d) in
        let here = here_in s x i in
        let now = state_of s x.base st d in
        record {
          room = h.room;
          steady = h.steady;
          state = h.state ∙ sym (ap (λ (y : TokenKind). format_token env here y now) (sym told ∙ e) ∙ rule env here now);
        }

    -- the same for a rule that is given what was read ahead
    by-given : {A : Type 0} (j : TokenKind) (f : Env → Here → A → State → State) (read : Env → Here → State → A) (a : A) (r : Code) (q : List ℕ) → k ≡ j → ((e : Env) (h : Here) (u : State) → format_token e h j u ≡ f e h (read e h u) u)
        → a ≡ read (env_in s x (length d)) (here_in s x i) (state_of s x.base st d) → Handled s x i (given f a) st d r q → Handled s x i token_rule st d r q
    by-given {A} j f read a r q e rule ea h =
        by_kind j (λ v w u. f v w (read v w u) u) r q e rule
        (record { room = h.room; steady = h.steady; state = h.state ∙ ap (λ (y : A). f (env_in s x (length d)) (here_in s x i) y (state_of s x.base st d)) ea })

    -- ---- a token that changes the text alone

    pub by-white : (u : CodeText) → u ≡ st.text → k ≡ kind.Whitespace → Handled s x i token_rule st d (with_text st u) d
    unfolding format_token
    by-white u t e = rw t (by_kind kind.Whitespace (λ v h u. u) st d e (λ v h u. refl) (same-state (λ v h u. u) (λ v h u. refl)))

    module _ (r : Code) (q : List ℕ) where
      pub by-line-comment : k ≡ kind.LineComment → Handled s x i format_line_comment st d r q → Handled s x i token_rule st d r q
      unfolding format_token
      by-line-comment e = by_kind kind.LineComment format_line_comment r q e (λ v h u. refl)

      pub by-block-comment : k ≡ kind.BlockComment → Handled s x i format_block_comment st d r q → Handled s x i token_rule st d r q
      unfolding format_token
      by-block-comment e = by_kind kind.BlockComment format_block_comment r q e (λ v h u. refl)

      pub by-type-specifier : k ≡ kind.TypeSpecifier → Handled s x i format_type_specifier st d r q → Handled s x i token_rule st d r q
      unfolding format_token
      by-type-specifier e = by_kind kind.TypeSpecifier format_type_specifier r q e (λ v h u. refl)

      own : (j : TokenKind) → k ≡ j → ((e : Env) (h : Here) (u : State) → format_token e h j u ≡ on_value format_by_value e h u) → Handled s x i (on_value format_by_value) st d r q → Handled s x i token_rule st d r q
      own j e rule = by_kind j (on_value format_by_value) r q e rule

      -- the kinds that have no arm of their own go by their value, where only the text changes
      pub by-rest : OneOf left_over (Declared.tag_of kinds.the_type k) → changes_kind k (separates s x i) ≡ false → Handled s x i (on_value format_by_value) st d r q → Handled s x i token_rule st d r q
      unfolding format_token changes_kind
      by-rest = go k refl
        where
          go : (j : TokenKind) → k ≡ j → OneOf left_over (Declared.tag_of kinds.the_type j) → changes_kind j (separates s x i) ≡ false → Handled s x i (on_value format_by_value) st d r q → Handled s x i token_rule st d r q
          go kind.TypeSpecifier e o n h = absurd (miss left_over 0 tt o)
          go kind.Whitespace e o n h = absurd (miss left_over 1 tt o)
          go kind.String e o n h = own kind.String e (λ v w u. refl) h
          go kind.Reserved e o n h = false_true (sym n)
          go kind.ReservedTopLevel e o n h = false_true (sym n)
          go kind.ReservedTopLevelNoIndent e o n h = false_true (sym n)
          go kind.ReservedNewline e o n h = false_true (sym n)
          go kind.ReservedNewlineAfter e o n h = false_true (sym n)
          go kind.Operator e o n h = own kind.Operator e (λ v w u. refl) h
          go kind.OpenParen e o n h = false_true (sym n)
          go kind.CloseParen e o n h = false_true (sym n)
          go kind.LineComment e o n h = absurd (miss left_over 11 tt o)
          go kind.BlockComment e o n h = absurd (miss left_over 12 tt o)
          go kind.Number e o n h = own kind.Number e (λ v w u. refl) h
          go kind.Placeholder e o n h = false_true (sym n)
          go kind.Word e o n h = own kind.Word e (λ v w u. refl) h
          go kind.Join e o n h = own kind.Join e (λ v w u. refl) h

    -- ---- a token that changes more

    module _ (t : Turn) (b : Bool) (eb : b ≡ changes_in t k (separates s x i)) (more : b ≡ true) (r : Code) (q : List ℕ) where
      laid : Handled s x i token_rule st d r q → Handled s x i (taken_as t) st d r q
      laid = by-laid-out t r q (laid_out t k (separates s x i) (sym eb ∙ more))

      module _ (len : ℕ) (sp : SpanInfo) (el : len ≡ cur_len (inline_block_of st.inline_block)) (es : sp ≡ top_level_tokens_info x.options st.block_level len (here_in s x i).after) where
        span_is : sp ≡ span_info (env_in s x (length d)) (here_in s x i) (state_of s x.base st d)
        unfolding span_info env_of state_of
        span_is = es ∙ rw (el, ready.known.options)

        pub by-top-level : k ≡ kind.ReservedTopLevel → Handled s x i (given format_top_level_reserved_word sp) st d r q → Handled s x i (taken_as t) st d r q
        unfolding format_token
        by-top-level e h = laid (by-given kind.ReservedTopLevel format_top_level_reserved_word span_info sp r q e (λ v w u. refl) span_is h)

        pub by-no-indent : k ≡ kind.ReservedTopLevelNoIndent → Handled s x i (given format_top_level_reserved_word_no_indent sp) st d r q → Handled s x i (taken_as t) st d r q
        unfolding format_token
        by-no-indent e h = laid (by-given kind.ReservedTopLevelNoIndent format_top_level_reserved_word_no_indent span_info sp r q e (λ v w u. refl) span_is h)

        pub by-newline-after : k ≡ kind.ReservedNewlineAfter → Handled s x i (given format_newline_after_reserved_word sp) st d r q → Handled s x i (taken_as t) st d r q
        unfolding format_token
        by-newline-after e h = laid (by-given kind.ReservedNewlineAfter format_newline_after_reserved_word span_info sp r q e (λ v w u. refl) span_is h)

      pub by-newline : k ≡ kind.ReservedNewline → Handled s x i format_newline_reserved_word st d r q → Handled s x i (taken_as t) st d r q
      unfolding format_token
      by-newline e h = laid (by_kind kind.ReservedNewline format_newline_reserved_word r q e (λ v h u. refl) h)

      pub by-reserved : k ≡ kind.Reserved → Handled s x i format_reserved st d r q → Handled s x i (taken_as t) st d r q
      unfolding format_token
      by-reserved e h = laid (by_kind kind.Reserved format_reserved r q e (λ v h u. refl) h)

      pub by-opening : (info : BlockInfo) → SameFacts info (block_info (here_in s x i)) → k ≡ kind.OpenParen → Handled s x i (given format_opening_parentheses info) st d r q → Handled s x i (taken_as t) st d r q
      unfolding format_token
      by-opening info facts e h =
          laid
          (by_kind kind.OpenParen (λ v w u. format_opening_parentheses v w (block_info w) u) r q e (λ v w u. refl)
          (record { room = h.room; steady = h.steady; state = h.state ∙ opens-alike (env_in s x (length d)) (here_in s x i) info (block_info (here_in s x i)) (state_of s x.base st d) facts }))

      pub by-closing : k ≡ kind.CloseParen → Handled s x i format_closing_parentheses st d r q → Handled s x i (taken_as t) st d r q
      unfolding format_token
      by-closing e h = laid (by_kind kind.CloseParen format_closing_parentheses r q e (λ v h u. refl) h)

      pub by-placeholder : k ≡ kind.Placeholder → Handled s x i (on_token format_placeholder) st d r q → Handled s x i (taken_as t) st d r q
      unfolding format_token
      by-placeholder e h = laid (by_kind kind.Placeholder (on_token format_placeholder) r q e (λ v h u. refl) h)

      separated : (j : TokenKind) → k ≡ j → ((e : Env) (h : Here) (u : State) → format_token e h j u ≡ on_value format_by_value e h u) → separates s x i ≡ true → Handled s x i (on_value format_query_separator) st d r q → Handled s x i (taken_as t) st d r q
      separated j e rule z h = laid (by_kind j (on_value format_by_value) r q e rule (is-separator s x i st d r q z h))

      -- the kinds that go by their value, where it is a query separator
      pub by-separator : OneOf other-kinds (Declared.tag_of kinds.the_type k) → Handled s x i (on_value format_query_separator) st d r q → Handled s x i (taken_as t) st d r q
      unfolding format_token changes_in changes_kind
      by-separator o h = go k refl o (rw (laid_out t k (separates s x i) (sym eb ∙ more)) at (sym eb ∙ more))
        where
          go : (j : TokenKind) → k ≡ j → OneOf other-kinds (Declared.tag_of kinds.the_type j) → changes_kind k (separates s x i) ≡ true → Handled s x i (taken_as t) st d r q
          go kind.TypeSpecifier e o z = false_true (rw e at z)
          go kind.Whitespace e o z = false_true (rw e at z)
          go kind.String e o z = separated kind.String e (λ v w u. refl) (rw e at z) h
          go kind.Reserved e o z = absurd (miss other-kinds 3 tt o)
          go kind.ReservedTopLevel e o z = absurd (miss other-kinds 4 tt o)
          go kind.ReservedTopLevelNoIndent e o z = absurd (miss other-kinds 5 tt o)
          go kind.ReservedNewline e o z = absurd (miss other-kinds 6 tt o)
          go kind.ReservedNewlineAfter e o z = absurd (miss other-kinds 7 tt o)
          go kind.Operator e o z = separated kind.Operator e (λ v w u. refl) (rw e at z) h
          go kind.OpenParen e o z = absurd (miss other-kinds 9 tt o)
          go kind.CloseParen e o z = absurd (miss other-kinds 10 tt o)
          go kind.LineComment e o z = false_true (rw e at z)
          go kind.BlockComment e o z = false_true (rw e at z)
          go kind.Number e o z = separated kind.Number e (λ v w u. refl) (rw e at z) h
          go kind.Placeholder e o z = absurd (miss other-kinds 14 tt o)
          go kind.Word e o z = separated kind.Word e (λ v w u. refl) (rw e at z) h
          go kind.Join e o z = separated kind.Join e (λ v w u. refl) (rw e at z) h
