-- A closing bracket: its tests, and its rule from what its calls gave. Assumes nothing.
use mathlib.Core.Path.{◌≡◌, refl, ◌∙◌}
use mathlib.Core.Bool.{Bool, true, false, not}
use mathlib.Core.List.{List, [], ◌∷◌, tail}
use Prim.Native.Nat.{ℕ, ◌+◌, ◌-◌}
use native.Mathlib.Nat.{sub-zero}
use native.Mathlib.Omega.{arith}
use borrow.Author.Tests.{not-true, not-false, lt-ltb}
use lib.Dec.{eqb}
use lib.ListN.{length}
use Rattle.rules.specs.Base.{choose}
use Rattle.std.specs.Prelude.{if◌then◌else◌}
use Rattle.rules.specs.declared.Case.{Case}
use Rattle.rules.specs.declared.FormatOptions.{FormatOptions}
use Rattle.rules.specs.Bytes.{bytes as text}
use Rattle.rules.specs.Sheet.{env_of}
use Rattle.rules.specs.Text.{Text, in_case, is_lower, is_on}
use Rattle.rules.specs.State.{State}
use Rattle.rules.specs.Indentation.{Indentation, Closed, indent_level, decrease_block_level}
use Rattle.rules.specs.InlineBlock.{is_active}
use Rattle.rules.specs.Formatter.{format_closing_parentheses}
use Rattle.ascii.specs.Part.{part as bytes}
use Rattle.text.specs.Held.{text_of, Laid}
use Rattle.text.specs.declared.Text.{Text as CodeText}
use Rattle.indentation.specs.Of.{indentation_of, StandsClosed}
use Rattle.indentation.specs.declared.Closed.{Closed as CodeClosed}
use Rattle.inline_block.specs.Of as block
use Rattle.inline_block.specs.declared.InlineBlock.{InlineBlock}
use Rattle.query.specs.Query.{closing_inline, closing}
use Rattle.query.specs.declared.Value.{Value}
use Rattle.query.proofs.Halves as halves
use Rattle.state.specs.declared.State.{State as Code}
use Rattle.state.specs.declared.Context.{Context}
use Rattle.state.specs.Words.{on_words}
use Rattle.state.proofs.Words.{closed-words, level-words}
use Rattle.state.proofs.Below.{below_up, closed-below}
use Rattle.state.specs.Of.{value_in, word_of, state_of, Ready, env_in, here_in, Handled}
use Rattle.state.proofs.Laws.{value-is}
use Rattle.brackets.specs.Brackets.{case_in, bracket_in, ends_under, closing_of}
use Rattle.brackets.proofs.Laws.{said, lowered, bracket_is, by_whole}

-- ---- refusal 8

module _ (o : FormatOptions) (folded : Bool) (n : Indentation ℕ) where
  pub by-unfolded : not folded ≡ true → false ≡ ends_under o folded n
  unfolding ends_under
  by-unfolded h = rw (not-true folded h)

  pub by-inline-on : (on : Bool) → not folded ≡ false → on ≡ is_on o.inline → on ≡ true → false ≡ ends_under o folded n
  unfolding ends_under
  by-inline-on on h e t = rw (not-false folded h, ← e, t)

  pub by_level : (level : ℕ) (on : Bool) → not folded ≡ false → on ≡ is_on o.inline → on ≡ false → level ≡ indent_level false n → eqb level 0 ≡ ends_under o folded n
  unfolding ends_under indent_level
  by_level level on h e t l = rw (not-false folded h, ← e, t, l, sub-zero)

-- ---- the text

module _ (s : List ℕ) (x : Context) (i : ℕ) (o : FormatOptions) (active eight : Bool) (level : ℕ) (v : Value) (k : Case) (w : Text) (cap : ℕ) (t : CodeText) (q : List ℕ) (e : v ≡ value_in s x i) (h : k ≡ case_in s x i) where
  pub by-inline-close : (is_end : Bool) → active ≡ true → is_end ≡ is_lower (bytes s v.start v.len) (text "end") → Laid cap (closing_inline cap is_end (in_case k (bytes s v.start v.len)) w) t q
      → Laid cap (closing_of cap o active eight level (bracket_in s x i) w) t q
  unfolding closing_of choose
  by-inline-close is_end a b laid =
      let lower : is_end ≡ is_lower (bracket_in s x i) (text "end") = b ∙ rw (value-is s x i v e, lowered (case_in s x i) (word_of s x.base i)) in
      rw (a, ← lower, ← said s x i v k e h) laid

  pub by-close : active ≡ false → Laid cap (closing cap o eight level (in_case k (bytes s v.start v.len)) w) t q → Laid cap (closing_of cap o active eight level (bracket_in s x i) w) t q
  unfolding closing_of choose
  by-close a laid = rw (a, ← said s x i v k e h) laid

-- ---- a block closed under another name for each word

module _ {A B : Type 0} (f : A → B) where
  under-words : (o : FormatOptions) (b : Bool) (i : Indentation A) → ends_under o b (on_words f i) ≡ ends_under o b i
  unfolding on_words ends_under
  under-words o b i = refl

-- none open: none to end
ended : (l : List ℕ) → (if is_active l then tail l else l) ≡ tail l
unfolding is_active
ended [] = refl
ended (n ∷ l) = rw (lt-ltb 0 (length (n ∷ l)) (omega arith))

-- ---- the whole

module _ (s : List ℕ) (x : Context) (i : ℕ) (st : Code) (d : List ℕ) (ready : Ready s x i st d) where
  abbrev now : State
  now = state_of s x.base st d

  abbrev stacks : Indentation ℕ
  stacks = indentation_of st.indentation

  abbrev blocks : List ℕ
  blocks = block.inline_block_of st.inline_block

  abbrev shut : Closed ℕ
  shut = decrease_block_level stacks

  abbrev name : ℕ → List ℕ
  name = word_of s x.base

  closing-rule : (eight active : Bool) (level n : ℕ)
      → eight ≡ ends_under x.options shut.folded shut.left
      → level ≡ indent_level shut.folded shut.left
      → active ≡ is_active blocks
      → n ≡ st.block_level - 1
      → format_closing_parentheses (env_in s x (length d)) (here_in s x i) now
      ≡ record {
        text = closing_of (length d) x.options active eight level (bracket_in s x i) (text_of st.text d);
        indentation = on_words name shut.left;
        inline_block = tail blocks;
        block_level = n;
        index = st.index;
      }
  unfolding closing_of ends_under state_of env_of
  closing-rule eight active level n ee el ea en =
      let rule = halves.closing (env_in s x (length d)) (here_in s x i) now in
      rw (ee, ← under-words name x.options shut.folded shut.left, el, ← level-words name shut.folded shut.left, ea, en, bracket_is s x (length d) i ready.known, ready.known.options, ← ended blocks)
      (rw (← closed-words name stacks) at rule)

  pub by-closing : (closed : CodeClosed) (eight active : Bool) (level n : ℕ) (t : CodeText) (l : InlineBlock) (q : List ℕ)
      → StandsClosed shut closed
      → eight ≡ ends_under x.options closed.folded (indentation_of closed.left)
      → level ≡ indent_level closed.folded (indentation_of closed.left)
      → active ≡ is_active blocks
      → Laid (length d) (closing_of (length d) x.options active eight level (bracket_in s x i) (text_of st.text d)) t q
      → block.Stands (tail blocks) l
      → n ≡ st.block_level - 1
      → Handled s x i format_closing_parentheses st d (record { text = t; indentation = closed.left; inline_block = l; block_level = n; index = st.index }) q
  by-closing closed eight active level n t l q stands ee el ea laid inline en =
      let k = ready.steady.level in
      by_whole s x i format_closing_parentheses st d ready
      (closing_of (length d) x.options active eight level (bracket_in s x i) (text_of st.text d))
      shut.left (tail blocks) n t closed.left l q
      laid stands.left (closed-below (i + 1) stacks (below_up (omega arith) ready.steady.words)) inline (omega arith)
      (closing-rule eight active level n (ee ∙ rw (stands.folded, stands.left.is)) (el ∙ rw (stands.folded, stands.left.is)) ea en)
