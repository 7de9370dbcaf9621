-- An opening bracket: its tests, and its rule from what its calls gave. Assumes nothing.
use Rattle.std.specs.Prelude.{is_some}
use Rattle.std.proofs.lemmas.Bool.{and_parts}
use mathlib.Core.Path.{◌≡◌, refl, sym, ◌∙◌}
use mathlib.Core.Bool.{Bool, true, false, not, ◌&&◌}
use mathlib.Core.List.{List}
use Prim.Native.Nat.{ℕ, ◌+◌, ◌≤◌, ◌<◌}
use native.Mathlib.Numerals.{add-one}
use native.Mathlib.Omega.{arith}
use borrow.Author.Tests.{not-true, leb-false}
use lib.ListN.{length}
use Rattle.rules.specs.declared.BlockInfo.{BlockInfo}
use Rattle.rules.specs.declared.Case.{Case}
use Rattle.rules.specs.declared.FormatOptions.{FormatOptions}
use Rattle.rules.specs.declared.TokenKind.TheVariants.{ReservedTopLevel}
use Rattle.rules.specs.Base.{holds, full}
use Rattle.rules.specs.Bytes.{bytes as text}
use Rattle.rules.specs.Sheet.{env_of}
use Rattle.rules.specs.Text.{Text, in_case, is_lower}
use Rattle.rules.specs.State.{State}
use Rattle.rules.specs.Indentation.{Indentation, indent_level, increase_block_level, previous_top_level_reserved}
use Rattle.rules.specs.InlineBlock.{is_active, is_inline_block, begins_inline, begin_if_possible}
use Rattle.rules.specs.Formatter.{kind_is, previous_non_whitespace_token, folds_in, cuts_before, blank_between, format_opening_parentheses}
use Rattle.stacks.proofs.StackLaws.{length-stack}
use Rattle.ascii.specs.Part.{part as bytes}
use Rattle.text.specs.Held.{text_of, Laid}
use Rattle.text.specs.declared.Text.{Text as CodeText}
use Rattle.indentation.specs.Of.{indentation_of, Stands}
use Rattle.indentation.specs.declared.Indentation.{Indentation as Stacks}
use Rattle.inline_block.specs.Of as block
use Rattle.inline_block.specs.declared.InlineBlock.{InlineBlock}
use Rattle.query.specs.declared.Value.{Value}
use Rattle.query.proofs.Halves as halves
use Rattle.query_brackets.specs.Opening.{opening}
use Rattle.query_brackets.specs.declared.Opening.{Opening}
use Rattle.state.specs.declared.State.{State as Code}
use Rattle.state.specs.declared.Context.{Context}
use Rattle.state.specs.Words.{on_words}
use Rattle.state.proofs.Words.{block_words, last-top-level, level-words}
use Rattle.state.proofs.Below.{below_up, block_below}
use Rattle.state.specs.Of.{value_in, word_of, state_of, Ready, env_in, here_in, Handled, given}
use Rattle.state.proofs.Laws.{value-is}
use Rattle.brackets.specs.Brackets.{case_in, bracket_in, folded_in, opening_in}
use Rattle.brackets.proofs.Laws.{said, bracket_is, by_whole}

-- ---- whether the block is inline

module _ (o : FormatOptions) (info : BlockInfo) (l : List ℕ) (a : Bool) (e : a ≡ is_active l) where
  pub by-active : a ≡ true → true ≡ begins_inline o info l
  unfolding begins_inline
  by-active h = rw (← e, h)

  pub by-fitting : (b : Bool) → a ≡ false → b ≡ is_inline_block o info → b ≡ begins_inline o info l
  unfolding begins_inline
  by-fitting b h g = rw (← e, h) g

-- ---- the text

pub by-opening-at : (s : List ℕ) (x : Context) (i : ℕ) (n : Indentation ℕ) (inlined folded : Bool) (level : ℕ) (v : Value) (six cuts between is_case : Bool)
    → v ≡ value_in s x i → six ≡ full n.indent_types → cuts ≡ cuts_before (here_in s x i) → between ≡ blank_between (here_in s x i) → is_case ≡ is_lower (bytes s v.start v.len) (text "case")
    → record { six = six; cuts = cuts; between = between; folded = folded; inlined = inlined; is_case = is_case; level = level } ≡ opening_in s x i n inlined folded level
by-opening-at s x i n inlined folded level v six cuts between is_case e a c d k = rw (a, c, d, k, value-is s x i v e)

pub by-push-opening : (s : List ℕ) (x : Context) (i : ℕ) (o : FormatOptions) (how : Opening) (v : Value) (k : Case) (w : Text) (cap : ℕ) (t : CodeText) (q : List ℕ)
    → v ≡ value_in s x i → k ≡ case_in s x i → Laid cap (opening cap o how (in_case k (bytes s v.start v.len)) w) t q → Laid cap (opening cap o how (bracket_in s x i) w) t q
by-push-opening s x i o how v k w cap t q e h laid = rw (said s x i v k e h) at laid

-- ---- the whole

module _ (s : List ℕ) (x : Context) (i : ℕ) (st : Code) (d : List ℕ) (ready : Ready s x i st d) where
  abbrev now : State
  now = state_of s x.base st d

  abbrev stacks : Indentation ℕ
  stacks = indentation_of st.indentation

  abbrev blocks : List ℕ
  blocks = block.inline_block_of st.inline_block

  abbrev name : ℕ → List ℕ
  name = word_of s x.base

  folded-is : (inlined : Bool) → folded_in s x i inlined stacks
      ≡ (not inlined && (is_some (env_in s x (length d)).options.max_inline_top_level && (holds (kind_is ReservedTopLevel) (previous_non_whitespace_token (here_in s x i)) && holds folds_in (previous_top_level_reserved now.indentation))))
  unfolding folded_in state_of env_of
  folded-is inlined = rw (ready.known.options, last-top-level)

  full_is : full now.indentation.indent_types ≡ full stacks.indent_types
  unfolding state_of on_words
  full_is = refl

  level_is : (folded : Bool) → indent_level false (increase_block_level folded (on_words name stacks)) ≡ indent_level false (increase_block_level folded stacks)
  level_is folded = rw (← block_words name folded stacks) (level-words name false (increase_block_level folded stacks))

  opening-rule : (info : BlockInfo) (inlined folded : Bool) (level : ℕ)
      → inlined ≡ begins_inline x.options info blocks
      → folded ≡ folded_in s x i inlined stacks
      → level ≡ indent_level false (increase_block_level folded stacks)
      → format_opening_parentheses (env_in s x (length d)) (here_in s x i) info now
      ≡ record {
        text = opening (length d) x.options (opening_in s x i stacks inlined folded level) (bracket_in s x i) (text_of st.text d);
        indentation = on_words name (increase_block_level folded stacks);
        inline_block = begin_if_possible (inlined && not (full stacks.indent_types)) info.length blocks;
        block_level = st.block_level + 1;
        index = st.index;
      }
  unfolding opening state_of env_of
  opening-rule info inlined folded level en ef el =
      rw (el, ← level_is folded, block_words name folded stacks, bracket_is s x (length d) i ready.known, ← full_is, add-one st.block_level, ef, folded-is inlined, en, ready.known.options)
      (halves.opening (env_in s x (length d)) (here_in s x i) now info)

  -- 6 is not given where a block begins, so the indent stack has room; and no more inline blocks are open than it has entries
  pub by-room : (inlined folded : Bool) (level : ℕ) (how : Opening) (begins : Bool) → length blocks ≤ length stacks.indent_types
      → how ≡ opening_in s x i stacks inlined folded level → begins ≡ (inlined && not how.six) → begins ≡ true → st.inline_block.level < 128
  unfolding block.inline_block_of full
  by-room inlined folded level how begins under eh eb more =
      let n = length-stack 0 st.inline_block.level st.inline_block.lengths in
      let six : how.six ≡ false = not-true how.six (and_parts inlined (not how.six) (sym eb ∙ more)).1 in
      let h = leb-false 128 (length stacks.indent_types) (rw eh at six) in
      omega arith

  pub by-opening : (info : BlockInfo) (inlined folded : Bool) (into : Stacks) (level : ℕ) (how : Opening) (begun : Bool) (t : CodeText) (l : InlineBlock) (q : List ℕ)
      → inlined ≡ begins_inline x.options info blocks
      → folded ≡ folded_in s x i inlined stacks
      → Stands (increase_block_level folded stacks) into
      → level ≡ indent_level false (increase_block_level folded stacks)
      → how ≡ opening_in s x i stacks inlined folded level
      → begun ≡ (inlined && not how.six)
      → Laid (length d) (opening (length d) x.options how (bracket_in s x i) (text_of st.text d)) t q
      → block.Stands (begin_if_possible begun info.length blocks) l
      → Handled s x i (given format_opening_parentheses info) st d (record { text = t; indentation = into; inline_block = l; block_level = st.block_level + 1; index = st.index }) q
  by-opening info inlined folded into level how begun t l q en ef stands el eh eb laid inline =
      let k = ready.steady.level in
      by_whole s x i (given format_opening_parentheses info) st d ready
      (opening (length d) x.options how (bracket_in s x i) (text_of st.text d))
      (increase_block_level folded stacks) (begin_if_possible begun info.length blocks) (st.block_level + 1) t into l q
      laid stands (block_below (i + 1) stacks (below_up (omega arith) ready.steady.words) folded) inline (omega arith)
      (rw (eb, eh) (opening-rule info inlined folded level en ef el))
