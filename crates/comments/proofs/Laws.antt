-- Each handler's rule from what its calls gave. Assumes nothing.
use mathlib.Core.Path.{◌≡◌, sym, ◌∙◌}
use mathlib.Core.Bool.{Bool, true, false, not, ◌&&◌}
use mathlib.Core.List.{List}
use Prim.Native.Nat.{ℕ}
use lib.ListN.{length}
use borrow.Author.Tests.{not-true, not-false}
use Rattle.rules.specs.Sheet.{env_of}
use Rattle.rules.specs.State.{State}
use Rattle.rules.specs.Indentation.{indent_level}
use Rattle.rules.specs.Formatter.{after_line_feed, white_then_no_operator, two_after_comma, format_line_comment, format_type_specifier, format_block_comment}
use Rattle.ascii.specs.Part.{part as bytes}
use Rattle.text.specs.Held.{text_of, Laid}
use Rattle.text.specs.declared.Text.{Text as CodeText}
use Rattle.indentation.specs.Of.{indentation_of}
use Rattle.query.specs.Query
use Rattle.query.specs.declared.Value.{Value}
use Rattle.query.proofs.Halves as halves
use Rattle.state.specs.declared.State.{State as Code}
use Rattle.state.specs.declared.Context.{Context}
use Rattle.state.specs.Of.{value_in, state_of, with_text, Ready, env_in, here_in, Handled}
use Rattle.state.proofs.Laws.{by_value, level_is}

-- ---- a test that stops at its first half

pub by-neither : (a b f : Bool) → f ≡ a → not f ≡ true → false ≡ (a && b)
by-neither a b f e h = rw (← e, not-true f h)

pub by-other : (a b f : Bool) (r : Bool) → f ≡ a → not f ≡ false → r ≡ b → r ≡ (a && b)
by-other a b f r e h g = rw (← e, not-false f h, g)

-- ---- the handlers

module _ (s : List ℕ) (x : Context) (i : ℕ) (st : Code) (d : List ℕ) (ready : Ready s x i st d) (v : Value) (e : v ≡ value_in s x i) (t : CodeText) (r : Code) (q : List ℕ) where
  abbrev now : State
  now = state_of s x.base st d

  pub by-type-specifier : (b : Bool) → b ≡ halves.spaced_after (env_in s x (length d)) (here_in s x i) now
      → Laid (length d) (Query.type_specifier (length d) (bytes s v.start v.len) b (text_of st.text d)) t q → r ≡ with_text st t → Handled s x i format_type_specifier st d r q
  unfolding env_of
  by-type-specifier b h laid m =
      by_value s x i format_type_specifier st d ready (λ w. Query.type_specifier (length d) w b) v t r q e laid m
      (rw h (halves.type-specifier (env_in s x (length d)) (here_in s x i) now))

  module _ (level : ℕ) (l : level ≡ indent_level false (indentation_of st.indentation)) where
    level-now : level ≡ indent_level false now.indentation
    level-now = l ∙ sym (level_is s x.base st d false)

    pub by-line-comment : (breaks comma : Bool) → breaks ≡ (after_line_feed (here_in s x i) && white_then_no_operator (here_in s x i)) → comma ≡ two_after_comma (here_in s x i)
        → Laid (length d) (Query.line_comment (length d) x.options level breaks comma (bytes s v.start v.len) (text_of st.text d)) t q → r ≡ with_text st t → Handled s x i format_line_comment st d r q
    unfolding env_of
    by-line-comment breaks comma b k laid m =
        by_value s x i format_line_comment st d ready (λ w. Query.line_comment (length d) x.options level breaks comma w) v t r q e laid m
        (rw (ready.known.options, level-now, b, k) (halves.line-comment (env_in s x (length d)) (here_in s x i) now))

    pub by-block-comment : Laid (length d) (Query.block_comment (length d) x.options level (bytes s v.start v.len) (text_of st.text d)) t q → r ≡ with_text st t → Handled s x i format_block_comment st d r q
    unfolding env_of
    by-block-comment laid m =
        by_value s x i format_block_comment st d ready (λ w. Query.block_comment (length d) x.options level w) v t r q e laid m
        (rw (ready.known.options, level-now) (halves.block-comment (env_in s x (length d)) (here_in s x i) now))
