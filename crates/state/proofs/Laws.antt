-- From what a handler does to the text and to the stacks to what its rule says. Assumes nothing.
use mathlib.Core.Path.{◌≡◌, refl, sym}
use mathlib.Core.Bool.{Bool}
use mathlib.Core.List.{List}
use Prim.Native.Nat.{ℕ, ◌+◌, ◌≤◌, ◌<◌}
use native.Mathlib.Omega.{arith}
use lib.ListN.{length}
use Rattle.rules.specs.Text.{Text}
use Rattle.rules.specs.Tokens.{Here}
use Rattle.rules.specs.Sheet.{Env}
use Rattle.rules.specs.Sheet.{body_part}
use Rattle.rules.specs.Indentation.{Indentation, indent_level}
use Rattle.ascii.specs.Part.{part as bytes}
use Rattle.query.specs.declared.Value.{Value}
use Rattle.rules.specs.State.{State, on_text}
use Rattle.text.specs.Held.{text_of, Laid}
use Rattle.text.specs.declared.Text.{Text as CodeText}
use Rattle.indentation.specs.Of.{indentation_of, Stands}
use Rattle.indentation.specs.declared.Indentation.{Indentation as Stacks}
use Rattle.query.proofs.Halves.{halves}
use Rattle.tokens.specs.Placed.{Within}
use Rattle.around.specs.Readable.{Readable}
use Rattle.around.proofs.Readable.{sheeted-readable, readable_within}
use Rattle.state.specs.declared.State.{State as Code}
use Rattle.state.specs.declared.Context.{Context}
use Rattle.state.specs.Words.{on_words}
use Rattle.state.specs.Below.{Below}
use Rattle.state.proofs.Below.{below_up}
use Rattle.state.specs.Of.{value_in, word_of, state_of, with_text, with_indentation, Known, Ready, env_in, here_in, Handled}

module _ (s : List ℕ) (x : Context) (i : ℕ) (f : Env → Here → State → State) (st : Code) (d : List ℕ) (ready : Ready s x i st d) where
  abbrev ruled : State
  ruled = f (env_in s x (length d)) (here_in s x i) (state_of s x.base st d)

  -- a handler that changes the text alone
  pub by-text : (g : Text → Text) (t : CodeText) (q : List ℕ) → Laid (length d) (g (text_of st.text d)) t q → ruled ≡ on_text g (state_of s x.base st d)
      → Handled s x i f st d (with_text st t) q
  unfolding state_of on_text
  by-text g t q laid e =
      let k = ready.steady in
      let l = k.level in
      let m = k.index in
      record {
        room = laid.room;
        steady = record { held = laid.held; stacks = k.stacks; words = below_up (omega arith) k.words; inlined = k.inlined; level = omega arith; index = omega arith };
        state = rw laid.text (sym e);
      }

  -- a handler that changes the text and the stacks
  pub by-halves : (w : Text) (j : Indentation ℕ) (t : CodeText) (n : Stacks) (q : List ℕ) → Laid (length d) w t q → Stands j n → Below (i + 1) j → ruled ≡ halves w (on_words (word_of s x.base) j) (state_of s x.base st d)
      → Handled s x i f st d (with_indentation st t n) q
  unfolding state_of halves
  by-halves w j t n q laid stands below e =
      let k = ready.steady in
      let l = k.level in
      let m = k.index in
      record {
        room = laid.room;
        steady = record { held = laid.held; stacks = stands.clean; words = rw stands.is below; inlined = k.inlined; level = omega arith; index = omega arith };
        state = rw (laid.text, stands.is) (sym e);
      }

-- the value of token i stands in the sheet, and is the token's
pub value-inside : (s : List ℕ) (x : Context) (i : ℕ) (v : Value) → Known s x → i < x.counts.tokens → v ≡ value_in s x i → v.start + v.len ≤ length s
value-inside s x i v known here e =
    let w = (known.sheeted.tokens.within i here).value_in.inside in
    let b = known.base in
    rw e (omega arith)

pub value-is : (s : List ℕ) (x : Context) (i : ℕ) (v : Value) → v ≡ value_in s x i → bytes s v.start v.len ≡ word_of s x.base i
unfolding body_part
value-is s x i v e = rw e

-- a handler that changes the text alone, and reads the token's value
module _ (s : List ℕ) (x : Context) (i : ℕ) (f : Env → Here → State → State) (st : Code) (d : List ℕ) (ready : Ready s x i st d) where
  pub by_value : (g : List ℕ → Text → Text) (v : Value) (t : CodeText) (r : Code) (q : List ℕ) → v ≡ value_in s x i → Laid (length d) (g (bytes s v.start v.len) (text_of st.text d)) t q → r ≡ with_text st t
      → f (env_in s x (length d)) (here_in s x i) (state_of s x.base st d) ≡ on_text (g (word_of s x.base i)) (state_of s x.base st d) → Handled s x i f st d r q
  by_value g v t r q e laid m h = rw m (by-text s x i f st d ready (g (word_of s x.base i)) t q (rw (value-is s x i v e) at laid) h)

-- the level of a new line, as the code reads it
pub level_is : (s : List ℕ) (base : ℕ) (st : Code) (d : List ℕ) (b : Bool) → indent_level b (state_of s base st d).indentation ≡ indent_level b (indentation_of st.indentation)
unfolding state_of on_words indent_level
level_is s base st d b = refl

-- what the readers around a token ask, of a sheet in its context
pub known-readable : (s : List ℕ) (x : Context) → Known s x → Readable s x.base x.counts.tokens
known-readable s x known = rw known.base (sheeted-readable s x.counts known.sheeted)

pub known-within : (s : List ℕ) (x : Context) (i : ℕ) → Known s x → i < x.counts.tokens → Within s x.base i
known-within s x i known here = readable_within (known-readable s x known) here
