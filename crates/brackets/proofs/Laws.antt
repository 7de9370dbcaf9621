-- What both brackets stand on: the sheet's readers, the bracket's value in its case, and a state that is made anew. Assumes nothing.
use mathlib.Core.Path.{◌≡◌, refl, sym}
use mathlib.Core.Bool.{Bool, true, false, ◌&&◌}
use mathlib.Core.List.{List, [], ◌∷◌}
use Prim.Native.Nat.{ℕ, ◌+◌, ◌-◌, ◌≤◌}
use native.Mathlib.Omega.{arith}
use borrow.Author.Tests.{leb-true, le-leb, lt-leb}
use lib.Dec.{leb}
use lib.ListN.{length}
use Rattle.rules.specs.declared.Case.{Case}
use Rattle.rules.specs.declared.Case.TheVariants as case
use Rattle.std.specs.Prelude.{if◌then◌else◌}
use Rattle.rules.specs.Sheet.{Env}
use Rattle.rules.specs.Tokens.{Here}
use Rattle.rules.specs.Text.{Text, to_upper, to_lower, byte_in_case, in_case}
use Rattle.rules.specs.State.{State}
use Rattle.rules.specs.Indentation.{Indentation}
use Rattle.rules.specs.Formatter.{format_reserved_word}
use Rattle.ascii.specs.Part.{part as bytes}
use Rattle.keeps.proofs.CaseOf.{rules-case}
use Rattle.text.specs.Held.{Laid}
use Rattle.text.specs.declared.Text.{Text as CodeText}
use Rattle.indentation.specs.Of.{Stands}
use Rattle.indentation.specs.declared.Indentation.{Indentation as Stacks}
use Rattle.inline_block.specs.Of as block
use Rattle.inline_block.specs.declared.InlineBlock.{InlineBlock}
use Rattle.query.specs.declared.Value.{Value}
use Rattle.state.specs.declared.State.{State as Code}
use Rattle.state.specs.declared.Context.{Context}
use Rattle.state.specs.Words.{on_words}
use Rattle.state.specs.Below.{Below}
use Rattle.state.specs.Of.{value_in, word_of, state_of, Known, Ready, env_in, here_in, Handled}
use Rattle.state.proofs.Laws.{value-is}
use Rattle.brackets.specs.Brackets.{case_in, bracket_in}

-- the bracket in its case, as the code says it and as the rule does
pub said : (s : List ℕ) (x : Context) (i : ℕ) (v : Value) (k : Case) → v ≡ value_in s x i → k ≡ case_in s x i → in_case k (bytes s v.start v.len) ≡ bracket_in s x i
said s x i v k e h = rw (value-is s x i v e, h)

pub bracket_is : (s : List ℕ) (x : Context) (room i : ℕ) → Known s x → bracket_in s x i ≡ format_reserved_word (env_in s x room) (word_of s x.base i)
unfolding format_reserved_word
bracket_is s x room i known =
    let e : case_in s x i ≡ _ = rules-case s x.counts room x.options.casing (case_in s x i) (word_of s x.base i) (rw known.options) refl in
    rw e

-- ---- a word in any case, in small letters

upper-lowered : (c : ℕ) → to_lower (to_upper c) ≡ to_lower c
upper-lowered c = go (leb 97 c) (leb c 122) refl refl
  where
    go : (a b : Bool) → leb 97 c ≡ a → leb c 122 ≡ b → to_lower (if a && b then c - 32 else c) ≡ to_lower c
    go true true p q =
        let l = leb-true 97 c p in
        let m = leb-true c 122 q in
        rw (le-leb 65 (c - 32) (omega arith), le-leb (c - 32) 90 (omega arith), le-leb 65 c (omega arith), lt-leb c 90 (omega arith)) (omega arith)
    go true false p q = refl
    go false b p q = refl

lower-lowered : (c : ℕ) → to_lower (to_lower c) ≡ to_lower c
lower-lowered c = go (leb 65 c) (leb c 90) refl refl
  where
    go : (a b : Bool) → leb 65 c ≡ a → leb c 90 ≡ b → to_lower (if a && b then c + 32 else c) ≡ (if a && b then c + 32 else c)
    go true true p q =
        let l = leb-true 65 c p in
        rw (le-leb 65 (c + 32) (omega arith), lt-leb (c + 32) 90 (omega arith))
    go true false p q = rw (p, q)
    go false b p q = rw p

byte-lowered : (k : Case) (c : ℕ) → to_lower (byte_in_case k c) ≡ to_lower c
byte-lowered case.AsIs c = refl
byte-lowered case.Upper c = upper-lowered c
byte-lowered case.Lower c = lower-lowered c

pub lowered : (k : Case) (v : List ℕ) → in_case case.Lower (in_case k v) ≡ in_case case.Lower v
lowered k [] = refl
lowered k (c ∷ v) = rw (byte-lowered k c, lowered k v)

-- ---- the stacks under another name for each word

-- ---- a state that is made anew

module _ (s : List ℕ) (x : Context) (i : ℕ) (f : Env → Here → State → State) (st : Code) (d : List ℕ) (ready : Ready s x i st d) where
  pub by_whole : (w : Text) (j : Indentation ℕ) (b : List ℕ) (n : ℕ) (t : CodeText) (m : Stacks) (l : InlineBlock) (q : List ℕ)
      → Laid (length d) w t q → Stands j m → Below (i + 1) j → block.Stands b l → n ≤ i + 1
      → f (env_in s x (length d)) (here_in s x i) (state_of s x.base st d)
      ≡ record { text = w; indentation = on_words (word_of s x.base) j; inline_block = b; block_level = n; index = st.index }
      → Handled s x i f st d (record { text = t; indentation = m; inline_block = l; block_level = n; index = st.index }) q
  unfolding state_of
  by_whole w j b n t m l q laid stands below inlined level e =
      let k = ready.steady.index in
      record {
        room = laid.room;
        steady = record { held = laid.held; stacks = stands.clean; words = rw stands.is below; inlined = inlined.clean; level = level; index = omega arith };
        state = rw (laid.text, stands.is, inlined.is) (sym e);
      }
