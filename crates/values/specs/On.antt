-- What a handler reads of its token, and what a placeholder makes of the state.
use Rattle.std.specs.Prelude.{◌≡◌, Bool, List, ℕ, ◌+◌, ◌<◌, length, Some}
use Rattle.rules.specs.declared.Place.{Place}
use Rattle.rules.specs.Base.{same}
use Rattle.rules.specs.Bytes.{bytes}
use Rattle.rules.specs.Tokens.{Token, Here}
use Rattle.rules.specs.Sheet.{Env, token_of}
use Rattle.rules.specs.State.{State}
use Rattle.query.specs.declared.Value.{Value}
use Rattle.text.specs.declared.Text.{Text}
use Rattle.state.specs.declared.State.{State as Code}
use Rattle.state.specs.declared.Context.{Context}
use Rattle.state.specs.Of.{word_of, state_of, env_in}
use Rattle.rules.specs.Rows.{Row, row_of, entry_word}

-- a handler that reads the token's value alone
abbrev pub on_value : (Env → List ℕ → State → State) → Env → Here → State → State
on_value f e h s = f e h.token.value s

-- a handler that reads the token alone
abbrev pub on_token : (Env → Token → State → State) → Env → Here → State → State
on_token f e h s = f e h.token s

-- a place of the bodies, base being the offset of the first body byte
abbrev pub placed : ℕ → Place → Value
placed base p = record { start = base + p.start; len = p.len }

-- the rules' row of token i
abbrev pub row_at : List ℕ → Context → ℕ → Code → List ℕ → Row
row_at s x i st d = row_of (env_in s x (length d)) i (token_of s x.base i) (state_of s x.base st d)

abbrev pub with_index : Code → Text → ℕ → Code
with_index st t n = record { text = t; indentation = st.indentation; inline_block = st.inline_block; block_level = st.block_level; index = n }

-- the word of the entry and the length of the row that the rules give token i, a placeholder; no entry has the word for none
pub record RowIn (s : List ℕ) (x : Context) (i : ℕ) (st : Code) (d : List ℕ) (w n : ℕ) : Type 0 where
  pub entry : w ≡ entry_word (row_at s x i st d).entry
  pub len : n ≡ (row_at s x i st d).len
  pub few : (k : ℕ) → (row_at s x i st d).entry ≡ Some k → k < 4294967295

-- the token is a query separator
abbrev pub separates : List ℕ → Context → ℕ → Bool
separates s x i = same (word_of s x.base i) (bytes ";")
