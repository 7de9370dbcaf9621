-- What a state stands for, and what each step asks and gives.
use Rattle.std.specs.Prelude.{◌≡◌, List, ℕ, ◌+◌, ◌≤◌, ◌<◌, length}
use Rattle.rules.specs.Tokens.{Here}
use Rattle.rules.specs.Words.{body_at, token_at}
use Rattle.rules.specs.Sheet.{Env, env_of, options_of, token_of, here_at}
use Rattle.rules.specs.State.{State}
use Rattle.records.specs.Sheeted.{Sheeted}
use Rattle.indentation.specs.Of.{indentation_of, Clean}
use Rattle.indentation.specs.declared.Indentation.{Indentation as Stacks}
use Rattle.inline_block.specs.Of as block
use Rattle.query.specs.declared.Value.{Value}
use Rattle.text.specs.Held.{text_of, Held}
use Rattle.text.specs.declared.Text.{Text}
use Rattle.state.specs.declared.State.{State as Code}
use Rattle.state.specs.declared.Context.{Context}
use Rattle.state.specs.Words.{on_words}
use Rattle.state.specs.Below.{Below}

-- the value of token i, base being the offset of the first body byte
abbrev pub word_of : List ℕ → ℕ → ℕ → List ℕ
word_of s base i = (token_of s base i).value

-- the rules' state that the code's state and its buffer stand for; previous words are told by their tokens
unfoldable pub state_of : List ℕ → ℕ → Code → List ℕ → State
state_of s base st d =
    record {
      text = text_of st.text d;
      indentation = on_words (word_of s base) (indentation_of st.indentation);
      inline_block = block.inline_block_of st.inline_block;
      block_level = st.block_level;
      index = st.index;
    }

abbrev pub with_text : Code → Text → Code
with_text st t = record { text = t; indentation = st.indentation; inline_block = st.inline_block; block_level = st.block_level; index = st.index }

abbrev pub with_indentation : Code → Text → Stacks → Code
with_indentation st t i = record { text = t; indentation = i; inline_block = st.inline_block; block_level = st.block_level; index = st.index }

-- the context is that of the sheet
pub record Known (s : List ℕ) (x : Context) : Type 0 where
  pub sheeted : Sheeted s x.counts
  pub base : x.base ≡ body_at x.counts
  pub options : x.options ≡ options_of s

-- what every step keeps, k tokens being taken
pub record Steady (k : ℕ) (st : Code) (d : List ℕ) : Type 0 where
  pub held : Held st.text d
  pub stacks : Clean st.indentation
  pub words : Below k (indentation_of st.indentation)
  pub inlined : block.Clean st.inline_block
  pub level : st.block_level ≤ k
  pub index : st.index ≤ k

-- token i can be taken
pub record Ready (s : List ℕ) (x : Context) (i : ℕ) (st : Code) (d : List ℕ) : Type 0 where
  pub known : Known s x
  pub here : i < x.counts.tokens
  pub steady : Steady i st d

abbrev pub env_in : List ℕ → Context → ℕ → Env
env_in s x room = env_of s x.counts room

abbrev pub here_in : List ℕ → Context → ℕ → Here
here_in s x i = here_at s x.base x.counts.tokens i

-- a rule that is given what was read ahead
abbrev pub given : {A : Type 0} → (Env → Here → A → State → State) → A → Env → Here → State → State
given f a e h s = f e h a s

-- token i was taken by the rule f: from the state st and the buffer d to r and q
pub record Handled (s : List ℕ) (x : Context) (i : ℕ) (f : Env → Here → State → State) (st : Code) (d : List ℕ) (r : Code) (q : List ℕ) : Type 0 where
  pub room : length q ≡ length d
  pub steady : Steady (i + 1) r q
  pub state : state_of s x.base r q ≡ f (env_in s x (length d)) (here_in s x i) (state_of s x.base st d)

-- the value of token i: where it starts in the sheet, and its length
abbrev pub value_in : List ℕ → Context → ℕ → Value
value_in s x i = record { start = x.base + (token_at s i).value.start; len = (token_at s i).value.len }
