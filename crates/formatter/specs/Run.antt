-- What the steps of the run say, and the answer of a sheet in its context.
use Rattle.std.specs.Prelude.{if◌then◌else◌, ◌≡◌, List, ℕ, length, replicate, Bool, true, false}
use Rattle.rules.specs.declared.TokenKind.{TokenKind}
use Rattle.rules.specs.Tokens.{Here}
use Rattle.rules.specs.Sheet.{Env, token_of, tokens_of}
use Rattle.rules.specs.Switch.{switch_after}
use Rattle.rules.specs.State.{State, start}
use Rattle.rules.specs.Formatter.{format_token}
use Rattle.rules.specs.Answer.{Answer, taken_as, format}
use Rattle.rules.specs.Rows.{rows, list_for}
use Rattle.fmt_switch.specs.Of.{switch_of}
use Rattle.state.specs.declared.Context.{Context}
use Rattle.text.specs.Held.{marked}
use Rattle.around.specs.Run.{turn_at}
use Rattle.state.specs.Of.{state_of, Steady, with_text, env_in, Handled}
use Rattle.fmt_switch.specs.declared.Switch.{Switch as CodeSwitch}
use Rattle.state.specs.declared.State.{State as Code}
use Rattle.rules.specs.declared.Turn.{Turn}
use Rattle.rules.specs.declared.Turn.TheVariants as turn
use Rattle.rules.specs.declared.TokenKind.TheVariants as kind

-- a token is laid out by its kind
abbrev pub token_rule : Env → Here → State → State
token_rule e h s = format_token e h h.token.kind s

abbrev pub kind_in : List ℕ → Context → ℕ → TokenKind
kind_in s x i = (token_of s x.base i).kind

-- a token of this kind changes more of the state than the text, separator being whether it is `;`
unfoldable pub changes_kind : TokenKind → Bool → Bool
changes_kind kind.TypeSpecifier separator = false
changes_kind kind.Whitespace separator = false
changes_kind kind.String separator = separator
changes_kind kind.Reserved separator = true
changes_kind kind.ReservedTopLevel separator = true
changes_kind kind.ReservedTopLevelNoIndent separator = true
changes_kind kind.ReservedNewline separator = true
changes_kind kind.ReservedNewlineAfter separator = true
changes_kind kind.Operator separator = separator
changes_kind kind.OpenParen separator = true
changes_kind kind.CloseParen separator = true
changes_kind kind.LineComment separator = false
changes_kind kind.BlockComment separator = false
changes_kind kind.Number separator = separator
changes_kind kind.Placeholder separator = true
changes_kind kind.Word separator = separator
changes_kind kind.Join separator = separator

unfoldable pub changes_in : Turn → TokenKind → Bool → Bool
changes_in turn.Dropped k separator = false
changes_in (turn.Switches off) k separator = false
changes_in turn.LaidOut k separator = changes_kind k separator
changes_in turn.Copied k separator = false

-- the answer of a sheet whose context is x, in a buffer of room bytes
abbrev pub answer_in : List ℕ → Context → ℕ → Answer
answer_in s x room = format (env_in s x room) (tokens_of s x.counts)

-- the list of k words: with rows, those of the answer; without, zero
abbrev pub list_in : List ℕ → Context → ℕ → Bool → ℕ → List ℕ
list_in s x room b k = if b then list_for k (rows (env_in s x room) (tokens_of s x.counts)) (answer_in s x room) else replicate k 0

-- the first state, in a buffer of cap bytes
pub record Begun (r : Code) (cap : ℕ) (q : List ℕ) : Type 0 where
  pub room : length q ≡ cap
  pub fine : r.text.fault ≡ 0
  pub steady : Steady 0 r q
  pub state : (s : List ℕ) (base : ℕ) → state_of s base r q ≡ start

-- token i is taken as the switch says: from the state st, whose text is marked, the switch w and the buffer d to r, v and q
pub record Stepped (s : List ℕ) (x : Context) (i : ℕ) (st : Code) (w : CodeSwitch) (d : List ℕ) (r : Code) (v : CodeSwitch) (q : List ℕ) : Type 0 where
  pub taken : Handled s x i (taken_as (turn_at s x.base i (switch_of w))) (with_text st (marked st.text)) d r q
  pub switch : switch_of v ≡ switch_after (turn_at s x.base i (switch_of w)) (switch_of w)
