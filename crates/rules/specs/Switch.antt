-- formatter.rs, `check_fmt_off`: nine states against the bytes they move on; and how a token is taken.
use Rattle.std.specs.Prelude.{if◌then◌else◌, Bool, true, false, not, List, [], ◌∷◌, ℕ, suc, eqb, get_or, Option, None, Some}
use Prim.Native.String.{String}
use Rattle.rules.specs.declared.TokenKind.{TokenKind}
use Rattle.rules.specs.declared.TokenKind.TheVariants as kind
use Rattle.rules.specs.declared.Turn.{Turn}
use Rattle.rules.specs.declared.Turn.TheVariants as turn
use Rattle.rules.specs.Bytes.{bytes}
use Rattle.rules.specs.Base.{any_of, first}
use Rattle.rules.specs.Tokens.{one_of}

-- on a byte a state stays, goes on to the next, or answers that the comment switches off (true) or on
pub data Move : Type 0 where
  stay next : Move
  answer : Bool → Move

-- what a state does on any of these letters
pub record OnLetters : Type 0 where
  pub letters : List ℕ
  pub move : Move

infix 70 ◌↪◌
unfoldable pub ◌↪◌ : String → Move → OnLetters
◌↪◌ letters m = record { letters = bytes letters; move = m }

unfoldable pub fmt_table : List (List OnLetters)
fmt_table =
    ("-" ↪ next ∷ [])
    ∷ ("-" ↪ next ∷ [])
    ∷ (" " ↪ stay ∷ "fF" ↪ next ∷ [])
    ∷ ("mM" ↪ next ∷ [])
    ∷ ("tT" ↪ next ∷ [])
    ∷ (" " ↪ stay ∷ ":" ↪ next ∷ [])
    ∷ (" " ↪ stay ∷ "oO" ↪ next ∷ [])
    ∷ ("nN" ↪ answer false ∷ "fF" ↪ next ∷ [])
    ∷ ("fF" ↪ answer true ∷ [])
    ∷ []

-- in a state, or done: with an answer or without
pub data Reading : Type 0 where
  in_state : ℕ → Reading
  done : Option Bool → Reading

unfoldable pub moved_by : ℕ → Move → Reading
moved_by state stay = in_state state
moved_by state next = in_state (suc state)
moved_by state (answer off) = done (Some off)

-- a byte that the row has not ends the reading without an answer
unfoldable pub moved_to : ℕ → Option OnLetters → Reading
moved_to state None = done None
moved_to state (Some m) = moved_by state m.move

unfoldable pub moved : Reading → ℕ → Reading
moved (in_state n) c = moved_to n (first (λ m. any_of (eqb c) m.letters) (get_or fmt_table n []))
moved (done o) c = done o

unfoldable pub read_all : Reading → List ℕ → Reading
read_all r [] = r
read_all r (c ∷ cs) = read_all (moved r c) cs

unfoldable pub answered : Reading → Option Bool
answered (in_state n) = None
answered (done o) = o

unfoldable pub check_fmt_off : List ℕ → Option Bool
check_fmt_off v = answered (read_all (in_state 0) v)

-- ---- how a token is taken

-- `is_fmt_enabled` and `is_prev_token_fmt_switch`
pub record Switch : Type 0 where
  pub enabled : Bool
  pub drop_next : Bool

-- of a token of the kind k and the value v: only comments switch
unfoldable pub switch_in : TokenKind → List ℕ → Option Bool
switch_in k v = if one_of (kind.LineComment ∷ kind.BlockComment ∷ []) k then check_fmt_off v else None

unfoldable pub turn_by : Bool → Option Bool → Turn
turn_by enabled (Some off) = turn.Switches off
turn_by true None = turn.LaidOut
turn_by false None = turn.Copied

unfoldable pub turn_of : Switch → TokenKind → List ℕ → Turn
turn_of w k v = if w.drop_next then turn.Dropped else turn_by w.enabled (switch_in k v)

-- the switch after a token that was taken so
unfoldable pub switch_after : Turn → Switch → Switch
switch_after turn.Dropped w = record { enabled = w.enabled; drop_next = false }
switch_after (turn.Switches off) w = record { enabled = not off; drop_next = true }
switch_after turn.LaidOut w = w
switch_after turn.Copied w = w

unfoldable pub switched_on : Switch
switched_on = record { enabled = true; drop_next = false }
