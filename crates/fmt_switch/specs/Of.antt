-- What the code's moves, rows and switch stand for.
use Rattle.std.specs.Prelude.{if◌then◌else◌, Bool, List, [], ◌∷◌, ℕ, suc, eqb, Option, None, Some}
use Rattle.std.specs.List.{prefix_len}
use Rattle.rules.specs.declared.TokenKind.{TokenKind}
use Rattle.rules.specs.declared.TokenKind.TheVariants as kind
use Rattle.rules.specs.Tokens.{one_of}
use Rattle.rules.specs.Switch.{stay, next, answer, OnLetters, Reading, in_state, done, Switch}
use Rattle.fmt_switch.specs.declared.Move.{Move}
use Rattle.fmt_switch.specs.declared.Move.TheVariants as move
use Rattle.fmt_switch.specs.declared.OnByte.{OnByte}
use Rattle.fmt_switch.specs.declared.Row.{Row}
use Rattle.fmt_switch.specs.declared.Switch.{Switch as Code}

-- an entry's letters, told once where both are the same
unfoldable pub letters_of : ℕ → ℕ → List ℕ
letters_of a b = if eqb a b then a ∷ [] else a ∷ b ∷ []

-- what a move says on these letters
unfoldable pub says_on : Move → List ℕ → OnLetters
says_on move.Stay l = record { letters = l; move = stay }
says_on move.Next l = record { letters = l; move = next }
says_on (move.Answer off) l = record { letters = l; move = answer off }

unfoldable pub entry_of : OnByte → OnLetters
entry_of e = says_on e.2 (letters_of e.0 e.1)

unfoldable pub entries_of : Option OnByte → List OnLetters
entries_of None = []
entries_of (Some e) = entry_of e ∷ []

-- the rules' row
unfoldable pub row_of : Row → List OnLetters
row_of r = entry_of r.0 ∷ entries_of r.1

-- a state after a move, or without one
unfoldable pub moved_as : ℕ → Option Move → Reading
moved_as state None = done None
moved_as state (Some move.Stay) = in_state state
moved_as state (Some move.Next) = in_state (suc state)
moved_as state (Some (move.Answer off)) = done (Some off)

-- how many bytes at the start are c
abbrev pub run_of : ℕ → List ℕ → ℕ
run_of c v = prefix_len (λ x. eqb x c) v

abbrev pub is_comment : TokenKind → Bool
is_comment k = one_of (kind.LineComment ∷ kind.BlockComment ∷ []) k

unfoldable pub switch_of : Code → Switch
switch_of w = record { enabled = w.enabled; drop_next = w.drop_next }
