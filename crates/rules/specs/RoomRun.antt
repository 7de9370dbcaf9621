-- Wish 9, for its reader: the working text along the run. The sum over the tokens taken so far is its bound.
use Rattle.std.specs.Prelude.{◌≡◌, List, [], ◌∷◌, ℕ, suc, get_or}
use Rattle.rules.specs.Tokens.{Token, Here}
use Rattle.rules.specs.Sheet.{Env}
use Rattle.rules.specs.Text.{Text, fits, refused}
use Rattle.rules.specs.Switch.{Switch, turn_of, switch_after, switched_on}
use Rattle.rules.specs.State.{State, start}
use Rattle.rules.specs.Answer.{Answer, unless_refused, finish, taken}

-- ---- between the tokens

-- the text after each token, in the way of format_from
unfoldable pub texts_from : Env → List Token → List Token → Switch → State → List Text
texts_from e before [] w s = []
texts_from e before (t ∷ after) w s =
    let turn = turn_of w t.kind t.value in
    let s' = taken turn e (record { before = before; token = t; after = after }) s in
    s'.text ∷ texts_from e (t ∷ before) after (switch_after turn w) s'

unfoldable pub texts : Env → List Token → List Text
texts e ts = texts_from e [] ts switched_on start

-- after the first n tokens
unfoldable pub text_after : Env → List Token → ℕ → Text
text_after e ts n = get_or (start.text ∷ texts e ts) n (fits 0 0 [])

-- the answer as it is read off them: the first refusal, at its token, or the last text; before them stands the text w, at a place
unfoldable pub answer_from : ℕ → Text → List Text → Answer
answer_from place w [] = finish place w
answer_from place w (u ∷ us) = unless_refused u place (answer_from (suc place) u us)

-- ---- within a token

-- not refused for want of room
abbrev pub NotNine : Text → Type 0
NotNine (fits k m b) = Unit {0}
NotNine (refused n) = n ≡ 9 → ⊥

-- another buffer
unfoldable pub with_room : ℕ → Env → Env
with_room m e = record { options = e.options; params = e.params; keep = e.keep; room = m }

-- each token of the run, tried in a buffer of m bytes: 9 exactly where the text would pass m bytes at some moment of it
unfoldable pub tries_from : ℕ → Env → List Token → List Token → Switch → State → List Text
tries_from m e before [] w s = []
tries_from m e before (t ∷ after) w s =
    let turn = turn_of w t.kind t.value in
    let here : Here = record { before = before; token = t; after = after } in
    (taken turn (with_room m e) here s).text ∷ tries_from m e (t ∷ before) after (switch_after turn w) (taken turn e here s)

-- token n, tried so
unfoldable pub tried_at : ℕ → Env → List Token → ℕ → Text
tried_at m e ts n = get_or (tries_from m e [] ts switched_on start) n (fits 0 0 [])
