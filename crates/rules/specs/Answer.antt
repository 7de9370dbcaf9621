-- The whole: from any bytes and any buffer length to the answer, and to the bytes that the buffer holds afterwards.
use Rattle.rules.specs.declared.Counts.{Counts}
use Rattle.rules.specs.declared.Offence.{Offence}
use Rattle.std.specs.Prelude.{if◌then◌else◌, Bool, List, [], ◌∷◌, ◌++◌, ℕ, ◌-◌, eqb, length, replicate, Err, Ok, Result}
use Rattle.rules.specs.declared.Turn.{Turn}
use Rattle.rules.specs.declared.Turn.TheVariants as turn
use Rattle.rules.specs.declared.Report.{Report}
use Rattle.rules.specs.Tokens.{Token, Here}
use Rattle.rules.specs.Text.{Text, fits, refused, mark, bytes_in, trimmed, lines, width}
use Rattle.rules.specs.Words.{word_at}
use Rattle.rules.specs.Checks.{checked, number_of, place_of}
use Rattle.rules.specs.Sheet.{Env, env_of, tokens_of}
use Rattle.rules.specs.Switch.{Switch, turn_of, switch_after, switched_on}
use Rattle.rules.specs.State.{State, start, on_text}
use Rattle.rules.specs.Formatter.{format_token, format_no_change}

-- a text with its lines and its width; or a refusal's number and place
pub data Answer : Type 0 where
  laid : List ℕ → ℕ → ℕ → Answer
  refusal : ℕ → ℕ → Answer

-- ---- the run over the tokens

unfoldable pub taken_as : Turn → Env → Here → State → State
taken_as turn.Dropped e h s = s
taken_as (turn.Switches off) e h s = s
taken_as turn.LaidOut e h s = format_token e h h.token.kind s
taken_as turn.Copied e h s = format_no_change e h s

unfoldable pub report : List ℕ → Answer
report b = laid b (lines b) (width b)

-- the answer of a working text: a refusal, given at a place; else what follows
unfoldable pub unless_refused : Text → ℕ → Answer → Answer
unless_refused (fits k m b) place later = later
unless_refused (refused n) place later = refusal n place

-- the run stands at a place with a text that is done
unfoldable pub finish : ℕ → Text → Answer
finish place w = unless_refused w place (report (trimmed (bytes_in w)))

-- a token is taken; how low the text was cut is asked from here on
unfoldable pub taken : Turn → Env → Here → State → State
taken turn e h s = taken_as turn e h (on_text mark s)

-- before: the tokens that were taken, the last of them first
unfoldable pub format_from : Env → List Token → List Token → Switch → State → Answer
format_from e before [] w s = finish (length before) s.text
format_from e before (t ∷ after) w s =
    let turn = turn_of w t.kind t.value in
    let s' = taken turn e (record { before = before; token = t; after = after }) s in
    let rest = format_from e (t ∷ before) after (switch_after turn w) s' in
    unless_refused s'.text (length before) rest

unfoldable pub format : Env → List Token → Answer
format e ts = format_from e [] ts switched_on start

-- ---- the answer

-- word 7 at 1 is withdrawn: no layout call takes such a sheet
unfoldable pub is_withdrawn : List ℕ → Bool
is_withdrawn s = eqb (word_at s 28) 1

-- refusal 14 comes after 4 and before all others
unfoldable pub answer_as : List ℕ → ℕ → Result Counts Offence → Answer
answer_as s room (Ok c) = if is_withdrawn s then refusal 14 28 else format (env_of s c room) (tokens_of s c)
answer_as s room (Err o) = refusal (number_of o) (place_of o)

unfoldable pub answer : List ℕ → ℕ → Answer
answer s room = answer_as s room (checked s)

-- the answer in numbers
unfoldable pub report_of : Answer → Report
report_of (laid b l w) = record { refusal = 0; place = 0; length = length b; lines = l; width = w }
report_of (refusal n p) = record { refusal = n; place = p; length = 0; lines = 0; width = 0 }

-- a buffer of room bytes afterwards: the text and zero after it; all zero on a refusal
unfoldable pub buffer_of : ℕ → Answer → List ℕ
buffer_of room (laid b l w) = b ++ replicate (room - length b) 0
buffer_of room (refusal n p) = replicate room 0

unfoldable pub reported : List ℕ → ℕ → Report
reported s room = report_of (answer s room)

unfoldable pub buffer_after : List ℕ → ℕ → List ℕ
buffer_after s room = buffer_of room (answer s room)
