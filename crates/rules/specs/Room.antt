-- Wish 9: how long a buffer is always enough, token by token.
use Rattle.rules.specs.declared.Counts.{Counts}
use Rattle.rules.specs.declared.Offence.{Offence}
use Rattle.std.specs.Prelude.{if◌then◌else◌, ◌&&◌, List, [], ◌∷◌, ℕ, suc, ◌+◌, ◌*◌, length, Err, Ok, Result}
use Rattle.rules.specs.declared.TokenKind.TheVariants as kind
use Rattle.rules.specs.declared.Turn.{Turn}
use Rattle.rules.specs.declared.Turn.TheVariants as turn
use Rattle.rules.specs.declared.Indent.{Indent}
use Rattle.rules.specs.declared.Indent.TheVariants as indent
use Rattle.rules.specs.declared.FormatOptions.{FormatOptions}
use Rattle.rules.specs.declared.Outcome.{Outcome}
use Rattle.rules.specs.Bytes.{bytes}
use Rattle.rules.specs.Base.{same, when}
use Rattle.rules.specs.Tokens.{Token, is}
use Rattle.rules.specs.Checks.{checked, number_of, place_of}
use Rattle.rules.specs.Sheet.{QueryParams, options_of, params_of, tokens_of}
use Rattle.rules.specs.Text.{line_feeds}
use Rattle.rules.specs.Params.{get, advances}
use Rattle.rules.specs.Switch.{Switch, turn_of, switch_after, switched_on}
use Rattle.rules.specs.Answer.{is_withdrawn}
use Rattle.rules.specs.Rows.{lays_out}
use Rattle.rules.specs.Compacted.{refusal, outcome_of}

-- the wish's I: 128 times the indent width, a tab being 1
unfoldable pub full_indent : Indent → ℕ
full_indent (indent.Spaces n) = 128 * n
full_indent indent.Tabs = 128

-- a token laid out that shows v
unfoldable pub room_laid_out : FormatOptions → List ℕ → ℕ
room_laid_out o v =
    length v + (3 + 2 * full_indent o.indent)
    + (full_indent o.indent + 1) * line_feeds v
    + (if same v (bytes ";") then o.lines_between_queries else 0)

-- what a token shows, i being the counter: a placeholder its entry, if there is one
unfoldable pub shown_by : QueryParams → ℕ → Token → List ℕ
shown_by ps i t = if is t.kind kind.Placeholder then get ps t.key i t.value else t.value

-- one token, as it is taken; Whitespace is not kept while on
unfoldable pub room_of : FormatOptions → QueryParams → ℕ → Turn → Token → ℕ
room_of o ps i turn.Dropped t = 0
room_of o ps i (turn.Switches off) t = 0
room_of o ps i turn.LaidOut t = if is t.kind kind.Whitespace then 0 else room_laid_out o (shown_by ps i t)
room_of o ps i turn.Copied t = length t.value

-- the counter after it
unfoldable pub counter_after : QueryParams → Turn → Token → ℕ → ℕ
counter_after ps turn t i = when (lays_out turn t.kind && advances ps t.key) suc i

unfoldable pub room_from : FormatOptions → QueryParams → Switch → ℕ → List Token → ℕ
room_from o ps w i [] = 0
room_from o ps w i (t ∷ ts) =
    let turn = turn_of w t.kind t.value in
    room_of o ps i turn t + room_from o ps (switch_after turn w) (counter_after ps turn t i) ts

-- the sum
unfoldable pub room : FormatOptions → QueryParams → List Token → ℕ
room o ps ts = room_from o ps switched_on 0 ts

-- ---- the call

unfoldable pub room_as : List ℕ → Result Counts Offence → Outcome
room_as s (Ok c) = if is_withdrawn s then outcome_of (refusal 14 28) else record { refusal = 0; place = 0; length = room (options_of s) (params_of s c) (tokens_of s c) }
room_as s (Err o) = outcome_of (refusal (number_of o) (place_of o))

unfoldable pub room_for : List ℕ → Outcome
room_for s = room_as s (checked s)
