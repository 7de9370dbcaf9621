-- Wish 2: where each placeholder that was laid out stands in the text, and the call that lists them.
use Rattle.rules.specs.declared.Offence.{Offence}
use Rattle.std.specs.Prelude.{if◌then◌else◌, Bool, false, List, [], ◌∷◌, ◌++◌, map, ℕ, suc, ◌+◌, ◌-◌, ◌*◌, ◌/◌, ◌%◌, ◌^◌, min, ltb, length, replicate, Option, None, Some, Err, Ok, Result}
use Rattle.rules.specs.declared.TokenKind.{TokenKind}
use Rattle.rules.specs.declared.TokenKind.TheVariants as kind
use Rattle.rules.specs.declared.Turn.{Turn}
use Rattle.rules.specs.declared.Turn.TheVariants as turn
use Rattle.rules.specs.declared.Counts.{Counts}
use Rattle.rules.specs.declared.Report.{Report}
use Rattle.rules.specs.Base.{◌▹◌, when}
use Rattle.rules.specs.Tokens.{Token, is}
use Rattle.rules.specs.Text.{is_white, trim_end, trimmed, low_of, bytes_in}
use Rattle.rules.specs.Checks.{checked}
use Rattle.rules.specs.Params.{source, get}
use Rattle.rules.specs.Sheet.{Env, env_of, tokens_of}
use Rattle.rules.specs.Switch.{Switch, turn_of, switch_after, switched_on}
use Rattle.rules.specs.State.{State, start}
use Rattle.rules.specs.Answer.{Answer, laid, refusal, taken, is_withdrawn, answer_as, report_of, buffer_of}

-- a placeholder's token and entry (none: its own value was shown), the bytes before it, and how many of its bytes are there
pub record Row : Type 0 where
  pub token : ℕ
  pub entry : Option ℕ
  pub start : ℕ
  pub len : ℕ

-- the row, from one place of the text to another
unfoldable pub between : ℕ → ℕ → Row → Row
between a b r = record { token = r.token; entry = r.entry; start = a; len = b - a }

-- the text is cut to n bytes
unfoldable pub clip : ℕ → Row → Row
clip n r = between (min n r.start) (min n (r.start + r.len)) r

-- n bytes go from the start of the text
unfoldable pub shift : ℕ → Row → Row
shift n r = between (r.start - n) (r.start + r.len - n) r

-- ---- the rows of a run, the last of them first

-- a placeholder that is laid out has a row
unfoldable pub lays_out : Turn → TokenKind → Bool
lays_out turn.Dropped k = false
lays_out (turn.Switches off) k = false
lays_out turn.LaidOut k = is k kind.Placeholder
lays_out turn.Copied k = false

-- what the placeholder t, token n, shows is put behind the text of s
unfoldable pub row_of : Env → ℕ → Token → State → Row
row_of e n t s =
    record {
      token = n;
      entry = source e.params t.key s.index;
      start = length (bytes_in s.text);
      len = length (get e.params t.key s.index t.value);
    }

-- token n was taken, from s to u: the rows are clipped to the least length on the way, and a placeholder's row is added
unfoldable pub rows_after : Env → ℕ → Token → Turn → State → State → List Row → List Row
rows_after e n t turn s u rs = map (clip (low_of u.text)) rs ▹ when (lays_out turn t.kind) (λ qs. row_of e n t s ∷ qs)

-- the trim at both ends of the text b
unfoldable pub trim_row : List ℕ → Row → Row
trim_row b r = r ▹ clip (length (trim_end is_white b)) ▹ shift (length (trim_end is_white b) - length (trimmed b))

unfoldable pub rows_from : Env → List Token → List Token → Switch → State → List Row → List Row
rows_from e before [] w s rs = map (trim_row (bytes_in s.text)) rs
rows_from e before (t ∷ after) w s rs =
    let turn = turn_of w t.kind t.value in
    let u = taken turn e (record { before = before; token = t; after = after }) s in
    rows_from e (t ∷ before) after (switch_after turn w) u (rows_after e (length before) t turn s u rs)

unfoldable pub rows : Env → List Token → List Row
rows e ts = rows_from e [] ts switched_on start []

-- how many there are to be: the switch alone decides
unfoldable pub placeholders_from : Switch → List Token → ℕ
placeholders_from w [] = 0
placeholders_from w (t ∷ ts) =
    let turn = turn_of w t.kind t.value in
    placeholders_from (switch_after turn w) ts ▹ when (lays_out turn t.kind) suc

unfoldable pub placeholders : List Token → ℕ
placeholders ts = placeholders_from switched_on ts

-- ---- in words

unfoldable pub entry_word : Option ℕ → ℕ
entry_word None = 4294967295
entry_word (Some n) = n

-- five words; the bytes before it are two of them, the low one first
unfoldable pub row_words : Row → List ℕ
row_words r = r.token ∷ entry_word r.entry ∷ r.start % 2 ^ 32 ∷ r.start / 2 ^ 32 ∷ r.len ∷ []

unfoldable pub rows_words : List Row → List ℕ
rows_words [] = []
rows_words (r ∷ rs) = rows_words rs ++ row_words r

-- ---- the call with a list of k words

-- the placeholders to be laid out: of a sheet that is withdrawn none
unfoldable pub to_lay_out : List ℕ → Counts → ℕ
to_lay_out s c = if is_withdrawn s then 0 else placeholders (tokens_of s c)

-- refusal 10: fewer than five words for each of them
unfoldable pub is_short : List ℕ → ℕ → Result Counts Offence → Bool
is_short s k (Ok c) = ltb k (5 * to_lay_out s c)
is_short s k (Err o) = false

unfoldable pub listed_as : List ℕ → ℕ → ℕ → Result Counts Offence → Answer
listed_as s room k c = if is_short s k c then refusal 10 0 else answer_as s room c

unfoldable pub listed : List ℕ → ℕ → ℕ → Answer
listed s room k = listed_as s room k (checked s)

unfoldable pub listed_report : List ℕ → ℕ → ℕ → Report
listed_report s room k = report_of (listed s room k)

unfoldable pub listed_buffer : List ℕ → ℕ → ℕ → List ℕ
listed_buffer s room k = buffer_of room (listed s room k)

-- the list afterwards: the rows and zero after them; all zero on a refusal
unfoldable pub list_for : ℕ → List Row → Answer → List ℕ
list_for k rs (laid b l w) = rows_words rs ++ replicate (k - length (rows_words rs)) 0
list_for k rs (refusal n p) = replicate k 0

unfoldable pub list_as : List ℕ → ℕ → ℕ → Result Counts Offence → List ℕ
list_as s room k (Ok c) = list_for k (rows (env_of s c room) (tokens_of s c)) (listed_as s room k (Ok c))
list_as s room k (Err o) = replicate k 0

unfoldable pub list_after : List ℕ → ℕ → ℕ → List ℕ
list_after s room k = list_as s room k (checked s)
