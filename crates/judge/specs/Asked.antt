-- What is asked of a token, and what is due of it.
use Rattle.std.specs.Prelude.{◌≡◌, List, ℕ}
use Rattle.rules.specs.declared.Token.{Token}
use Rattle.rules.specs.declared.Turn.{Turn}
use Rattle.rules.specs.declared.Counts.{Counts}
use Rattle.rules.specs.Text.{in_case}
use Rattle.rules.specs.Words.{body_at}
use Rattle.rules.specs.Sheet.{body_part, token_read, params_of, env_of}
use Rattle.rules.specs.Room.{counter_after}
use Rattle.rules.specs.Due.{Role, blank, comment, placeholder, reserved, other}
use Rattle.tokens.specs.Placed.{Inside}
use Rattle.foreign.specs.Walk.{shown_as}
use Rattle.judge.specs.declared.Form.{Form}
use Rattle.judge.specs.declared.Due.{Due}

abbrev pub form_of : Role → Form
form_of blank = Form.Nothing
form_of comment = Form.Own
form_of placeholder = Form.Filled
form_of reserved = Form.Cased
form_of other = Form.Own

-- r is what is due of it, taken so, i being the counter
pub record DueIn (s : List ℕ) (c : Counts) (u : Turn) (t : Token) (i : ℕ) (r : Due) : Type 0 where
  pub bytes : in_case r.casing (body_part s (body_at c) r.place) ≡ shown_as (env_of s c 0) i u (token_read s (body_at c) t)
  pub place_in : Inside s (body_at c) r.place
  pub counter : r.index ≡ counter_after (params_of s c) u (token_read s (body_at c) t) i
