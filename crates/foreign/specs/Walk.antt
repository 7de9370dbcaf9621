-- The same verdict a token at a time, in the rules' own turns and counter: what the code goes by (`walk_is` of proofs/Walk.antt).
use Rattle.std.specs.Prelude.{if◌then◌else◌, ◌&&◌, List, [], ◌∷◌, ℕ, suc, length, drop, Option, None, Some}
use Rattle.rules.specs.declared.Turn.{Turn}
use Rattle.rules.specs.declared.Turn.TheVariants as turn
use Rattle.rules.specs.Base.{same}
use Rattle.rules.specs.Tokens.{Token}
use Rattle.rules.specs.Sheet.{Env, QueryParams}
use Rattle.rules.specs.Params.{get, offends}
use Rattle.rules.specs.Switch.{Switch, turn_of, switch_after}
use Rattle.rules.specs.Rows.{lays_out}
use Rattle.rules.specs.Room.{counter_after}
use Rattle.rules.specs.Formatter.{format_reserved_word}
use Rattle.rules.specs.Due.{strip, Role, blank, comment, placeholder, reserved, other, role_of}
use Rattle.foreign.specs.declared.Verdict.{Verdict}
use Rattle.foreign.specs.Foreign.{begins}

-- refusal 5 from token i on
unfoldable pub barred_from : QueryParams → Switch → ℕ → List Token → Option ℕ
barred_from ps w i [] = None
barred_from ps w i (t ∷ ts) =
    let turn = turn_of w t.kind t.value in
    if lays_out turn t.kind && offends ps t.key then Some i
    else barred_from ps (switch_after turn w) (suc i) ts

module _ (e : Env) where
  -- what a token shows while on, i being the counter
  unfoldable pub shown_on : ℕ → Role → Token → List ℕ
  shown_on i blank t = []
  shown_on i comment t = t.value
  shown_on i placeholder t = get e.params t.key i t.value
  shown_on i reserved t = format_reserved_word e t.value
  shown_on i other t = t.value

  -- and as it is taken
  unfoldable pub shown_as : ℕ → Turn → Token → List ℕ
  shown_as i turn.Dropped t = []
  shown_as i (turn.Switches off) t = []
  shown_as i turn.LaidOut t = shown_on i (role_of t.kind) t
  shown_as i turn.Copied t = t.value

  -- from token n on: rest is what is left of the text, white bytes taken out
  unfoldable pub walk : Switch → ℕ → ℕ → List Token → List ℕ → Verdict
  walk w i n [] rest = if same [] rest then Verdict.Yes else Verdict.No n
  walk w i n (t ∷ ts) rest =
      let turn = turn_of w t.kind t.value in
      let v = strip (shown_as i turn t) in
      if begins v rest then walk (switch_after turn w) (counter_after e.params turn t i) (suc n) ts (drop (length v) rest)
      else Verdict.No n
