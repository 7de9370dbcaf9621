-- Wish 13: a text from another formatter, held against what demand 3 requires of a sheet. What is due of tokens is `due`, here of the first i of them:
-- a token that isn't kept adds nothing to it.
use Rattle.rules.specs.declared.Counts.{Counts}
use Rattle.rules.specs.declared.Offence.{Offence}
use Rattle.std.specs.Prelude.{if◌then◌else◌, Bool, true, false, not, ◌&&◌, List, [], ◌∷◌, ℕ, zero, suc, eqb, leb, length, take, Option, None, Some, Err, Ok, Result}
use Rattle.rules.specs.declared.Case.{Case}
use Rattle.rules.specs.Base.{same, any_of, find}
use Rattle.rules.specs.Tokens.{Token}
use Rattle.rules.specs.Checks as checks
use Rattle.rules.specs.Checks.{checked}
use Rattle.rules.specs.Sheet.{QueryParams, options_of, params_of, keeps_of, tokens_of}
use Rattle.rules.specs.Params.{offends}
use Rattle.rules.specs.Due.{strip, Piece, own, cased, filled, kept_tokens, due}
use Rattle.foreign.specs.declared.Verdict.{Verdict}
use Rattle.foreign.specs.declared.Refusal.{Refusal}
use Rattle.foreign.specs.declared.Judged.{Judged}

-- text begins with v
unfoldable pub begins : List ℕ → List ℕ → Bool
begins [] text = true
begins (x ∷ v) [] = false
begins (x ∷ v) (y ∷ text) = eqb x y && begins v text

-- of k numbers from i on the first with p
unfoldable pub first_from : (ℕ → Bool) → ℕ → ℕ → Option ℕ
first_from p i zero = None
first_from p i (suc k) = if p i then Some i else first_from p (suc i) k

-- ---- refusal 5

-- of a kept token: a placeholder laid out whose number counts from one and is nought
unfoldable pub barred : QueryParams → Piece → Bool
barred ps (own v) = false
barred ps (cased v) = false
barred ps (filled key v) = offends ps key

-- there is one among these tokens
unfoldable pub barred_in : QueryParams → List Token → Bool
barred_in ps ts = any_of (barred ps) (kept_tokens true false ts)

unfoldable pub first_barred : QueryParams → List Token → Option ℕ
first_barred ps ts = first_from (λ i. barred_in ps (take (suc i) ts)) 0 (length ts)

-- ---- the comparison, by parameters, keep words, a case and tokens

module _ (ps : QueryParams) (keep : List (List ℕ)) (k : Case) (ts : List Token) where
  -- the text has all that is due of the first i tokens
  unfoldable pub has_first : List ℕ → ℕ → Bool
  has_first text i = begins (due ps keep k (take i ts)) (strip text)

  -- no at the first token whose bytes aren't matched; where all are, at the token count if the text has more
  unfoldable pub unless_no : List ℕ → Option ℕ → Verdict
  unless_no text None = if same (due ps keep k ts) (strip text) then Verdict.Yes else Verdict.No (length ts)
  unless_no text (Some i) = Verdict.No i

  unfoldable pub compared : List ℕ → Verdict
  compared text = unless_no text (first_from (λ i. not (has_first text (suc i))) 0 (length ts))

-- ---- a refusal's number and place

abbrev pub number_of : Refusal → ℕ
number_of (Refusal.Sheet o) = checks.number_of o
number_of (Refusal.Number i) = 5
number_of (Refusal.High p) = 15

abbrev pub place_of : Refusal → ℕ
place_of (Refusal.Sheet o) = checks.place_of o
place_of (Refusal.Number i) = i
place_of (Refusal.High p) = p

-- ---- the verdict

unfoldable pub unless_at : (ℕ → Refusal) → Option ℕ → Result Verdict Refusal → Result Verdict Refusal
unless_at r None later = later
unless_at r (Some place) later = Err (r place)

-- 5 before any text is read, then 15 at the first text byte of 128 or more
unfoldable pub judge_tokens : QueryParams → List (List ℕ) → Case → List Token → List ℕ → Result Verdict Refusal
judge_tokens ps keep k ts text = unless_at Refusal.Number (first_barred ps ts) (unless_at Refusal.High (find (leb 128) 0 text) (Ok (compared ps keep k ts text)))

unfoldable pub judge_as : List ℕ → List ℕ → Result Counts Offence → Result Verdict Refusal
judge_as s text (Ok c) = judge_tokens (params_of s c) (keeps_of s c) (options_of s).casing (tokens_of s c) text
judge_as s text (Err o) = Err (Refusal.Sheet o)

unfoldable pub judge : List ℕ → List ℕ → Result Verdict Refusal
judge s text = judge_as s text (checked s)

-- the verdict in numbers
unfoldable pub judged_of : Result Verdict Refusal → Judged
judged_of (Ok Verdict.Yes) = record { refusal = 0; place = 0; matches = 1; token = 0 }
judged_of (Ok (Verdict.No i)) = record { refusal = 0; place = 0; matches = 0; token = i }
judged_of (Err r) = record { refusal = number_of r; place = place_of r; matches = 0; token = 0 }
