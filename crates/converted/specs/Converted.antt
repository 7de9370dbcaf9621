-- Wish 12: word 7 at 1 is withdrawn. What converting a stored sheet gives.
use Rattle.rules.specs.declared.Counts.{Counts}
use Rattle.rules.specs.declared.Offence.{Offence}
use Rattle.std.specs.Prelude.{if◌then◌else◌, List, ℕ, set, Err, Ok, Result}
use Rattle.rules.specs.declared.Outcome.{Outcome}
use Rattle.rules.specs.Checks.{checked, number_of, place_of}
use Rattle.rules.specs.Answer.{is_withdrawn}

-- ---- the sheet

-- where word 7 is 1 its lowest byte becomes 2; the three above it are 0 already
unfoldable pub converted : List ℕ → List ℕ
converted s = if is_withdrawn s then set s 28 2 else s

-- ---- the call

-- a sheet and how many bytes of it were changed; or a refusal's number and place
pub data Conversion : Type 0 where
  converts : List ℕ → ℕ → Conversion
  refusal : ℕ → ℕ → Conversion

unfoldable pub convert_as : List ℕ → Result Counts Offence → Conversion
convert_as s (Ok c) = converts (converted s) (if is_withdrawn s then 1 else 0)
convert_as s (Err o) = refusal (number_of o) (place_of o)

unfoldable pub convert : List ℕ → Conversion
convert s = convert_as s (checked s)

-- in numbers: `length` is the number of bytes changed
unfoldable pub convert_outcome : Conversion → Outcome
convert_outcome (converts t n) = record { refusal = 0; place = 0; length = n }
convert_outcome (refusal n p) = record { refusal = n; place = p; length = 0 }

-- the sheet afterwards: a refusal leaves it as it came
unfoldable pub sheet_after : List ℕ → Conversion → List ℕ
sheet_after s (converts t n) = t
sheet_after s (refusal n p) = s
