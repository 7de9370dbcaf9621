-- What the call answers.
use Rattle.std.specs.Prelude.{ℕ, Result, Ok, Err}
use Rattle.rules.specs.declared.Outcome.{Outcome}
use Rattle.mend.specs.declared.Refusal.{Refusal}
use Rattle.mend.specs.declared.Refusal.TheVariants as refusal

abbrev pub number_of : Refusal → ℕ
number_of refusal.Size = 1
number_of refusal.Report = 13

-- how many changes, or the refusal
abbrev pub answer_of : Result ℕ Refusal → Outcome
answer_of (Ok n) = record { refusal = 0; place = 0; length = n }
answer_of (Err r) = record { refusal = number_of r; place = 0; length = 0 }
