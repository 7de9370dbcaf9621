-- Answers in numbers and their refusals.
use Rattle.std.specs.Prelude.{ℕ, ◌==◌, if◌then◌else◌, Option, None, Some, Result, Ok, Err}
use Rattle.program.specs.declared.Refusal.{Refusal}

-- number 0 is no refusal
abbrev pub refusal_from : ℕ → ℕ → Option Refusal
refusal_from number place = if number == 0 then None else Some (record { number = number; place = place })

-- the answer, or its refusal
abbrev pub or_refused : {A : Type 0} → Option Refusal → A → Result A Refusal
or_refused None x = Ok x
or_refused (Some r) x = Err r
