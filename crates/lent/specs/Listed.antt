-- A parameter list of records, and what a search of it gives: a record's number and the place of its value, or a place of the caller's.
use Rattle.std.specs.Prelude.{Bool, ◌&&◌, List, ℕ, Option, None, Some}
use Rattle.rules.specs.declared.Place.{Place}
use Rattle.rules.specs.declared.Counts.{Counts}
use Rattle.rules.specs.Base.{same, find, nth?}
use Rattle.rules.specs.Words.{body_at}
use Rattle.rules.specs.Checks.{in_body}
use Rattle.rules.specs.Sheet.{body_part}
use Rattle.params.specs.declared.Found.{Found}
use Rattle.lent.specs.declared.Param.{Param}

-- what stands past the end of a list
abbrev pub no_place : Place
no_place = record { start = 0; len = 0 }

abbrev pub no_param : Param
no_param = record { name = no_place; value = no_place }

-- ---- by number

-- record n, or the caller's place where there is none
abbrev pub found_or : Place → ℕ → Option Param → Found
found_or own n None = record { place = own; entry = None }
found_or own n (Some p) = record { place = p.value; entry = Some n }

unfoldable pub numbered : List Param → ℕ → Place → Found
numbered ps n own = found_or own n (nth? ps n)

-- ---- by name

-- two name places are equal; one outside the bodies equals no name
unfoldable pub equals : List ℕ → Counts → Place → Place → Bool
equals s c p n = in_body p c.bytes && (in_body n c.bytes && same (body_part s (body_at c) p) (body_part s (body_at c) n))

-- the record of a number that a search gave
abbrev pub found_by : List Param → Place → Option ℕ → Found
found_by ps own None = record { place = own; entry = None }
found_by ps own (Some n) = numbered ps n own

-- the first record whose name equals n
unfoldable pub named_in : List ℕ → Counts → Place → List Param → Place → Found
named_in s c n ps own = found_by ps own (find (λ (p : Param). equals s c p.name n) 0 ps)
