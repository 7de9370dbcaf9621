-- Wish 6: a new sheet with only those body bytes that some place covers, in their old order.
use Rattle.rules.specs.declared.Offence.{Offence}
use Rattle.std.specs.Prelude.{if◌then◌else◌, ◌≡◌, Bool, true, false, ◌&&◌, ◌||◌, List, [], ◌∷◌, ◌++◌, ℕ, zero, suc, ◌+◌, ◌-◌, ◌*◌, ◌%◌, ◌≤◌, ◌<◌, eqb, leb, ltb, length, take, drop, replicate, get_or, Err, Ok, Result}
use Rattle.rules.specs.declared.Place.{Place}
use Rattle.rules.specs.declared.Counts.{Counts}
use Rattle.rules.specs.declared.Outcome.{Outcome}
use Rattle.rules.specs.Words.{word_at, word_bytes, place_at, class_bits, counts_of, params_at, body_at}
use Rattle.rules.specs.Checks.{checked, number_of, place_of}
use Rattle.rules.specs.Answer.{answer}
use Rattle.rules.specs.Rows.{listed, list_after}

-- ---- the places of a sheet, by the byte offset of their first word

-- how many words stand before the bodies
abbrev pub word_count : Counts → ℕ
word_count c = 12 + 5 * c.tokens + 4 * c.params + 2 * c.keeps

-- in a token record, k bytes from its start: the value; the key, if it is a name
abbrev pub starts_in_token : List ℕ → ℕ → ℕ → Bool
starts_in_token s at k = eqb k 4 || (eqb k 12 && eqb (class_bits (word_at s (at - 12))) 1)

-- parameters and keep words are places and nothing else; a name where the mode has none is 0, 0, which covers nothing and stays so
unfoldable pub starts_place : List ℕ → Counts → ℕ → Bool
starts_place s c at =
    if ltb at 48 then false
    else if ltb at (params_at c) then starts_in_token s at ((at - 48) % 20)
    else eqb ((at - params_at c) % 8) 0

-- ---- the bytes that are kept

-- the place has body byte j
abbrev pub covers : Place → ℕ → Bool
covers p j = leb p.start j && ltb j (p.start + p.len)

-- one of the first k words starts a place that has body byte j
unfoldable pub covered_by : List ℕ → Counts → ℕ → ℕ → Bool
covered_by s c zero j = false
covered_by s c (suc k) j = covered_by s c k j || (starts_place s c (4 * k) && covers (place_at s (4 * k)) j)

abbrev pub is_covered : List ℕ → Counts → ℕ → Bool
is_covered s c j = covered_by s c (word_count c) j

-- of the first j body bytes those that are covered
unfoldable pub kept_bytes : List ℕ → Counts → ℕ → List ℕ
kept_bytes s c zero = []
kept_bytes s c (suc j) = kept_bytes s c j ++ (if is_covered s c j then get_or s (body_at c + j) 0 ∷ [] else [])

abbrev pub kept_before : List ℕ → Counts → ℕ → ℕ
kept_before s c j = length (kept_bytes s c j)

-- ---- the new sheet

-- the start of a place: the number of kept bytes before it; 0, if its length is 0
abbrev pub new_start : List ℕ → Counts → Place → ℕ
new_start s c p = if eqb p.len 0 then 0 else kept_before s c p.start

-- the word at a byte offset, as bytes: word 3 counts the body bytes, a start moves, all others stay
unfoldable pub new_bytes : List ℕ → Counts → ℕ → List ℕ
new_bytes s c at =
    if eqb at 12 then word_bytes (kept_before s c c.bytes)
    else if starts_place s c at then word_bytes (new_start s c (place_at s at))
    else take 4 (drop at s)

-- the first k words
unfoldable pub moved_words : List ℕ → Counts → ℕ → List ℕ
moved_words s c zero = []
moved_words s c (suc k) = moved_words s c k ++ new_bytes s c (4 * k)

unfoldable pub compacted : List ℕ → Counts → List ℕ
compacted s c = moved_words s c (word_count c) ++ kept_bytes s c c.bytes

-- ---- the call with a buffer of room bytes

-- what is written; or a refusal's number and place
pub data Written : Type 0 where
  wrote : List ℕ → Written
  refusal : ℕ → ℕ → Written

unfoldable pub compact_as : List ℕ → ℕ → Result Counts Offence → Written
compact_as s room (Ok c) = if ltb room (length (compacted s c)) then refusal 11 0 else wrote (compacted s c)
compact_as s room (Err o) = refusal (number_of o) (place_of o)

unfoldable pub compact : List ℕ → ℕ → Written
compact s room = compact_as s room (checked s)

-- in numbers
unfoldable pub outcome_of : Written → Outcome
outcome_of (wrote b) = record { refusal = 0; place = 0; length = length b }
outcome_of (refusal n p) = record { refusal = n; place = p; length = 0 }

-- the buffer afterwards: what is written and zero after it; all zero on a refusal
unfoldable pub buffer_with : ℕ → Written → List ℕ
buffer_with room (wrote b) = b ++ replicate (room - length b) 0
buffer_with room (refusal n p) = replicate room 0

-- ---- for its reader: what a new sheet t is to the old sheet s

pub record SameSheet (s t : List ℕ) : Type 0 where
  -- it passes checks 1 to 4
  pub sound : checked t ≡ Ok (counts_of t)
  -- both layout calls give the old sheet's answer
  pub answers : (room : ℕ) → answer t room ≡ answer s room
  pub listed_so : (room k : ℕ) → listed t room k ≡ listed s room k
  pub lists : (room k : ℕ) → list_after t room k ≡ list_after s room k
  -- compacting it gives it back; every body byte of it is covered, and it is not longer
  pub again : compacted t (counts_of t) ≡ t
  pub covered : (j : ℕ) → j < (counts_of t).bytes → is_covered t (counts_of t) j ≡ true
  pub no_longer : length t ≤ length s

-- of a sheet: the call's outcome and its buffer
pub record Compacts (s : List ℕ) (r : Outcome) (out : List ℕ) : Type 0 where
  pub written : r.refusal ≡ 0 → SameSheet s (take r.length out)
