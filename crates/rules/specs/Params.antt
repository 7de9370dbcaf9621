-- params.rs: which entry a placeholder shows, and what is shown.
use Rattle.std.specs.Prelude.{if◌then◌else◌, Bool, true, false, List, [], ◌∷◌, ℕ, ltb, length, Option, None, Some, unwrap_or}
use Rattle.rules.specs.declared.ZeroIndexed.{ZeroIndexed}
use Rattle.rules.specs.Base.{same, find, nth?}
use Rattle.rules.specs.Tokens.{Key, absent, named, zero_indexed, one_indexed, from_one}
use Rattle.rules.specs.Sheet.{Param, QueryParams, NoParams, Indexed, Named}

-- ---- the lookup: an entry's number, counted from nought, or none

-- the first entry whose name equals
unfoldable pub by_name : List Param → List ℕ → Option ℕ
by_name ps n = find (λ (p : Param). same p.name n) 0 ps

unfoldable pub by_number : List (List ℕ) → ℕ → Option ℕ
by_number vs n = if ltb n (length vs) then Some n else None

unfoldable pub by_index : List (List ℕ) → Option ZeroIndexed → Option ℕ
by_index vs (Some n) = by_number vs n.0
by_index vs None = None

-- the entry that fits a key, i being the counter; a number has the name ""
unfoldable pub source : QueryParams → Key → ℕ → Option ℕ
source NoParams k i = None
source (Named ps) absent i = None
source (Named ps) (named n) i = by_name ps n
source (Named ps) (zero_indexed n) i = by_name ps []
source (Named ps) (one_indexed n) i = by_name ps []
source (Indexed vs) absent i = by_number vs i
source (Indexed vs) (named []) i = by_number vs i
source (Indexed vs) (named (c ∷ n)) i = None
source (Indexed vs) (zero_indexed n) i = by_index vs (Some n)
source (Indexed vs) (one_indexed n) i = by_index vs (from_one n)

-- ---- what is shown

unfoldable pub value_in : Option Param → Option (List ℕ)
value_in None = None
value_in (Some p) = Some p.value

-- the value of entry n
unfoldable pub value_at : QueryParams → ℕ → Option (List ℕ)
value_at NoParams n = None
value_at (Named ps) n = value_in (nth? ps n)
value_at (Indexed vs) n = nth? vs n

unfoldable pub value_from : QueryParams → Option ℕ → Option (List ℕ)
value_from ps None = None
value_from ps (Some n) = value_at ps n

-- the value of the entry that fits a key
unfoldable pub entry : QueryParams → Key → ℕ → Option (List ℕ)
entry ps k i = value_from ps (source ps k i)

-- what is shown: the entry that fits, or the token's own value v
unfoldable pub get : QueryParams → Key → ℕ → List ℕ → List ℕ
get ps k i v = unwrap_or (entry ps k i) v

-- the counter moves for no key and for an empty name, past the end too
unfoldable pub advances : QueryParams → Key → Bool
advances NoParams k = false
advances (Named ps) k = false
advances (Indexed ps) absent = true
advances (Indexed ps) (named []) = true
advances (Indexed ps) (named (c ∷ n)) = false
advances (Indexed ps) (zero_indexed n) = false
advances (Indexed ps) (one_indexed n) = false

unfoldable pub is_refused : Option ZeroIndexed → Bool
is_refused (Some n) = false
is_refused None = true

-- refusal 5: a number that counts from one is nought
unfoldable pub offends : QueryParams → Key → Bool
offends NoParams k = false
offends (Named ps) k = false
offends (Indexed ps) absent = false
offends (Indexed ps) (named n) = false
offends (Indexed ps) (zero_indexed n) = false
offends (Indexed ps) (one_indexed n) = is_refused (from_one n)
