-- Which entry of the parameter list a placeholder shows, by its number, and where what is shown stands.
use Rattle.std.specs.Prelude.{if◌then◌else◌, ◌≡◌, Bool, true, false, List, [], ℕ, zero, suc, ◌+◌, ◌*◌, eqb, ltb, None, Option, Some}
use Rattle.rules.specs.declared.Place.{Place}
use Rattle.rules.specs.declared.PlaceholderKind.{PlaceholderKind}
use Rattle.rules.specs.declared.PlaceholderKind.TheVariants as key
use Rattle.rules.specs.declared.ZeroIndexed.{ZeroIndexed}
use Rattle.rules.specs.declared.Token.{Token}
use Rattle.rules.specs.declared.Counts.{Counts}
use Rattle.rules.specs.Base.{same}
use Rattle.rules.specs.Tokens.{from_one}
use Rattle.rules.specs.Words.{word_at, place_at, params_at, body_at}
use Rattle.rules.specs.Sheet.{body_part, key_read, name_of, params_of}
use Rattle.rules.specs.Params.{advances, is_refused}
use Rattle.tokens.specs.Placed.{Inside}
use Rattle.records.specs.Sheeted.{Sheeted}
use Rattle.params.specs.declared.Mode.{Mode}
use Rattle.params.specs.declared.Found.{Found}
use Rattle.params.specs.declared.Shown.{Shown}

-- the parameter mode that a word says
unfoldable pub mode_from : ℕ → Mode
mode_from w = if eqb w 0 then Mode.NoParams else if eqb w 1 then Mode.Indexed else Mode.Named

-- a key's name, if it has one, lies in the bodies
pub record KeyIn (s : List ℕ) (base : ℕ) (k : Option PlaceholderKind) : Type 0 where
  pub name_in : (p : Place) → k ≡ Some (key.Named p) → Inside s base p

-- a token of a checked sheet, its places in the bodies
pub record TokenIn (s : List ℕ) (c : Counts) (t : Token) : Type 0 where
  pub sheeted : Sheeted s c
  pub key_in : KeyIn s (body_at c) t.key
  pub value_in : Inside s (body_at c) t.value

-- ---- Named

-- of k numbers from i on the first with p
unfoldable pub first_from : (ℕ → Bool) → ℕ → ℕ → Option ℕ
first_from p i zero = None
first_from p i (suc k) = if p i then Some i else first_from p (suc i) k

-- parameter i has the name n
unfoldable pub has_name : List ℕ → Counts → List ℕ → ℕ → Bool
has_name s c n i = same (name_of s c i) n

unfoldable pub entry_named : List ℕ → Counts → List ℕ → Option ℕ
entry_named s c n = first_from (has_name s c n) 0 c.params

unfoldable pub entry_keyed : List ℕ → Counts → Option PlaceholderKind → Option ℕ
entry_keyed s c None = None
entry_keyed s c (Some (key.Named p)) = entry_named s c (body_part s (body_at c) p)
entry_keyed s c (Some (key.Zero n)) = entry_named s c []
entry_keyed s c (Some (key.One n)) = entry_named s c []

-- ---- Indexed

unfoldable pub entry_at : Counts → ℕ → Option ℕ
entry_at c i = if ltb i c.params then Some i else None

unfoldable pub entry_from : Counts → Option ZeroIndexed → Option ℕ
entry_from c (Some n) = entry_at c n.0
entry_from c None = None

-- no key, or an empty name
unfoldable pub takes_next : Option PlaceholderKind → Bool
takes_next None = true
takes_next (Some (key.Named p)) = eqb p.len 0
takes_next (Some (key.Zero n)) = false
takes_next (Some (key.One n)) = false

unfoldable pub entry_numbered : Counts → Option PlaceholderKind → Option ℕ
entry_numbered c None = None
entry_numbered c (Some (key.Named p)) = None
entry_numbered c (Some (key.Zero n)) = entry_at c n.0
entry_numbered c (Some (key.One n)) = entry_from c (from_one n)

unfoldable pub entry_indexed : Counts → Option PlaceholderKind → ℕ → Option ℕ
entry_indexed c k i = if takes_next k then entry_at c i else entry_numbered c k

-- ---- the lookup, i being the counter

unfoldable pub entry_for : List ℕ → Counts → Option PlaceholderKind → ℕ → Option ℕ
entry_for s c k i =
    if eqb (word_at s 16) 0 then None
    else if eqb (word_at s 16) 1 then entry_indexed c k i
    else entry_keyed s c k

-- the place of an entry's value, or the token's own
unfoldable pub place_in : List ℕ → Counts → Place → Option ℕ → Place
place_in s c own (Some i) = place_at s (params_at c + 16 * i + 8)
place_in s c own None = own

unfoldable pub found_of : List ℕ → Counts → Token → ℕ → Found
found_of s c t i =
    let e = entry_for s c t.key i in
    record { place = place_in s c t.value e; entry = e }

unfoldable pub shown_of : List ℕ → Counts → Token → ℕ → Shown
shown_of s c t i =
    record {
      place = (found_of s c t i).place;
      entry = (found_of s c t i).entry;
      index = if advances (params_of s c) (key_read s (body_at c) t.key) then i + 1 else i;
    }

-- ---- refusal 5

unfoldable pub key_refused : Option PlaceholderKind → Bool
key_refused None = false
key_refused (Some (key.Named p)) = false
key_refused (Some (key.Zero n)) = false
key_refused (Some (key.One n)) = is_refused (from_one n)
