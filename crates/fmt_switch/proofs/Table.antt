-- The code's rows are the rules' rows, by one computation over the whole table; and a step of the recogniser. Assumes nothing.
use Rattle.std.proofs.Common.{◌≡◌, refl, sym, ap, ◌∙◌, Bool, true, false, ◌||◌, Option, None, Some, List, [], ◌∷◌, map, ℕ, ◌<◌, length, get_or, eqb}
use Rattle.std.proofs.Math.Bool.{or-false}
use Rattle.std.proofs.lemmas.List.{get_or-map}
use Rattle.std.specs.Prelude.{if◌then◌else◌}
use Prim.Native.String.{String}
use borrow.Author.Tests.{eqb-true}
use Rattle.rules.specs.Bytes.{bytes}
use Rattle.rules.specs.Base.{any_of, first}
use Rattle.rules.specs.Switch.{OnLetters, ◌↪◌, fmt_table, in_state, moved_by, moved_to, moved}
use Rattle.fmt_switch.specs.declared.Move.{Move}
use Rattle.fmt_switch.specs.declared.Move.TheVariants as move
use Rattle.fmt_switch.specs.declared.OnByte.{OnByte}
use Rattle.fmt_switch.specs.declared.Row.{Row}
use Rattle.fmt_switch.specs.Of.{letters_of, says_on, entry_of, entries_of, row_of, moved_as}

-- the rows of any table that says what the rules' table says
row-said : (rows : List Row) (d : Row) (n : ℕ) → map row_of rows ≡ fmt_table → n < length rows → row_of (get_or rows n d) ≡ get_or fmt_table n []
row-said rows d n e h = sym (get_or-map row_of rows n d [] h) ∙ ap (λ (l : List (List OnLetters)). get_or l n []) e

-- ---- the code's table

abbrev on : String → Move → OnByte
on letters m = record { 0 = get_or (bytes letters) 0 0; 1 = get_or (bytes letters) 1 0; 2 = m }

abbrev alone : OnByte → Row
alone e = record { 0 = e; 1 = None }

abbrev and : OnByte → OnByte → Row
and e f = record { 0 = e; 1 = Some f }

abbrev pub rows : List Row
rows =
    alone (on "--" move.Next)
    ∷ alone (on "--" move.Next)
    ∷ and (on "  " move.Stay) (on "fF" move.Next)
    ∷ alone (on "mM" move.Next)
    ∷ alone (on "tT" move.Next)
    ∷ and (on "  " move.Stay) (on "::" move.Next)
    ∷ and (on "  " move.Stay) (on "oO" move.Next)
    ∷ and (on "nN" (move.Answer false)) (on "fF" move.Next)
    ∷ alone (on "fF" (move.Answer true))
    ∷ []

table-right : map row_of rows ≡ fmt_table
unfolding letters_of says_on entry_of entries_of row_of ◌↪◌ fmt_table
table-right = refl

pub row_is : (d : Row) (n : ℕ) → n < 9 → row_of (get_or rows n d) ≡ get_or fmt_table n []
row_is d n h = row-said rows d n table-right h

-- ---- one byte

or_same : (b : Bool) → b ≡ (b || b)
or_same true = refl
or_same false = refl

any_letter : (c a b : ℕ) → any_of (eqb c) (letters_of a b) ≡ (eqb c a || eqb c b)
unfolding letters_of
any_letter c a b = go (eqb a b) refl
  where
    go : (t : Bool) → eqb a b ≡ t → any_of (eqb c) (if t then a ∷ [] else a ∷ b ∷ []) ≡ (eqb c a || eqb c b)
    go true e = rw (or-false, ← eqb-true a b e) (or_same (eqb c a))
    go false e = rw or-false

abbrev pub has : OnByte → ℕ → Bool
has e c = eqb c e.0 || eqb c e.1

abbrev found : ℕ → List OnLetters → Option OnLetters
found c row = first (λ m. any_of (eqb c) m.letters) row

-- an entry is found by its letters
has-is : (c : ℕ) (e : OnByte) → any_of (eqb c) (entry_of e).letters ≡ has e c
unfolding entry_of says_on
has-is c e = go e.2
  where
    go : (m : Move) → any_of (eqb c) (says_on m (letters_of e.0 e.1)).letters ≡ has e c
    go move.Stay = any_letter c e.0 e.1
    go move.Next = any_letter c e.0 e.1
    go (move.Answer off) = any_letter c e.0 e.1

moves-as : (state : ℕ) (e : OnByte) → moved_as state (Some e.2) ≡ moved_by state (entry_of e).move
unfolding entry_of says_on moved_as moved_by
moves-as state e = go e.2
  where
    go : (m : Move) → moved_as state (Some m) ≡ moved_by state (says_on m (letters_of e.0 e.1)).move
    go move.Stay = refl
    go move.Next = refl
    go (move.Answer off) = refl

module _ (state c : ℕ) (row : Row) (said : row_of row ≡ get_or fmt_table state []) (a : Bool) (ea : a ≡ has row.0 c) where
  moved-is : moved_to state (found c (row_of row)) ≡ moved (in_state state) c
  unfolding moved
  moved-is = rw said

  pub by_first : a ≡ true → moved_as state (Some row.0.2) ≡ moved (in_state state) c
  unfolding row_of moved_to
  by_first h = moves-as state row.0 ∙ (rw (has-is c row.0, ← ea, h) at moved-is)

  -- past the first entry
  module _ (h : a ≡ false) where
    after_first : moved_to state (found c (entries_of row.1)) ≡ moved (in_state state) c
    unfolding row_of
    after_first = rw (has-is c row.0, ← ea, h) at moved-is

    pub by-none : row.1 ≡ None → moved_as state None ≡ moved (in_state state) c
    unfolding entries_of moved_as moved_to
    by-none n = rw n at after_first

    module _ (e : OnByte) (two : row.1 ≡ Some e) (b : Bool) (eb : b ≡ has e c) where
      pub by-second : b ≡ true → moved_as state (Some e.2) ≡ moved (in_state state) c
      unfolding entries_of moved_to
      by-second g = moves-as state e ∙ (rw (two, has-is c e, ← eb, g) at after_first)

      pub by-neither : b ≡ false → moved_as state None ≡ moved (in_state state) c
      unfolding entries_of moved_as moved_to
      by-neither g = rw (two, has-is c e, ← eb, g) at after_first

pub ruleset steps = (by_first, by-none, by-second, by-neither)
