-- Wish 2 for its reader: what the second call's list says of a sheet, its report and its buffer.
use Rattle.rules.specs.declared.Counts.{Counts}
use Rattle.rules.specs.declared.Offence.{Offence}
use Rattle.std.specs.Prelude.{if◌then◌else◌, ◌≡◌, ◌↔◌, true, ◌&&◌, List, [], ◌∷◌, ◌++◌, ℕ, suc, ◌+◌, ◌-◌, ◌*◌, ◌≤◌, ◌<◌, length, take, drop, replicate, Option, None, Some, Err, Ok, Result, unwrap_or}
use Rattle.rules.specs.declared.TokenKind.TheVariants as kind
use Rattle.rules.specs.declared.Report.{Report}
use Rattle.rules.specs.Base.{when, nth?}
use Rattle.rules.specs.Tokens.{Token, is}
use Rattle.rules.specs.Checks.{checked}
use Rattle.rules.specs.Sheet.{QueryParams, options_of, params_of, keeps_of, tokens_of}
use Rattle.rules.specs.Params.{source, value_at, value_from, advances}
use Rattle.rules.specs.Switch.{Switch, turn_of, switch_after, switched_on}
use Rattle.rules.specs.Answer.{is_withdrawn}
use Rattle.rules.specs.Rows.{Row, lays_out, rows_words}
use Rattle.rules.specs.Due.{strip, due}

-- ---- the placeholders that are laid out, by the switch and the lookup alone

-- the token's number, the entry that is shown (none: the token's own value), and what is shown
pub record Shown : Type 0 where
  pub token : ℕ
  pub entry : Option ℕ
  pub value : List ℕ

-- of token n, i being the counter
unfoldable pub showing : QueryParams → ℕ → ℕ → Token → Shown
showing ps n i t =
    let entry = source ps t.key i in
    record { token = n; entry = entry; value = unwrap_or (value_from ps entry) t.value }

-- of the tokens from the n-th on, xs being those before; the last of them first
unfoldable pub shown_from : QueryParams → ℕ → ℕ → Switch → List Token → List Shown → List Shown
shown_from ps n i w [] xs = xs
shown_from ps n i w (t ∷ ts) xs =
    let turn = turn_of w t.kind t.value in
    let here = lays_out turn t.kind in
    shown_from ps (suc n) (when (here && advances ps t.key) suc i) (switch_after turn w) ts (when here (λ ys. showing ps n i t ∷ ys) xs)

unfoldable pub shown : QueryParams → List Token → List Shown
shown ps ts = shown_from ps 0 0 switched_on ts []

-- of a sheet that checks 1 to 4 pass and that is not withdrawn; of another, none
unfoldable pub shown_in : List ℕ → Result Counts Offence → List Shown
shown_in s (Ok c) = if is_withdrawn s then [] else shown (params_of s c) (tokens_of s c)
shown_in s (Err o) = []

unfoldable pub shown_of : List ℕ → List Shown
shown_of s = shown_in s (checked s)

-- v is shown for the token t: the value of an entry; with none, its own
abbrev pub From : QueryParams → Token → Option ℕ → List ℕ → Type 0
From ps t None v = v ≡ t.value
From ps t (Some n) v = value_at ps n ≡ Some v

-- one of the tokens ts is shown so, and it is a placeholder
pub record Sourced (ps : QueryParams) (ts : List Token) (x : Shown) : Type 0 where
  pub token : Token
  pub sent : nth? ts x.token ≡ Some token
  pub placeholder : is token.kind kind.Placeholder ≡ true
  pub from : From ps token x.entry x.value

-- each of them, in the order of the tokens
abbrev pub AllSourced : QueryParams → List Token → ℕ → List Shown → Type 0
AllSourced ps ts top [] = Unit {0}
AllSourced ps ts top (x ∷ xs) = (x.token < top) × Sourced ps ts x × AllSourced ps ts x.token xs

-- ---- rows over a text b

-- the bytes that a row points at
abbrev pub stretch : List ℕ → Row → List ℕ
stretch b r = take r.len (drop r.start b)

-- x is v but for white bytes at its two ends
pub record Survives (x v : List ℕ) : Type 0 where
  pub before : List ℕ
  pub after : List ℕ
  pub whole : v ≡ before ++ x ++ after
  pub blank_before : strip before ≡ []
  pub blank_after : strip after ≡ []

-- the row of a placeholder, no byte of it after the first `top`; to: what is due of the first so many tokens
pub record Points (to : ℕ → List ℕ) (b : List ℕ) (top : ℕ) (x : Shown) (r : Row) : Type 0 where
  pub token : r.token ≡ x.token
  pub entry : r.entry ≡ x.entry
  pub ends : r.start + r.len ≤ top
  pub before : strip (take r.start b) ≡ to x.token
  pub bytes : Survives (stretch b r) x.value

-- a row for each, the last of them first: a row ends where the next one starts, or before
abbrev pub Placed : (ℕ → List ℕ) → List ℕ → ℕ → List Shown → List Row → Type 0
Placed to b top [] [] = Unit {0}
Placed to b top [] (r ∷ rs) = ⊥
Placed to b top (x ∷ xs) [] = ⊥
Placed to b top (x ∷ xs) (r ∷ rs) = Points to b top x r × Placed to b r.start xs rs

-- ---- the call's own results

-- demand 3's words, of the first n tokens of a sheet that checks 1 to 4 pass
unfoldable pub due_to_in : List ℕ → Result Counts Offence → ℕ → List ℕ
due_to_in s (Ok c) n = due (params_of s c) (keeps_of s c) (options_of s).casing (take n (tokens_of s c))
due_to_in s (Err o) n = []

unfoldable pub due_to : List ℕ → ℕ → List ℕ
due_to s n = due_to_in s (checked s) n

-- the list has a row for each of xs, in order, over the text b; its other words are zero
pub record Lists (to : ℕ → List ℕ) (xs : List Shown) (b list : List ℕ) : Type 0 where
  pub rows : List Row
  pub words : list ≡ rows_words rows ++ replicate (length list - 5 * length xs) 0
  pub placed : Placed to b (length b) xs rows

-- of a sheet: its report, its buffer and its list
pub record Pointed (s : List ℕ) (r : Report) (out list : List ℕ) : Type 0 where
  pub laid : r.refusal ≡ 0 → Lists (due_to s) (shown_of s) (take r.length out) list
  pub refused : (r.refusal ≡ 0 → ⊥) → list ≡ replicate (length list) 0
  pub short : (r.refusal ≡ 10) ↔ (length list < 5 * length (shown_of s))
