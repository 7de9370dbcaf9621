-- Demand 3 in its own words: what is due of a sheet, white bytes taken out. With the rules of the layout it shares the declared types, the reading of a
-- sheet, the lists of `Base`, the bytes of a quoted text, and the recogniser of a switch comment's bytes (`check_fmt_off`); nothing else.
use Rattle.rules.specs.declared.Counts.{Counts}
use Rattle.rules.specs.declared.Offence.{Offence}
use Rattle.std.specs.Prelude.{if◌then◌else◌, ◌≡◌, Bool, true, false, not, List, [], ◌∷◌, ◌++◌, map, ℕ, zero, suc, eqb, take, Option, None, Some, Err, Ok, Result, unwrap_or}
use Rattle.rules.specs.declared.TokenKind.{TokenKind}
use Rattle.rules.specs.declared.TokenKind.TheVariants as kind
use Rattle.rules.specs.declared.Case.{Case}
use Rattle.rules.specs.declared.Case.TheVariants as case
use Rattle.rules.specs.declared.Report.{Report}
use Rattle.rules.specs.Bytes.{bytes}
use Rattle.rules.specs.Base.{same, any_of, nth?}
use Rattle.rules.specs.Tokens.{Key, absent, named, zero_indexed, one_indexed, Token}
use Rattle.rules.specs.Checks.{checked}
use Rattle.rules.specs.Sheet.{Param, QueryParams, NoParams, Indexed, Named, options_of, params_of, keeps_of, tokens_of}
use Rattle.rules.specs.Switch.{check_fmt_off}

-- ---- white bytes: 9 to 13 and 32

abbrev pub white : ℕ → Bool
white c = any_of (eqb c) (9 ∷ 10 ∷ 11 ∷ 12 ∷ 13 ∷ 32 ∷ [])

-- the white bytes taken out
abbrev pub strip : List ℕ → List ℕ
strip [] = []
strip (x ∷ xs) = if white x then strip xs else x ∷ strip xs

-- ---- how a token is shown

-- as its own value; in the asked case where case applies; as the parameter of its key
pub data Piece : Type 0 where
  own : List ℕ → Piece
  cased : List ℕ → Piece
  filled : Key → List ℕ → Piece

pub data Role : Type 0 where
  blank comment placeholder reserved other : Role

-- case applies to the five kinds named Reserved and to brackets
abbrev pub role_of : TokenKind → Role
role_of kind.TypeSpecifier = other
role_of kind.Whitespace = blank
role_of kind.String = other
role_of kind.Reserved = reserved
role_of kind.ReservedTopLevel = reserved
role_of kind.ReservedTopLevelNoIndent = reserved
role_of kind.ReservedNewline = reserved
role_of kind.ReservedNewlineAfter = reserved
role_of kind.Operator = other
role_of kind.OpenParen = reserved
role_of kind.CloseParen = reserved
role_of kind.LineComment = comment
role_of kind.BlockComment = comment
role_of kind.Number = other
role_of kind.Placeholder = placeholder
role_of kind.Word = other
role_of kind.Join = other

-- ---- the kept tokens in order: all but the switch comments, the tokens dropped after them, and Whitespace while on

-- of a token while on
abbrev pub kept_on : Role → Token → List Piece
kept_on blank t = []
kept_on comment t = own t.value ∷ []
kept_on placeholder t = filled t.key t.value ∷ []
kept_on reserved t = cased t.value ∷ []
kept_on other t = own t.value ∷ []

-- a comment may switch off (true) or on (false)
abbrev pub switches : Role → List ℕ → Option Bool
switches blank v = None
switches comment v = check_fmt_off v
switches placeholder v = None
switches reserved v = None
switches other v = None

-- a switch comment is dropped; while off a token of any kind is its own value
abbrev pub kept_by : Option Bool → Bool → Token → List Piece
kept_by (Some off) on t = []
kept_by None true t = kept_on (role_of t.kind) t
kept_by None false t = own t.value ∷ []

abbrev pub on_after : Option Bool → Bool → Bool
on_after (Some off) on = not off
on_after None on = on

abbrev pub is_switch : Option Bool → Bool
is_switch (Some off) = true
is_switch None = false

-- on: the switch is on; drop: the token before was a switch comment, so that the next is dropped, of whatever kind
unfoldable pub kept_tokens : Bool → Bool → List Token → List Piece
kept_tokens on drop [] = []
kept_tokens on true (t ∷ ts) = kept_tokens on false ts
kept_tokens on false (t ∷ ts) =
    let switch = switches (role_of t.kind) t.value in
    kept_by switch on t ++ kept_tokens (on_after switch on) (is_switch switch) ts

-- ---- the asked case

-- the byte of the second row that stands where c stands in the first; a byte that is not in it stays
abbrev pub across : List ℕ → List ℕ → ℕ → ℕ
across [] ys c = c
across (x ∷ xs) [] c = c
across (x ∷ xs) (y ∷ ys) c = if eqb c x then y else across xs ys c

abbrev pub smalls : List ℕ
smalls = bytes "abcdefghijklmnopqrstuvwxyz"

abbrev pub capitals : List ℕ
capitals = bytes "ABCDEFGHIJKLMNOPQRSTUVWXYZ"

abbrev pub letter_in : Case → ℕ → ℕ
letter_in case.AsIs c = c
letter_in case.Upper c = across smalls capitals c
letter_in case.Lower c = across capitals smalls c

-- a keep word, by its raw value, stays as it is
unfoldable pub in_asked_case : List (List ℕ) → Case → List ℕ → List ℕ
in_asked_case keep k v = if any_of (same v) keep then v else map (letter_in k) v

-- ---- a placeholder's entry

-- entry n, counted from one
abbrev pub one_based : List (List ℕ) → ℕ → Option (List ℕ)
one_based vs zero = None
one_based vs (suc n) = nth? vs n

-- the first entry with the name
abbrev pub called_by : List ℕ → List Param → Option (List ℕ)
called_by n [] = None
called_by n (p ∷ ps) = if same p.name n then Some p.value else called_by n ps

-- i: the count of placeholders with no key or an empty name laid out before it; a number has the name ""
abbrev pub entry_of : QueryParams → Key → ℕ → Option (List ℕ)
entry_of NoParams k i = None
entry_of (Indexed vs) absent i = nth? vs i
entry_of (Indexed vs) (named []) i = nth? vs i
entry_of (Indexed vs) (named (c ∷ n)) i = None
entry_of (Indexed vs) (zero_indexed n) i = nth? vs n.0
entry_of (Indexed vs) (one_indexed n) i = one_based vs n.0
entry_of (Named ps) absent i = None
entry_of (Named ps) (named n) i = called_by n ps
entry_of (Named ps) (zero_indexed n) i = called_by [] ps
entry_of (Named ps) (one_indexed n) i = called_by [] ps

-- no key or an empty name
abbrev pub is_next : Key → Bool
is_next absent = true
is_next (named []) = true
is_next (named (c ∷ n)) = false
is_next (zero_indexed n) = false
is_next (one_indexed n) = false

abbrev pub count_one : Piece → ℕ → ℕ
count_one (own v) n = n
count_one (cased v) n = n
count_one (filled k v) n = if is_next k then suc n else n

-- the count of placeholders with no key or an empty name
unfoldable pub count_next : List Piece → ℕ
count_next [] = 0
count_next (x ∷ xs) = count_one x (count_next xs)

-- ---- what is due

abbrev pub shows : QueryParams → List (List ℕ) → Case → List Piece → Piece → List ℕ
shows ps keep k before (own v) = v
shows ps keep k before (cased v) = in_asked_case keep k v
shows ps keep k before (filled key v) = unwrap_or (entry_of ps key (count_next before)) v

-- before: those before, the last of them first
unfoldable pub due_from : QueryParams → List (List ℕ) → Case → List Piece → List Piece → List ℕ
due_from ps keep k before [] = []
due_from ps keep k before (x ∷ xs) = strip (shows ps keep k before x) ++ due_from ps keep k (x ∷ before) xs

-- of parameters, keep words, a case and tokens
unfoldable pub due : QueryParams → List (List ℕ) → Case → List Token → List ℕ
due ps keep k ts = due_from ps keep k [] (kept_tokens true false ts)

-- of a sheet that checks 1 to 4 pass; of another, nothing
unfoldable pub due_in : List ℕ → Result Counts Offence → List ℕ
due_in s (Ok c) = due (params_of s c) (keeps_of s c) (options_of s).casing (tokens_of s c)
due_in s (Err o) = []

unfoldable pub due_of : List ℕ → List ℕ
due_of s = due_in s (checked s)

-- demand 3 of a report and a buffer: where nothing is refused, the text without its white bytes is what is due
unfoldable pub Faithful : List ℕ → Report → List ℕ → Type 0
Faithful s r out = r.refusal ≡ 0 → strip (take r.length out) ≡ due_of s
