-- Sheets and texts with the verdict that Wish 13 gives, as one table under one claim.
use Rattle.std.specs.Prelude.{◌≡◌, refl, false, List, [], ◌∷◌, ◌++◌, map, ℕ}
use Prim.Native.String.{String}
use Rattle.rules.specs.declared.TokenKind.TheVariants as kind
use Rattle.rules.specs.Bytes.{bytes}
use Rattle.rules.specs.Tokens.{Key, named, zero_indexed, one_indexed, Token}
use Rattle.rules.specs.Sheet.{QueryParams, NoParams, Indexed}
use Rattle.rules.specs.Encode.{encode}
use Rattle.rules.specs.Computed.{computed}
use Rattle.rules.specs.Sheets.{tok, W, S, T, P, unset, options, default, lines34, line, sheet6}
use Rattle.rules.specs.Due.{kept_tokens, in_asked_case, count_next, due_from, due}
use Rattle.foreign.specs.declared.Judged.{Judged}
use Rattle.foreign.specs.Foreign.{begins, first_from, barred, unless_at, barred_in, first_barred, has_first, unless_no, compared, judge_tokens, judge_as, judge, judged_of}

-- a sheet, a text, and the call's numbers for them
pub record Judging : Type 0 where
  pub sheet : List ℕ
  pub text : List ℕ
  pub wanted : Judged

abbrev sheet : List ℕ → QueryParams → List (List ℕ) → List Token → String → Judged → Judging
sheet op ps keep ts text r = record { sheet = encode op ps keep ts; text = bytes text; wanted = r }

abbrev yes : Judged
yes = record { refusal = 0; place = 0; matches = 1; token = 0 }

abbrev no : ℕ → Judged
no i = record { refusal = 0; place = 0; matches = 0; token = i }

abbrev refused : ℕ → ℕ → Judged
refused n p = record { refusal = n; place = p; matches = 0; token = 0 }

abbrev upper : List ℕ
upper = options 1 50 unset

abbrev keyed : Key → Token
keyed k = record { kind = kind.Placeholder; value = bytes "?"; key = k; create = false }

abbrev numbers : QueryParams
numbers = Indexed (bytes "7" ∷ bytes "1 2" ∷ [])

-- ---- the wish's own
abbrev list : List Token
list = T "select" ∷ S " " ∷ W "id" ∷ tok kind.Operator "," ∷ W "b" ∷ []

abbrev pub wished : List Judging
wished =
    sheet upper NoParams [] list "SEL ECT id , b" yes
    ∷ sheet upper NoParams [] list "select id, b" (no 0)
    ∷ sheet upper NoParams [] list "SELECT ID, b" (no 2)
    ∷ sheet upper NoParams [] list "SELECT id," (no 4)
    ∷ sheet upper NoParams [] list "SELECT id, b;" (no 5)
    ∷ sheet default numbers [] (W "a" ∷ keyed (one_indexed (record { 0 = 0 })) ∷ []) "x" (refused 5 1)
    ∷ record { sheet = encode default numbers [] (W "a" ∷ keyed (one_indexed (record { 0 = 0 })) ∷ []); text = 200 ∷ []; wanted = refused 5 1 }
    ∷ []

-- ---- tokens that are not kept, or have no byte that isn't white
abbrev off : Token
off = tok kind.LineComment "-- fmt: off"

abbrev pub kept : List Judging
kept =
    sheet default NoParams [] [] "" yes
    ∷ sheet default NoParams [] [] " \n\t" yes
    ∷ sheet default NoParams [] [] " a" (no 0)
    ∷ sheet default NoParams [] (W "a" ∷ W "  " ∷ W "" ∷ []) "a" yes
    ∷ sheet default NoParams [] (W "a" ∷ W "  " ∷ W "" ∷ W "b" ∷ []) "a" (no 3)
    ∷ sheet default NoParams [] (S "ab" ∷ W "c" ∷ []) "c" yes
    ∷ sheet default NoParams [] (off ∷ W "x" ∷ S "ab" ∷ W "c" ∷ []) "abc" yes
    ∷ sheet default NoParams [] (off ∷ W "x" ∷ S "ab" ∷ W "c" ∷ []) "xabc" (no 2)
    ∷ sheet default NoParams [] (off ∷ W "x" ∷ S "ab" ∷ W "c" ∷ []) "c" (no 2)
    ∷ sheet upper NoParams [] (off ∷ W "x" ∷ T "select" ∷ []) "select" yes
    ∷ sheet upper NoParams [] (off ∷ W "x" ∷ T "select" ∷ []) "SELECT" (no 2)
    ∷ []

-- ---- letter case and keep words
abbrev pub letters : List Judging
letters =
    sheet upper NoParams (bytes "id" ∷ []) (T "id" ∷ tok kind.Reserved "is  null" ∷ []) "id IS NULL" yes
    ∷ sheet upper NoParams (bytes "id" ∷ []) (T "id" ∷ tok kind.Reserved "is  null" ∷ []) "ID IS NULL" (no 0)
    ∷ sheet upper NoParams (bytes "is null" ∷ []) (T "id" ∷ tok kind.Reserved "is  null" ∷ []) "ID is null" (no 1)
    ∷ sheet (options 2 50 unset) NoParams [] (T "SELECT" ∷ tok kind.Join "JOIN" ∷ []) "selectJOIN" yes
    ∷ sheet (options 2 50 unset) NoParams [] (T "SELECT" ∷ tok kind.Join "JOIN" ∷ []) "select join" (no 1)
    ∷ []

-- ---- placeholders; the counter stands still for a switched-off one
abbrev pub parameters : List Judging
parameters =
    sheet default numbers [] (P "?" ∷ P "?" ∷ P "?" ∷ []) "712?" yes
    ∷ sheet default numbers [] (P "?" ∷ keyed (one_indexed (record { 0 = 2 })) ∷ keyed (zero_indexed (record { 0 = 0 })) ∷ keyed (named (bytes "n")) ∷ P "?" ∷ []) "7 12 7 ? 12" yes
    ∷ sheet default numbers [] (P "?" ∷ keyed (one_indexed (record { 0 = 2 })) ∷ keyed (zero_indexed (record { 0 = 0 })) ∷ keyed (named (bytes "n")) ∷ P "?" ∷ []) "7 12 7 ? ?" (no 4)
    ∷ sheet default numbers [] sheet6 "?x7" yes
    ∷ sheet default numbers [] sheet6 "?x12" (no 6)
    ∷ sheet default lines34 [] (line ∷ line ∷ []) "33" yes
    ∷ sheet default lines34 [] (line ∷ line ∷ []) "34" (no 1)
    ∷ []

-- ---- refusals: 5 only of a placeholder laid out under Indexed; 5 before 15, 15 before a byte that differs; 1 to 4 first
abbrev zeroth : Token
zeroth = keyed (one_indexed (record { 0 = 0 }))

abbrev pub refusals : List Judging
refusals =
    sheet default NoParams [] (zeroth ∷ []) "?" yes
    ∷ sheet default lines34 [] (zeroth ∷ []) "?" yes
    ∷ sheet default numbers [] (off ∷ zeroth ∷ zeroth ∷ []) "?" yes
    ∷ sheet default numbers [] (off ∷ zeroth ∷ zeroth ∷ tok kind.LineComment "-- fmt: on" ∷ zeroth ∷ W "a" ∷ zeroth ∷ []) "?" (refused 5 6)
    ∷ record { sheet = encode default numbers [] (record { kind = kind.Word; value = bytes "?"; key = one_indexed (record { 0 = 0 }); create = false } ∷ []); text = 63 ∷ 127 ∷ 128 ∷ 200 ∷ []; wanted = refused 15 2 }
    ∷ record { sheet = encode default NoParams [] (W "a" ∷ []); text = 98 ∷ 255 ∷ []; wanted = refused 15 1 }
    ∷ record { sheet = encode default NoParams [] (W "a" ∷ []) ++ 0 ∷ []; text = 255 ∷ []; wanted = refused 1 0 }
    ∷ sheet (2 ∷ 3 ∷ 0 ∷ 1 ∷ 50 ∷ unset ∷ unset ∷ []) NoParams [] (W "a" ∷ []) "a" (refused 2 24)
    ∷ sheet (2 ∷ 0 ∷ 1 ∷ 1 ∷ 50 ∷ unset ∷ unset ∷ []) NoParams [] (W "a" ∷ []) "a" yes
    ∷ record { sheet = encode default NoParams [] (record { kind = kind.Word; value = 128 ∷ []; key = named []; create = false } ∷ []); text = 128 ∷ []; wanted = refused 4 68 }
    ∷ []

abbrev pub judgings : List Judging
judgings = wished ++ kept ++ letters ++ parameters ++ refusals

abbrev given : Judging → Judged
given j = judged_of (judge j.sheet j.text)

abbrev wanted : Judging → Judged
wanted j = j.wanted

pub judgings-right : map given judgings ≡ map wanted judgings
unfolding computed encode kept_tokens in_asked_case count_next due_from due begins first_from barred unless_at barred_in first_barred has_first unless_no compared judge_tokens judge_as judge judged_of
judgings-right = refl
