-- The starred sheets of document 01, as one table under one claim, read from their bytes.
use Rattle.std.specs.Prelude.{◌≡◌, refl, true, false, List, [], ◌∷◌, map, ℕ}
use Prim.Native.String.{String}
use Rattle.rules.specs.declared.TokenKind.{TokenKind}
use Rattle.rules.specs.declared.TokenKind.TheVariants as kind
use Rattle.rules.specs.Bytes.{bytes}
use Rattle.rules.specs.Tokens.{absent, named, Token}
use Rattle.rules.specs.Sheet.{QueryParams, NoParams, Indexed, Named}
use Rattle.rules.specs.Encode.{encode}
use Rattle.rules.specs.Answer.{Answer, laid, refusal}
use Rattle.rules.specs.Computed.{Sample, given, wanted, computed}

-- ---- short names

abbrev pub tok : TokenKind → String → Token
tok k v = record { kind = k; value = bytes v; key = absent; create = false }

abbrev pub W : String → Token
W v = tok kind.Word v

abbrev pub S : String → Token
S v = tok kind.Whitespace v

abbrev pub T : String → Token
T v = tok kind.ReservedTopLevel v

abbrev pub P : String → Token
P v = tok kind.Placeholder v

abbrev pub unset : ℕ
unset = 4294967295

-- words 5 to 11: 2 spaces, the case, inline 0, 1 line, the block, no argument limit, the top level
abbrev pub options : ℕ → ℕ → ℕ → List ℕ
options casing block top = 2 ∷ casing ∷ 0 ∷ 1 ∷ block ∷ unset ∷ top ∷ []

abbrev pub default : List ℕ
default = options 0 50 unset

abbrev pub ample : ℕ
ample = 65536

abbrev pub text : String → ℕ → ℕ → Answer
text v l w = laid (bytes v) l w

abbrev pub sheet : List ℕ → QueryParams → List (List ℕ) → List Token → ℕ → Answer → Sample
sheet op ps keep ts room a = record { sheet = encode op ps keep ts; room = room; wanted = a }

abbrev pub plain : List ℕ → List Token → ℕ → Answer → Sample
plain op ts room a = sheet op NoParams [] ts room a

-- ---- the sheets

abbrev pub sheet3 : List Token
sheet3 = T "SELECT" ∷ S " " ∷ W "id" ∷ S " " ∷ T "FROM" ∷ S " " ∷ W "calls" ∷ []

abbrev pub sheet6 : List Token
sheet6 = tok kind.LineComment "-- fmt: off" ∷ S "\n" ∷ P "?" ∷ W "x" ∷ tok kind.LineComment "-- fmt: on" ∷ S "\n" ∷ P "?" ∷ []

abbrev pub sheet8 : List Token
sheet8 = tok kind.OpenParen "(" ∷ W "a" ∷ tok kind.CloseParen ")" ∷ []

abbrev pub CREATE : Token
CREATE = record { kind = kind.ReservedTopLevel; value = bytes "CREATE"; key = absent; create = true }

abbrev pub line : Token
line = record { kind = kind.Placeholder; value = bytes ":line"; key = named (bytes "line"); create = false }

abbrev pub lines34 : QueryParams
lines34 = Named (record { name = bytes "line"; value = bytes "3" } ∷ record { name = bytes "line"; value = bytes "4" } ∷ [])

abbrev pub is_null : List Token
is_null = tok kind.Reserved "is  null" ∷ []

abbrev pub starred : List Sample
starred =
    plain default [] ample (text "" 0 0)
    ∷ plain default (W "a" ∷ []) ample (text "a" 1 1)
    ∷ plain default (W "a" ∷ []) 2 (text "a" 1 1)
    ∷ plain default (W "a" ∷ []) 1 (refusal 9 0)
    ∷ plain default sheet3 ample (text "SELECT\n  id\nFROM\n  calls" 4 7)
    ∷ plain default sheet3 26 (text "SELECT\n  id\nFROM\n  calls" 4 7)
    ∷ plain default sheet3 25 (refusal 9 6)
    ∷ plain (options 0 50 5) sheet3 ample (text "SELECT id\nFROM\n  calls" 3 9)
    ∷ plain (options 0 50 6) sheet3 ample (text "SELECT id\nFROM calls" 2 10)
    ∷ sheet default (Indexed (bytes "7" ∷ bytes "12" ∷ [])) [] (P "?" ∷ P "?" ∷ P "?" ∷ []) ample (text "7 12 ?" 1 6)
    ∷ sheet default (Indexed (bytes "7" ∷ [])) [] sheet6 ample (text "?x7" 1 3)
    ∷ plain default (tok kind.LineComment "-- fmt: on" ∷ W "x" ∷ W "y" ∷ []) ample (text "y" 1 1)
    ∷ plain (options 0 3 unset) sheet8 ample (text "(a)" 1 3)
    ∷ plain (options 0 2 unset) sheet8 ample (text "(\n  a\n)" 3 3)
    ∷ plain (options 0 0 0) (T "FROM" ∷ sheet8) ample (text "FROM (\n  a\n)" 3 6)
    ∷ plain (options 0 0 0) (CREATE ∷ sheet8) ample (refusal 8 3)
    ∷ sheet default lines34 [] (line ∷ []) ample (text "3" 1 1)
    ∷ plain (options 1 50 unset) is_null ample (text "IS NULL" 1 7)
    ∷ sheet (options 1 50 unset) NoParams (bytes "is  null" ∷ []) is_null ample (text "is null" 1 7)
    ∷ []

pub starred-right : map given starred ≡ map wanted starred
unfolding computed encode
starred-right = refl
