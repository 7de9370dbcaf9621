-- Sheets with word 7 at 2, as one table under one claim, read from their bytes: a line comment is closed by a line feed that no later cut takes.
use Rattle.std.specs.Prelude.{◌≡◌, refl, List, [], ◌∷◌, map, ℕ}
use Prim.Native.String.{String}
use Rattle.rules.specs.declared.TokenKind.TheVariants as kind
use Rattle.rules.specs.Tokens.{Token}
use Rattle.rules.specs.Encode.{encode}
use Rattle.rules.specs.Answer.{refusal}
use Rattle.rules.specs.Computed.{Sample, given, wanted, computed}
use Rattle.rules.specs.Sheets.{tok, W, T, unset, ample, text, plain, sheet8, CREATE}

-- ---- short names

abbrev L : String → Token
L v = tok kind.LineComment v

abbrev type_t : Token
type_t = tok kind.TypeSpecifier "::t"

-- words 5 to 11 of the default head, word 7 being i
abbrev inline_at : ℕ → List ℕ
inline_at i = 2 ∷ 0 ∷ i ∷ 1 ∷ 50 ∷ unset ∷ unset ∷ []

-- and with a block of 0 and a top level of 0
abbrev narrow_at : ℕ → List ℕ
narrow_at i = 2 ∷ 0 ∷ i ∷ 1 ∷ 0 ∷ unset ∷ 0 ∷ []

-- ---- the sheets

abbrev typed : List Token
typed = W "a" ∷ L "-- c" ∷ type_t ∷ []

abbrev fed : List Token
fed = L "-- c\n" ∷ []

abbrev pub commented : List Sample
commented =
    plain (inline_at 0) typed ample (text "a -- c::t" 1 9)
    ∷ plain (inline_at 1) typed ample (refusal 14 28)
    ∷ plain (inline_at 2) typed ample (text "a -- c\n::t" 2 6)
    ∷ plain (inline_at 2) (W "a" ∷ L "-- c" ∷ T "FROM" ∷ W "x" ∷ []) ample (text "a -- c\n FROM x" 2 7)
    ∷ plain (inline_at 1) fed 0 (refusal 14 28)
    ∷ plain (inline_at 2) fed 5 (text "-- c" 1 4)
    ∷ plain (inline_at 2) (W "a" ∷ tok kind.Operator ";" ∷ L "" ∷ type_t ∷ []) ample (text "a;\n::t" 2 3)
    ∷ plain (inline_at 2) (L "" ∷ W "a" ∷ []) ample (text "a" 1 1)
    ∷ plain (narrow_at 2) (CREATE ∷ sheet8) ample (text "CREATE ( a )" 1 12)
    ∷ plain (inline_at 3) [] ample (refusal 2 28)
    ∷ []

pub commented-right : map given commented ≡ map wanted commented
unfolding computed encode
commented-right = refl
