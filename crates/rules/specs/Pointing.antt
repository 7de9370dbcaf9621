-- Sheets for the call with a list, as one table under one claim, read from their bytes: the answer, and the list's words.
use Rattle.std.specs.Prelude.{◌≡◌, refl, false, List, [], ◌∷◌, ◌++◌, map, ℕ, replicate}
use Prim.Native.String.{String}
use Rattle.rules.specs.declared.TokenKind.TheVariants as kind
use Rattle.rules.specs.Bytes.{bytes}
use Rattle.rules.specs.Tokens.{Key, zero_indexed, one_indexed, Token}
use Rattle.rules.specs.Sheet.{QueryParams, NoParams, Indexed, Named}
use Rattle.rules.specs.Encode.{encode}
use Rattle.rules.specs.Answer.{Answer, refusal}
use Rattle.rules.specs.Rows.{listed, list_after}
use Rattle.rules.specs.Computed.{computed, computed_list}
use Rattle.rules.specs.Sheets.{tok, W, S, P, unset, options, default, ample, text, sheet6}

-- ---- short names

pub record Outcome : Type 0 where
  pub answer : Answer
  pub list : List ℕ

-- a sheet, and a list of so many words
pub record Listing : Type 0 where
  pub sheet : List ℕ
  pub words : ℕ
  pub wanted : Outcome

abbrev pub given : Listing → Outcome
given l = record { answer = listed l.sheet ample l.words; list = list_after l.sheet ample l.words }

abbrev pub wanted : Listing → Outcome
wanted l = l.wanted

abbrev listing : QueryParams → List Token → ℕ → Answer → List ℕ → Listing
listing ps ts k a l = record { sheet = encode default ps [] ts; words = k; wanted = record { answer = a; list = l } }

abbrev indexed : List String → QueryParams
indexed vs = Indexed (map bytes vs)

abbrev calling : String → String → QueryParams
calling a b = Named (record { name = bytes "a"; value = bytes "1" } ∷ record { name = bytes a; value = bytes "2" } ∷ record { name = bytes b; value = bytes "3" } ∷ [])

-- a row that starts in the first 2 ^ 32 bytes
abbrev row : ℕ → ℕ → ℕ → ℕ → List ℕ
row token entry start len = token ∷ entry ∷ start ∷ 0 ∷ len ∷ []

abbrev keyed : Key → Token
keyed k = record { kind = kind.Placeholder; value = bytes "?"; key = k; create = false }

abbrev one_based : ℕ → Token
one_based n = keyed (one_indexed (record { 0 = n }))

abbrev zero_based : ℕ → Token
zero_based n = keyed (zero_indexed (record { 0 = n }))

abbrev sign : String → Token
sign v = tok kind.Operator v

-- ---- the sheets

-- sheet 5; more words than rows; too few
abbrev pub counted : List Listing
counted =
    listing (indexed ("7" ∷ "12" ∷ [])) (P "?" ∷ P "?" ∷ P "?" ∷ []) 15 (text "7 12 ?" 1 6) (row 0 0 0 1 ++ row 1 1 2 2 ++ row 2 unset 5 1)
    ∷ listing (indexed ("7" ∷ "12" ∷ [])) (P "?" ∷ P "?" ∷ P "?" ∷ []) 18 (text "7 12 ?" 1 6) (row 0 0 0 1 ++ row 1 1 2 2 ++ row 2 unset 5 1 ++ replicate 3 0)
    ∷ listing (indexed ("7" ∷ "12" ∷ [])) (P "?" ∷ P "?" ∷ P "?" ∷ []) 14 (refusal 10 0) (replicate 14 0)
    ∷ listing NoParams [] 2 (text "" 0 0) (replicate 2 0)
    ∷ []

-- white values: a cut and the trims reach into a value, and past it
abbrev pub reached : List Listing
reached =
    listing (indexed (" \n" ∷ "x" ∷ [])) (P "?" ∷ P "?" ∷ []) 10 (text "x" 1 1) (row 0 0 0 0 ++ row 1 1 0 1)
    ∷ listing (indexed ("ab\n " ∷ [])) (P "?" ∷ sign "," ∷ W "c" ∷ []) 5 (text "ab\n,\nc" 3 2) (row 0 0 0 3)
    ∷ listing (indexed (" " ∷ [])) (W "a" ∷ P "?" ∷ sign "." ∷ []) 5 (text "a." 1 2) (row 1 0 1 0)
    ∷ listing (indexed (" " ∷ " " ∷ [])) (W "a" ∷ P "?" ∷ P "?" ∷ sign "." ∷ []) 10 (text "a." 1 2) (row 1 0 1 0 ++ row 2 1 1 0)
    ∷ listing (indexed ("a\n" ∷ [])) (P "?" ∷ tok kind.TypeSpecifier "::t" ∷ []) 5 (text "a::t" 1 4) (row 0 0 0 1)
    ∷ listing (indexed (" a " ∷ "b\n" ∷ [])) (P "?" ∷ P "?" ∷ []) 10 (text "a  b" 1 4) (row 0 0 0 2 ++ row 1 1 3 1)
    ∷ listing (indexed ("x\n" ∷ [])) (P "," ∷ S " " ∷ tok kind.LineComment "-- c" ∷ []) 5 (text "x  -- c" 1 7) (row 0 0 0 1)
    ∷ listing (indexed ("" ∷ [])) (P "?" ∷ []) 5 (text "" 0 0) (row 0 0 0 0)
    ∷ []

-- an entry that equals the token's own value; a number under Named shows the first entry with an empty name
abbrev pub sourced : List Listing
sourced =
    listing (indexed ("?" ∷ [])) (P "?" ∷ P "?" ∷ []) 10 (text "? ?" 1 3) (row 0 0 0 1 ++ row 1 unset 2 1)
    ∷ listing (indexed ("7" ∷ "8" ∷ [])) (zero_based 1 ∷ one_based 1 ∷ P "?" ∷ []) 15 (text "8 7 7" 1 5) (row 0 1 0 1 ++ row 1 0 2 1 ++ row 2 0 4 1)
    ∷ listing (calling "" "") (zero_based 0 ∷ one_based 0 ∷ []) 10 (text "2 2" 1 3) (row 0 1 0 1 ++ row 1 1 2 1)
    ∷ listing (calling "b" "c") (zero_based 0 ∷ []) 5 (text "?" 1 1) (row 0 unset 0 1)
    ∷ []

-- the switch alone decides which have a row; 10 comes after 2 and 14 and before 5
abbrev pub switched : List Listing
switched =
    listing (indexed ("7" ∷ [])) sheet6 5 (text "?x7" 1 3) (row 6 0 2 1)
    ∷ listing (indexed ("7" ∷ [])) (tok kind.LineComment "-- fmt: off" ∷ S "\n" ∷ P "?" ∷ P "?" ∷ []) 0 (text "??" 1 2) []
    ∷ listing (indexed ("7" ∷ [])) (one_based 0 ∷ P "?" ∷ []) 9 (refusal 10 0) (replicate 9 0)
    ∷ listing (indexed ("7" ∷ [])) (P "?" ∷ one_based 0 ∷ []) 10 (refusal 5 1) (replicate 10 0)
    ∷ record { sheet = encode (options 3 50 unset) NoParams [] (P "?" ∷ []); words = 4; wanted = record { answer = refusal 2 24; list = replicate 4 0 } }
    ∷ record { sheet = encode (2 ∷ 0 ∷ 1 ∷ 1 ∷ 50 ∷ unset ∷ unset ∷ []) NoParams [] (P "?" ∷ []); words = 4; wanted = record { answer = refusal 14 28; list = replicate 4 0 } }
    ∷ []

abbrev pub pointing : List Listing
pointing = counted ++ reached ++ sourced ++ switched

pub pointing-right : map given pointing ≡ map wanted pointing
unfolding computed computed_list encode
pointing-right = refl
