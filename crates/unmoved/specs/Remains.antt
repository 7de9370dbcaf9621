-- What is left of some sheets' texts, as one table under one claim, read from their bytes.
use Rattle.std.specs.Prelude.{◌≡◌, refl, List, [], ◌∷◌, map, ℕ}
use Prim.Native.String.{String}
use Rattle.rules.specs.declared.TokenKind.TheVariants as kind
use Rattle.rules.specs.Bytes.{bytes}
use Rattle.rules.specs.Tokens.{Token}
use Rattle.rules.specs.Sheet.{QueryParams, Indexed}
use Rattle.rules.specs.Encode.{encode}
use Rattle.rules.specs.Computed.{computed, computed_list}
use Rattle.rules.specs.Sheets.{tok, W, T, P, default, ample, sheet6, line, lines34}
use Rattle.rows.specs.Listing.{start_at, len_at, entry_of, row_of, row_at, rows_in}
use Rattle.unmoved.specs.Unmoved.{plain, called, rows_of, removed, left, left_of}

-- a sheet, and what is left of its text
pub record Remains : Type 0 where
  pub sheet : List ℕ
  pub text : String

abbrev remains : QueryParams → List Token → String → Remains
remains ps ts v = record { sheet = encode default ps [] ts; text = v }

abbrev indexed : List String → QueryParams
indexed vs = Indexed (map bytes vs)

-- a list of two values
abbrev pub selected : List Token
selected = T "SELECT" ∷ P "?" ∷ tok kind.Operator "," ∷ P "?" ∷ T "FROM" ∷ W "calls" ∷ []

-- sheet 5, where the last shows itself; short values and long ones; a white first byte; a name; a value under the switch
abbrev pub remaining : List Remains
remaining =
    remains (indexed ("7" ∷ "12" ∷ [])) (P "?" ∷ P "?" ∷ P "?" ∷ []) "  ?"
    ∷ remains (indexed ("7" ∷ "12" ∷ [])) selected "SELECT\n  ,\n  \nFROM\n  calls"
    ∷ remains (indexed ("a long\n  note, kept" ∷ "b" ∷ [])) selected "SELECT\n  ,\n  \nFROM\n  calls"
    ∷ remains (indexed ("b" ∷ [])) (P "?" ∷ W "c" ∷ []) " c"
    ∷ remains (indexed ("\n b" ∷ [])) (P "?" ∷ W "c" ∷ []) " c"
    ∷ remains lines34 (line ∷ W "c" ∷ []) " c"
    ∷ remains (indexed ("7" ∷ [])) sheet6 "?x"
    ∷ []

pub remaining-right : map (λ (r : Remains). left_of r.sheet (called plain r.sheet ample 15)) remaining ≡ map (λ (r : Remains). bytes r.text) remaining
unfolding computed computed_list encode called rows_of removed left left_of start_at len_at entry_of row_of row_at rows_in
remaining-right = refl
