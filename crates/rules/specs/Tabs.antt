-- Texts and sheets with tabs, each as one table under one claim: the width goes by columns, and a tab goes to the next multiple of 8.
use Rattle.std.specs.Prelude.{◌≡◌, refl, List, [], ◌∷◌, map, ℕ}
use Prim.Native.String.{String}
use Rattle.rules.specs.declared.TokenKind.TheVariants as kind
use Rattle.rules.specs.Bytes.{bytes}
use Rattle.rules.specs.Sheet.{Indexed}
use Rattle.rules.specs.Text.{lines, width}
use Rattle.rules.specs.Encode.{encode}
use Rattle.rules.specs.Computed.{Sample, given, wanted, computed}
use Rattle.rules.specs.Sheets.{tok, W, S, T, P, unset, default, ample, text, sheet, plain, sheet3, sheet8}

-- ---- texts

pub record Measured : Type 0 where
  pub bytes : List ℕ
  pub lines : ℕ
  pub width : ℕ

abbrev of : String → ℕ → ℕ → Measured
of v l w = record { bytes = bytes v; lines = l; width = w }

abbrev measured : Measured → Measured
measured r = record { bytes = r.bytes; lines = lines r.bytes; width = width r.bytes }

abbrev pub tabbed : List Measured
tabbed =
    of "" 0 0
    ∷ of "abc\nde" 2 3
    ∷ of "a\tb" 1 9
    ∷ of "abcdefg\tb" 1 9
    ∷ of "abcdefgh\tb" 1 17
    ∷ of "abcdefg\t" 1 8
    ∷ of "abcdefgh\t" 1 16
    ∷ of "\t" 1 8
    ∷ of "\t\t" 1 16
    ∷ of "a\tb\tc\td" 1 25
    ∷ of "a\t\nabc" 2 8
    ∷ of "abcd\n\tab\n\n" 4 10
    ∷ of "abcdefgh\na\tb" 2 9
    ∷ of "ab\rcd" 1 5
    ∷ of "a\r\tb" 1 9
    ∷ of "a\u{b}\u{c}\0b" 1 5
    ∷ []

pub tabbed-right : map measured tabbed ≡ tabbed
tabbed-right = refl

-- ---- sheets: tabs of the indent, of values, of an entry and of comments

-- words 5 to 11 of the default head, with tabs for an indent, and the block
abbrev by_tabs : ℕ → List ℕ
by_tabs block = 256 ∷ 0 ∷ 0 ∷ 1 ∷ block ∷ unset ∷ unset ∷ []

abbrev pub tab_sheets : List Sample
tab_sheets =
    plain (by_tabs 50) sheet3 ample (text "SELECT\n\tid\nFROM\n\tcalls" 4 13)
    ∷ plain (by_tabs 0) (T "FROM" ∷ S " " ∷ sheet8) ample (text "FROM\n\t(\n\t\ta\n\t)" 4 17)
    ∷ plain default (W "a\tb" ∷ []) ample (text "a\tb" 1 9)
    ∷ plain default (W "abcdefgh\tb" ∷ W "c" ∷ []) ample (text "abcdefgh\tb c" 1 19)
    ∷ plain default (W "a\t" ∷ []) ample (text "a" 1 1)
    ∷ sheet default (Indexed (bytes "7\t8" ∷ [])) [] (W "abcdefg" ∷ P "?" ∷ []) ample (text "abcdefg 7\t8" 1 17)
    ∷ plain default (tok kind.LineComment "--\tc" ∷ W "a" ∷ []) ample (text "--\tc\na" 2 9)
    ∷ plain default (tok kind.BlockComment "/*\n\ta\tb */" ∷ []) ample (text "/*\n a\tb */" 2 12)
    ∷ []

pub tabs-right : map given tab_sheets ≡ map wanted tab_sheets
unfolding computed encode
tabs-right = refl
