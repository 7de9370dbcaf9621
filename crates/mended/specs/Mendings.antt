-- Sheets with what mending gives, as one table under one claim: the new sheet and the rows.
use Rattle.std.specs.Prelude.{◌≡◌, refl, List, [], ◌∷◌, ◌++◌, map, ℕ, ◌*◌, length, take}
use Prim.Native.String.{String}
use Rattle.rules.specs.Bytes.{bytes}
use Rattle.rules.specs.Words.{words_bytes}
use Rattle.rules.specs.Sheets.{default}
use Rattle.rules.specs.Computed.{computed}
use Rattle.mended.specs.Mended.{mended_mode, mended_head, mended_packed, place_word, key_word, mended_token, mended_param, mended_word, mended_byte, mended_words, mended_bytes, mended, Change, word_changes, byte_changes, changes, Mending, mends, refusal, mend_from, mend}

-- a sheet, the words of a report, and what is due
pub record Repair : Type 0 where
  pub sheet : List ℕ
  pub room : ℕ
  pub wanted : Mending

abbrev row : ℕ → ℕ → ℕ → Change
row at old new = record { at = at; old = old; new = new }

-- a report that just suffices
abbrev becomes : List ℕ → List ℕ → List Change → Repair
becomes s t rows = record { sheet = s; room = 3 * length rows; wanted = mends t rows }

abbrev stays : List ℕ → Repair
stays s = becomes s s []

-- words 0 to 4, words 5 to 11, the words of the records, and the bodies
abbrev of : List ℕ → List ℕ → List ℕ → String → List ℕ
of counts options records body = words_bytes (counts ++ options ++ records) ++ bytes body

-- no record: mode and options alone
abbrev head : ℕ → List ℕ → List ℕ
head mode options = of (0 ∷ 0 ∷ 0 ∷ 0 ∷ mode ∷ []) options [] ""

-- one token over one body byte
abbrev token : List ℕ → List ℕ
token fields = of (1 ∷ 0 ∷ 0 ∷ 1 ∷ 0 ∷ []) default fields "a"

-- one parameter over one body byte
abbrev param : ℕ → List ℕ → List ℕ
param mode fields = of (0 ∷ 1 ∷ 0 ∷ 1 ∷ mode ∷ []) default fields "a"

-- one keep word over one body byte
abbrev keep : List ℕ → List ℕ
keep fields = of (0 ∷ 0 ∷ 1 ∷ 1 ∷ 0 ∷ []) default fields "a"

-- words 5 to 8, and 9 to 11, which may be any
abbrev words : ℕ → ℕ → ℕ → ℕ → List ℕ
words indent casing inline lines = indent ∷ casing ∷ inline ∷ lines ∷ 4294967295 ∷ 0 ∷ 4294967294 ∷ []

-- ---- the head: each option word just above its bound, and at it; then the mode
abbrev pub heads : List Repair
heads =
    becomes (head 0 (words 257 1 1 0)) (head 0 (words 2 1 1 0)) (row 20 257 2 ∷ [])
    ∷ becomes (head 0 (words 3 3 1 0)) (head 0 (words 3 0 1 0)) (row 24 3 0 ∷ [])
    ∷ becomes (head 0 (words 3 1 3 0)) (head 0 (words 3 1 0 0)) (row 28 3 0 ∷ [])
    ∷ becomes (head 0 (words 3 1 1 256)) (head 0 (words 3 1 1 1)) (row 32 256 1 ∷ [])
    ∷ stays (head 0 (words 256 2 2 255))
    ∷ stays (head 0 (words 0 0 1 0))
    ∷ becomes (head 3 default) (head 0 default) (row 16 3 0 ∷ [])
    ∷ stays (head 1 default)
    ∷ stays (head 2 default)
    ∷ []

-- ---- tokens: the packed word, the places, the keys by the new class
abbrev pub tokens : List Repair
tokens =
    becomes (token (177 ∷ 0 ∷ 1 ∷ 1 ∷ 2 ∷ [])) (token (15 ∷ 0 ∷ 1 ∷ 0 ∷ 0 ∷ [])) (row 48 177 15 ∷ row 60 1 0 ∷ row 64 2 0 ∷ [])
    ∷ becomes (token (260 ∷ 0 ∷ 1 ∷ 0 ∷ 0 ∷ [])) (token (15 ∷ 0 ∷ 1 ∷ 0 ∷ 0 ∷ [])) (row 48 260 15 ∷ [])
    ∷ becomes (token (337 ∷ 0 ∷ 1 ∷ 5 ∷ 0 ∷ [])) (token (15 ∷ 0 ∷ 1 ∷ 0 ∷ 0 ∷ [])) (row 48 337 15 ∷ row 60 5 0 ∷ [])
    ∷ becomes (token (15 ∷ 0 ∷ 2 ∷ 0 ∷ 0 ∷ [])) (token (15 ∷ 0 ∷ 0 ∷ 0 ∷ 0 ∷ [])) (row 56 2 0 ∷ [])
    ∷ becomes (token (15 ∷ 2 ∷ 0 ∷ 0 ∷ 0 ∷ [])) (token (15 ∷ 0 ∷ 0 ∷ 0 ∷ 0 ∷ [])) (row 52 2 0 ∷ [])
    ∷ becomes (token (15 ∷ 4294967295 ∷ 4294967295 ∷ 0 ∷ 0 ∷ [])) (token (15 ∷ 0 ∷ 0 ∷ 0 ∷ 0 ∷ [])) (row 52 4294967295 0 ∷ row 56 4294967295 0 ∷ [])
    ∷ stays (token (15 ∷ 1 ∷ 0 ∷ 0 ∷ 0 ∷ []))
    ∷ becomes (token (15 ∷ 0 ∷ 1 ∷ 7 ∷ 8 ∷ [])) (token (15 ∷ 0 ∷ 1 ∷ 0 ∷ 0 ∷ [])) (row 60 7 0 ∷ row 64 8 0 ∷ [])
    ∷ becomes (token (79 ∷ 0 ∷ 1 ∷ 5 ∷ 6 ∷ [])) (token (79 ∷ 0 ∷ 1 ∷ 5 ∷ 0 ∷ [])) (row 64 6 0 ∷ [])
    ∷ becomes (token (111 ∷ 0 ∷ 1 ∷ 0 ∷ 6 ∷ [])) (token (111 ∷ 0 ∷ 1 ∷ 0 ∷ 0 ∷ [])) (row 64 6 0 ∷ [])
    ∷ becomes (token (46 ∷ 0 ∷ 1 ∷ 1 ∷ 1 ∷ [])) (token (46 ∷ 0 ∷ 1 ∷ 0 ∷ 0 ∷ [])) (row 60 1 0 ∷ row 64 1 0 ∷ [])
    ∷ stays (token (176 ∷ 0 ∷ 1 ∷ 0 ∷ 1 ∷ []))
    ∷ []

-- ---- parameters, names by the new mode; keep words
abbrev pub records : List Repair
records =
    becomes (param 0 (1 ∷ 9 ∷ 0 ∷ 1 ∷ [])) (param 1 (0 ∷ 0 ∷ 0 ∷ 1 ∷ [])) (row 16 0 1 ∷ row 48 1 0 ∷ row 52 9 0 ∷ [])
    ∷ becomes (param 3 (0 ∷ 1 ∷ 0 ∷ 1 ∷ [])) (param 1 (0 ∷ 0 ∷ 0 ∷ 1 ∷ [])) (row 16 3 1 ∷ row 52 1 0 ∷ [])
    ∷ becomes (param 1 (0 ∷ 1 ∷ 0 ∷ 1 ∷ [])) (param 1 (0 ∷ 0 ∷ 0 ∷ 1 ∷ [])) (row 52 1 0 ∷ [])
    ∷ becomes (param 2 (1 ∷ 1 ∷ 0 ∷ 1 ∷ [])) (param 2 (0 ∷ 0 ∷ 0 ∷ 1 ∷ [])) (row 48 1 0 ∷ row 52 1 0 ∷ [])
    ∷ becomes (param 2 (0 ∷ 1 ∷ 1 ∷ 1 ∷ [])) (param 2 (0 ∷ 1 ∷ 0 ∷ 0 ∷ [])) (row 56 1 0 ∷ row 60 1 0 ∷ [])
    ∷ stays (param 2 (1 ∷ 0 ∷ 0 ∷ 1 ∷ []))
    ∷ becomes (keep (0 ∷ 2 ∷ [])) (keep (0 ∷ 0 ∷ [])) (row 52 2 0 ∷ [])
    ∷ stays (keep (1 ∷ 0 ∷ []))
    ∷ []

-- ---- body bytes, from 128 on; all kinds in file order
abbrev pub bodies : List Repair
bodies =
    becomes (of (0 ∷ 0 ∷ 0 ∷ 4 ∷ 0 ∷ []) default [] "" ++ 127 ∷ 128 ∷ 0 ∷ 255 ∷ []) (of (0 ∷ 0 ∷ 0 ∷ 4 ∷ 0 ∷ []) default [] "" ++ 127 ∷ 63 ∷ 0 ∷ 63 ∷ []) (row 49 128 63 ∷ row 51 255 63 ∷ [])
    ∷ becomes (of (1 ∷ 1 ∷ 1 ∷ 1 ∷ 0 ∷ []) (words 257 3 3 256) (17 ∷ 1 ∷ 1 ∷ 0 ∷ 3 ∷ 0 ∷ 1 ∷ 9 ∷ 0 ∷ 2 ∷ 0 ∷ []) "" ++ 200 ∷ []) (of (1 ∷ 1 ∷ 1 ∷ 1 ∷ 1 ∷ []) (words 2 0 0 1) (15 ∷ 0 ∷ 0 ∷ 0 ∷ 0 ∷ 0 ∷ 0 ∷ 0 ∷ 0 ∷ 0 ∷ 0 ∷ []) "" ++ 63 ∷ [])
    (row 16 0 1 ∷ row 20 257 2 ∷ row 24 3 0 ∷ row 28 3 0 ∷ row 32 256 1 ∷ row 48 17 15 ∷ row 52 1 0 ∷ row 56 1 0 ∷ row 64 3 0 ∷ row 72 1 0 ∷ row 76 9 0 ∷ row 84 2 0 ∷ row 92 200 63 ∷ [])
    ∷ []

-- ---- 13 where the report is a word too short; 1 comes first, at a count or a length
abbrev pub refusals : List Repair
refusals =
    record { sheet = token (15 ∷ 0 ∷ 2 ∷ 0 ∷ 0 ∷ []); room = 2; wanted = refusal 13 }
    ∷ record { sheet = token (15 ∷ 0 ∷ 2 ∷ 0 ∷ 0 ∷ []); room = 4; wanted = mends (token (15 ∷ 0 ∷ 0 ∷ 0 ∷ 0 ∷ [])) (row 56 2 0 ∷ []) }
    ∷ record { sheet = of (1 ∷ 0 ∷ 0 ∷ 2 ∷ 3 ∷ []) default (15 ∷ 0 ∷ 2 ∷ 0 ∷ 0 ∷ []) "a"; room = 0; wanted = refusal 1 }
    ∷ record { sheet = of (1025 ∷ 0 ∷ 0 ∷ 0 ∷ 0 ∷ []) default [] ""; room = 0; wanted = refusal 1 }
    ∷ record { sheet = []; room = 0; wanted = refusal 1 }
    ∷ []

abbrev pub repairs : List Repair
repairs = heads ++ tokens ++ records ++ bodies ++ refusals

abbrev given : Repair → Mending
given r = mend r.sheet r.room

abbrev wanted : Repair → Mending
wanted r = r.wanted

pub repairs-right : map given repairs ≡ map wanted repairs
unfolding computed mended_mode mended_head mended_packed place_word key_word mended_token mended_param mended_word mended_byte mended_words mended_bytes mended word_changes byte_changes changes mend_from mend
repairs-right = refl

-- the defaults of `mended_head` are those of the Rust
pub defaults_right : map (mended_head (head 0 (words 257 3 3 256))) (20 ∷ 24 ∷ 28 ∷ 32 ∷ []) ≡ take 4 default
unfolding computed mended_head
defaults_right = refl
