-- Sheets with the sums of Wish 9, as one table under one claim, read from their bytes.
use Rattle.std.specs.Prelude.{◌≡◌, refl, false, List, [], ◌∷◌, ◌++◌, map, ℕ}
use Prim.Native.String.{String}
use Rattle.rules.specs.declared.TokenKind.TheVariants as kind
use Rattle.rules.specs.declared.Outcome.{Outcome}
use Rattle.rules.specs.Bytes.{bytes}
use Rattle.rules.specs.Tokens.{Token, one_indexed}
use Rattle.rules.specs.Sheet.{QueryParams, NoParams, Indexed, Named}
use Rattle.rules.specs.Encode.{encode}
use Rattle.rules.specs.Answer.{refusal}
use Rattle.rules.specs.Rows.{lays_out}
use Rattle.rules.specs.Compacted.{outcome_of}
use Rattle.rules.specs.Room.{full_indent, room_laid_out, shown_by, room_of, counter_after, room_from, room, room_as, room_for}
use Rattle.rules.specs.Sheets.{tok, W, S, P, unset, options, default, text, plain, sheet3, sheet6}
use Rattle.rules.specs.Computed.{Sample, given, wanted, computed}

-- a sheet, and what is due
pub record Needed : Type 0 where
  pub sheet : List ℕ
  pub due : Outcome

abbrev needs : List ℕ → QueryParams → List Token → ℕ → Needed
needs op ps ts n = record { sheet = encode op ps [] ts; due = record { refusal = 0; place = 0; length = n } }

abbrev refused_at : List ℕ → ℕ → ℕ → Needed
refused_at s n p = record { sheet = s; due = record { refusal = n; place = p; length = 0 } }

-- words 5 to 11: the indent, inline, the lines between queries
abbrev head : ℕ → ℕ → ℕ → List ℕ
head width on lines = width ∷ 0 ∷ on ∷ lines ∷ 50 ∷ unset ∷ unset ∷ []

-- no indent: a token laid out counts 3 besides its value; with two blanks 515
abbrev flat : List ℕ
flat = head 0 0 1

abbrev comment : String → Token
comment v = tok kind.LineComment v

-- a placeholder whose number, counted from one, is nought
abbrev nought : String → Token
nought v = record { kind = kind.Placeholder; value = bytes v; key = one_indexed (record { 0 = 0 }); create = false }

-- a comment two after a comma that was dropped
abbrev to_last : List Token
to_last = comment "-- fmt: on" ∷ W "," ∷ S " " ∷ comment "--" ∷ []

-- the indent, and word 7 at its two values
abbrev pub indented : List Needed
indented =
    needs default NoParams [] 0
    ∷ needs default NoParams (W "a" ∷ []) 516
    ∷ needs (head 256 0 1) NoParams (W "a" ∷ []) 260
    ∷ needs flat NoParams (W "a" ∷ []) 4
    ∷ needs (head 2 2 1) NoParams (W "a" ∷ []) 516
    ∷ needs default NoParams sheet3 2077
    ∷ []

-- line feeds and `;`, in a token of any kind and in an entry
abbrev pub lined : List Needed
lined =
    needs default NoParams (tok kind.BlockComment "/*\n*/" ∷ []) 777
    ∷ needs flat NoParams (W "\n\na" ∷ []) 8
    ∷ needs (head 2 0 3) NoParams (W ";" ∷ []) 519
    ∷ needs (head 0 0 3) NoParams (tok kind.Reserved ";" ∷ W ";;" ∷ []) 12
    ∷ needs (head 0 0 3) (Indexed (bytes ";" ∷ bytes "a\nb" ∷ [])) (P "?" ∷ P "?" ∷ []) 14
    ∷ []

-- placeholders: the entry that is shown, or the own value; one-based 0 counts its own under Indexed, and under Named the entry that it shows
abbrev pub filled : List Needed
filled =
    needs flat NoParams (P "?" ∷ []) 4
    ∷ needs flat (Indexed (bytes "7" ∷ bytes "12" ∷ [])) (P "?" ∷ P "?" ∷ P "?" ∷ []) 13
    ∷ needs flat (Indexed (bytes "long value" ∷ [])) (nought "$0" ∷ P "?" ∷ W "a" ∷ []) 22
    ∷ needs flat (Named (record { name = []; value = bytes "aaa" } ∷ [])) (nought "" ∷ []) 6
    ∷ []

-- copied text counts its length alone and moves no count; switch comments and dropped tokens count nothing
abbrev pub switched : List Needed
switched =
    needs default (Indexed (bytes "7" ∷ [])) sheet6 518
    ∷ needs flat (Indexed (bytes "long value" ∷ [])) sheet6 15
    ∷ needs default NoParams (comment "-- fmt: off" ∷ W "dropped" ∷ W "a\nb" ∷ S "  " ∷ W ";" ∷ []) 6
    ∷ needs default NoParams (comment "-- fmt: on" ∷ W "dropped" ∷ W "a" ∷ []) 516
    ∷ needs flat NoParams to_last 5
    ∷ []

-- refusals 1 to 4 and 14 give 0, with the refusal beside it
abbrev pub faulty : List Needed
faulty =
    refused_at [] 1 0
    ∷ refused_at (encode (options 3 50 unset) NoParams [] (W "a" ∷ [])) 2 24
    ∷ refused_at (encode default NoParams [] (W "aé" ∷ [])) 4 69
    ∷ refused_at (encode (head 2 1 1) NoParams [] (W "a" ∷ [])) 14 28
    ∷ refused_at (encode (head 2 1 1) NoParams [] (W "aé" ∷ [])) 4 69
    ∷ []

abbrev pub rooms : List Needed
rooms = indented ++ lined ++ filled ++ switched ++ faulty

abbrev counted : Needed → Outcome
counted r = room_for r.sheet

abbrev due : Needed → Outcome
due r = r.due

pub rooms-right : map counted rooms ≡ map due rooms
unfolding computed lays_out outcome_of full_indent room_laid_out shown_by room_of counter_after room_from room room_as room_for encode
rooms-right = refl

-- ---- the sum can be needed to the last byte, at either value of word 7: two blanks, `--`, and a line feed or a blank

abbrev pub tight : List Sample
tight =
    plain flat to_last 5 (text "--" 1 2)
    ∷ plain flat to_last 4 (refusal 9 3)
    ∷ plain (head 0 2 1) to_last 5 (text "--" 1 2)
    ∷ plain (head 0 2 1) to_last 4 (refusal 9 3)
    ∷ []

pub tight-right : map given tight ≡ map wanted tight
unfolding computed encode
tight-right = refl
