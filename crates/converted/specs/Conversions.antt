-- Sheets with what converting gives, as one table under one claim.
use Rattle.std.specs.Prelude.{◌≡◌, refl, List, [], ◌∷◌, ◌++◌, map, ℕ}
use Rattle.rules.specs.Words.{words_bytes}
use Rattle.rules.specs.Computed.{computed}
use Rattle.rules.specs.Answer.{is_withdrawn}
use Rattle.converted.specs.Converted.{converted, Conversion, converts, refusal, convert_as, convert}

-- a sheet, and what is due
pub record Sample : Type 0 where
  pub sheet : List ℕ
  pub wanted : Conversion

abbrev row : List ℕ → Conversion → Sample
row s w = record { sheet = s; wanted = w }

-- one token over one body byte: word 7, the start of its value, and the byte
abbrev of : ℕ → ℕ → ℕ → List ℕ
of inline start byte =
    words_bytes (1 ∷ 0 ∷ 0 ∷ 1 ∷ 0 ∷ 2 ∷ 0 ∷ inline ∷ 1 ∷ 50 ∷ 1 ∷ 1 ∷ 15 ∷ start ∷ 1 ∷ 0 ∷ 0 ∷ []) ++ byte ∷ []

abbrev pub conversions : List Sample
conversions =
    row (of 0 0 97) (converts (of 0 0 97) 0)
    ∷ row (of 1 0 97) (converts (of 2 0 97) 1)
    ∷ row (of 2 0 97) (converts (of 2 0 97) 0)
    ∷ row (of 3 0 97) (refusal 2 28)
    ∷ row (of 257 0 97) (refusal 2 28)
    ∷ row (of 16777217 0 97) (refusal 2 28)
    ∷ row (of 1 1 97) (refusal 3 52)
    ∷ row (of 1 0 128) (refusal 4 68)
    ∷ row (of 1 0 97 ++ 0 ∷ []) (refusal 1 0)
    ∷ row (words_bytes (0 ∷ 0 ∷ 0 ∷ 0 ∷ 0 ∷ 2 ∷ 0 ∷ 1 ∷ [])) (refusal 1 0)
    ∷ row [] (refusal 1 0)
    ∷ []

abbrev given : Sample → Conversion
given r = convert r.sheet

abbrev wanted : Sample → Conversion
wanted r = r.wanted

pub conversions-right : map given conversions ≡ map wanted conversions
unfolding computed is_withdrawn converted convert_as convert
conversions-right = refl
