-- The two heads, in a slice of any length.
use Rattle.std.specs.Prelude.{if◌then◌else◌, ◌≡◌, refl, List, [], ◌∷◌, ◌++◌, ℕ, ◌-◌, leb, replicate}
use Rattle.rules.specs.Words.{words_bytes}
use Rattle.rules.specs.Sheets.{default}

-- n, p, k, b and mode zero; 2 spaces, case as is, inline 0, 1 line, block 50, arguments None; word 11 as given
unfoldable pub head_with : ℕ → List ℕ
head_with top = words_bytes (0 ∷ 0 ∷ 0 ∷ 0 ∷ 0 ∷ 2 ∷ 0 ∷ 0 ∷ 1 ∷ 50 ∷ 4294967295 ∷ top ∷ [])

abbrev pub default_head : List ℕ
default_head = head_with 60

-- the defaults of the Rust's repository: word 11 is None
abbrev pub rust_head : List ℕ
rust_head = head_with 4294967295

-- the options that document 01's sheets take by default are the Rust's
pub rust_options : rust_head ≡ words_bytes (0 ∷ 0 ∷ 0 ∷ 0 ∷ 0 ∷ default)
unfolding head_with
rust_options = refl

-- what is written of a head into a slice of n bytes, and what is returned
abbrev pub head_written : List ℕ → ℕ → List ℕ
head_written head n = if leb 48 n then head ++ replicate (n - 48) 0 else replicate n 0

abbrev pub head_returned : ℕ → ℕ
head_returned n = if leb 48 n then 48 else 0
