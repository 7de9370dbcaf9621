-- What is printed.
use Rattle.std.specs.Prelude.{◌≡◌, ◌≢◌, ◌⊎◌, List, ℕ, ◌++◌, ◌<◌, length, drop, codes, decimal}

-- of a refusal with a number, at a place
abbrev pub refusal_words : ℕ → ℕ → List ℕ
refusal_words number place = codes "refused " ++ decimal number ++ codes " at " ++ decimal place

-- what std puts before the number of the system's error
abbrev pub mark : List ℕ
mark = codes " (os error "

-- what stands before the first such number; all, where there is none
abbrev pub Unnumbered : List ℕ → List ℕ → Type 0
Unnumbered told words = ((rest : List ℕ) × (told ≡ words ++ (mark ++ rest)) × ((i : ℕ) → i < length words → (ys : List ℕ) → drop i told ≢ mark ++ ys)) ⊎ (((xs ys : List ℕ) → told ≢ xs ++ (mark ++ ys)) × (words ≡ told))
