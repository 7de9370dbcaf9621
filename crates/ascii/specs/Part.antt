-- A part of a list of bytes.
use Rattle.std.specs.Prelude.{if◌then◌else◌, Bool, ◌||◌, List, [], ◌∷◌, ℕ, suc, ◌+◌, ◌*◌, ◌<◌, eqb, take, drop}
use Rattle.rules.specs.Base.{any_of}

-- the n bytes of s from index start
abbrev pub part : List ℕ → ℕ → ℕ → List ℕ
part s start n = take n (drop start s)

-- the number whose digits are these, the lowest first
abbrev pub number : List ℕ → ℕ
number [] = 0
number (x ∷ xs) = x + 256 * number xs

abbrev pub Bytes : List ℕ → Type 0
Bytes [] = Unit {0}
Bytes (x ∷ xs) = (x < 256) × Bytes xs

-- one of two bytes is there
abbrev pub has : ℕ → ℕ → List ℕ → Bool
has a b v = any_of (λ x. eqb x a || eqb x b) v

-- how many bytes stand before the first b
abbrev pub before : ℕ → List ℕ → ℕ
before b [] = 0
before b (x ∷ xs) = if eqb x b then 0 else suc (before b xs)
