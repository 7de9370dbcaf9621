-- A bound on an entry's number.
use Rattle.std.specs.Prelude.{◌≡◌, ℕ, ◌<◌, Option, Some}

-- its number is below k
abbrev pub Below : ℕ → Option ℕ → Type 0
Below k e = (j : ℕ) → e ≡ Some j → j < k
