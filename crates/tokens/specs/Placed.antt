-- What a reader of tokens asks of a sheet: each token's record in the file, its value and its name in the bodies.
use Rattle.std.specs.Prelude.{◌≡◌, List, ℕ, ◌+◌, ◌*◌, ◌≤◌, ◌<◌, length, Some}
use Rattle.rules.specs.declared.Place.{Place}
use Rattle.rules.specs.declared.PlaceholderKind.TheVariants as key
use Rattle.rules.specs.Words.{tokens_at, token_at}

-- a place lies in the bodies, base being the offset of the first body byte
pub record Inside (s : List ℕ) (base : ℕ) (p : Place) : Type 0 where
  pub inside : base + (p.start + p.len) ≤ length s

-- so do the value of token i and its name, if it has one
pub record Within (s : List ℕ) (base i : ℕ) : Type 0 where
  pub record_in : tokens_at + 20 * i + 20 ≤ length s
  pub value_in : Inside s base (token_at s i).value
  pub name_in : (p : Place) → (token_at s i).key ≡ Some (key.Named p) → Inside s base p

-- so for all n
pub record Placed (s : List ℕ) (base n : ℕ) : Type 0 where
  pub few : n ≤ 1024
  pub within : (i : ℕ) → i < n → Within s base i
