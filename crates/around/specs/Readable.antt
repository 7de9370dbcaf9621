-- What a reader around a token asks of a sheet.
use Rattle.std.specs.Prelude.{List, ℕ, ◌≤◌, length}
use Rattle.tokens.specs.Placed.{Placed}

-- the tokens lie within it, and it is short: no sum of lengths wraps
pub record Readable (s : List ℕ) (base n : ℕ) : Type 0 where
  pub placed : Placed s base n
  pub short : length s ≤ 65536
