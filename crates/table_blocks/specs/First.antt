-- The first place with a property, from one place on; n where there is none.
use Rattle.std.specs.Prelude.{◌≡◌, Bool, true, false, ◌&&◌, ℕ, ◌+◌, ◌≤◌, ◌<◌, eqb}
use Rattle.rules.specs.declared.Part.{Part}
use Rattle.rules.specs.declared.Part.TheVariants as part
use Rattle.rules.specs.Tokens.{Token}
use Rattle.rules.specs.InlineBlock.{is_top}
use Rattle.table_blocks.specs.Sums.{part_at, depth}

pub record First (g : ℕ → Bool) (j n m : ℕ) : Type 0 where
  pub past : j ≤ m
  pub up_to : m ≤ n
  pub none : (k : ℕ) → j ≤ k → k < m → g k ≡ false
  pub here : m < n → g m ≡ true

abbrev pub is_close : Part → Bool
is_close part.Top = false
is_close part.Newline = false
is_close part.Open = false
is_close part.Close = true
is_close part.Comment = false
is_close part.Rest = false

-- a top-level word
abbrev pub top_at : (ℕ → Token) → ℕ → Bool
top_at f k = is_top (part_at f k)

-- one whose depth is d
abbrev pub top_of : (ℕ → Token) → ℕ → ℕ → Bool
top_of f d k = is_top (part_at f k) && eqb d (depth f k)

-- a close that leaves the depth d
abbrev pub close_to : (ℕ → Token) → ℕ → ℕ → Bool
close_to f d k = is_close (part_at f k) && eqb (depth f k) (d + 1)
