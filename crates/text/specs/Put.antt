-- Writing over a list.
use Rattle.std.specs.Prelude.{◌≡◌, List, ◌++◌, ℕ, ◌+◌, ◌-◌, ◌≤◌, length, take, drop, replicate}
use Rattle.ascii.specs.Part.{part}

-- the list d with p written over it from index at
unfoldable pub put : List ℕ → ℕ → List ℕ → List ℕ
put d at p = take at d ++ p ++ drop (at + length p) d

-- from index r up to n the bytes of d are blanks, and e is d with zeros there
pub record Blanked (d : List ℕ) (r n : ℕ) (e : List ℕ) : Type 0 where
  pub within : r ≤ n
  pub blanks : part d r (n - r) ≡ replicate (n - r) 32
  pub zeroed : e ≡ put d r (replicate (n - r) 0)
