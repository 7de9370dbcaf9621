-- The previous words are tokens already taken: their numbers stay below a bound.
use Rattle.std.specs.Prelude.{Option, None, Some, List, [], ◌∷◌, ℕ, ◌<◌}
use Rattle.rules.specs.Indentation.{Indentation, PreviousTokens}

-- a word, where there is one
abbrev pub WordBelow : ℕ → Option ℕ → Type 0
WordBelow k None = Unit {0}
WordBelow k (Some n) = n < k

abbrev pub AllBelow : ℕ → List (PreviousTokens ℕ) → Type 0
AllBelow k [] = Unit {0}
AllBelow k (p ∷ ps) = WordBelow k p.reserved × AllBelow k ps

pub record Below (k : ℕ) (i : Indentation ℕ) : Type 0 where
  pub words : AllBelow k i.previous
