-- A stack in the first n elements of an array, and z above them.
use Rattle.std.specs.Prelude.{◌≡◌, List, [], ◌∷◌, ℕ, zero, suc, ◌≤◌, length, get_or}

-- the first n elements of a, the last of them first
abbrev pub stack : {A : Type 0} → A → ℕ → List A → List A
stack z zero a = []
stack z (suc n) a = get_or a n z ∷ stack z n a

-- the count is within the array, and z stands above it
pub record Kept {A : Type 0} (z : A) (cap n : ℕ) (a : List A) : Type 0 where
  pub within : n ≤ cap
  pub long : length a ≡ cap
  pub above : (i : ℕ) → n ≤ i → get_or a i z ≡ z
