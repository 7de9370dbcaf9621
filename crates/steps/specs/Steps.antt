-- A byte's code, and what it does to a column of eight bits.
use Rattle.std.specs.Prelude.{if◌then◌else◌, ◌≡◌, ℕ, zero, suc, ◌+◌, ◌*◌, ◌%◌, ◌<◌, ◌≤◌, List, [], ◌∷◌, ◌++◌, length, ◌==◌, bit_or, slice_index}

-- the bits that are set before it goes on by one
abbrev pub code_of : ℕ → ℕ
code_of b = if b == 10 then 255 else if b == 9 then 7 else 0

abbrev pub on_by : ℕ → ℕ → ℕ
on_by at x = (bit_or at x + 1) % 256

abbrev pub feed_of : ℕ → ℕ
feed_of x = if x == 255 then 1 else 0

abbrev pub codes_of : List ℕ → List ℕ
codes_of [] = []
codes_of (x ∷ xs) = code_of x ∷ codes_of xs

pub record Below (l : List ℕ) (n : ℕ) : Type 0 where
  pub each : (k : ℕ) → slice_index l k < n

-- the first n of l are f of those that were there, the others as they were
pub record Mapped (n : ℕ) (f : ℕ → ℕ → ℕ) (was l : List ℕ) : Type 0 where
  pub long : length l ≡ length was
  pub new : (k : ℕ) → k < n → slice_index l k ≡ f k (slice_index was k)
  pub old : (k : ℕ) → n ≤ k → slice_index l k ≡ slice_index was k

-- the code of byte j of part k stands at 16 * j + k
pub record Coded (d : List ℕ) (start far : ℕ) (l : List ℕ) : Type 0 where
  pub told : (j k : ℕ) → j < 8 → k < 16 → slice_index l (16 * j + k) ≡ code_of (slice_index d (start + k * far + j))

-- n numbers of lane k, from the i-th row on
abbrev pub down : List ℕ → ℕ → ℕ → ℕ → List ℕ
down t k i zero = []
down t k i (suc n) = slice_index t (16 * i + k) ∷ down t k (i + 1) n

-- the sixteen rows of lane k
abbrev pub rows : List ℕ → List ℕ → ℕ → List ℕ
rows t u k = down t k 0 8 ++ down u k 0 8
