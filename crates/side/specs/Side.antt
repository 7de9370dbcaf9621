-- Sixteen parts of a text, `far` bytes from one to the next: eight bytes of each.
use Rattle.std.specs.Prelude.{◌≡◌, List, ℕ, ◌+◌, ◌*◌, ◌≤◌, ◌<◌, length, get_or}

-- of l the n bytes from index at on are those of d from start on, the others as they were
pub record Copied (d : List ℕ) (start at n : ℕ) (was l : List ℕ) : Type 0 where
  pub long : length l ≡ length was
  pub new : (j : ℕ) → j < n → get_or l (at + j) 0 ≡ get_or d (start + j) 0
  pub below : (i : ℕ) → i < at → get_or l i 0 ≡ get_or was i 0
  pub above : (i : ℕ) → at + n ≤ i → get_or l i 0 ≡ get_or was i 0

-- n parts one after the other
pub record Laid (d : List ℕ) (start far n : ℕ) (l : List ℕ) : Type 0 where
  pub told : (k j : ℕ) → k < n → j < 8 → get_or l (8 * k + j) 0 ≡ get_or d (start + k * far + j) 0

-- of both halves of d the first n in turn
pub record Shuffled (d : List ℕ) (n : ℕ) (l : List ℕ) : Type 0 where
  pub even : (i : ℕ) → i < n → get_or l (2 * i) 0 ≡ get_or d i 0
  pub odd : (i : ℕ) → i < n → get_or l (2 * i + 1) 0 ≡ get_or d (64 + i) 0

-- byte j of part k stands at 16 * j + k
pub record SideBySide (d : List ℕ) (start far : ℕ) (l : List ℕ) : Type 0 where
  pub long : length l ≡ 128
  pub told : (j k : ℕ) → j < 8 → k < 16 → get_or l (16 * j + k) 0 ≡ get_or d (start + k * far + j) 0
