-- Eight flags in a byte: of eight parts of a text, `far` bytes from one to the next, whether a line feed stands there.
use Rattle.std.specs.Prelude.{◌≡◌, true, List, ℕ, ◌+◌, ◌*◌, ◌≤◌, ◌<◌, eqb, length, get_or}
use Rattle.std.specs.Int.Bits.{bit_or}
use Rattle.marks.specs.Marks.{bit_at}

-- bit k of v tells of the byte k * far on
pub record Flags (d : List ℕ) (at far v : ℕ) : Type 0 where
  pub told : (k : ℕ) → k < 8 → bit_at v k ≡ eqb (get_or d (at + k * far) 0) 10

-- the first n of l are the flags from start on, the others as they were
pub record Flagged (d : List ℕ) (start far n : ℕ) (was l : List ℕ) : Type 0 where
  pub long : length l ≡ length was
  pub new : (j : ℕ) → j < n → Flags d (start + j) far (get_or l j 0)
  pub old : (j : ℕ) → n ≤ j → get_or l j 0 ≡ get_or was j 0

-- the first n of l are those of before and the ones `by` on together, the others as they were
pub record Widened (was : List ℕ) (n by : ℕ) (l : List ℕ) : Type 0 where
  pub long : length l ≡ length was
  pub new : (j : ℕ) → j < n → get_or l j 0 ≡ bit_or (get_or was j 0) (get_or was (j + by) 0)
  pub old : (j : ℕ) → n ≤ j → get_or l j 0 ≡ get_or was j 0

-- bit k is set in one of the w from j on
pub record SetFrom (l : List ℕ) (j k w : ℕ) : Type 0 where
  pub on : ℕ
  pub below : on < w
  pub set : bit_at (get_or l (j + on) 0) k ≡ true

-- no bit is set in l that was not set in one of the w from there on
pub record Near (was : List ℕ) (w : ℕ) (l : List ℕ) : Type 0 where
  pub from : (j k : ℕ) → bit_at (get_or l j 0) k ≡ true → SetFrom was j k w

-- where the flags of was told of h bytes, those of l tell of r
pub record Reached (was : List ℕ) (h r : ℕ) (l : List ℕ) : Type 0 where
  pub long : length l ≡ length was
  pub near : (first : List ℕ) → Near first h was → Near first r l

-- in each of the first n, or `by` on, every bit is set
pub record AllSet (l : List ℕ) (n by : ℕ) : Type 0 where
  pub all : (j k : ℕ) → j < n → k < 8 → bit_at (bit_or (get_or l j 0) (get_or l (j + by) 0)) k ≡ true
