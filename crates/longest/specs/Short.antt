-- Bytes that hold no line longer than one that is known.
use Rattle.std.specs.Prelude.{◌≡◌, true, false, List, ℕ, ◌+◌, ◌-◌, ◌≤◌, ◌<◌, drop, get_or}
use Rattle.rules.specs.Columns.{longest_from}
use Rattle.ascii.specs.Part.{part, has}

-- of the n bytes of d from start on the first r may be passed where a line of `best` bytes is known: without them the longest line is as long
pub record Passed (d : List ℕ) (start n best r : ℕ) : Type 0 where
  pub within : r ≤ n
  pub kept : longest_from 0 best (drop r (part d start n)) ≡ longest_from 0 best (part d start n)

-- a line feed is in each of n windows of w bytes, of which the first starts at start, the next a byte on
pub record InEach (d : List ℕ) (start w n : ℕ) : Type 0 where
  pub fed : (k : ℕ) → k < n → has 10 10 (part d (start + k) w) ≡ true

-- of the n bytes of d from start on the first r end with the last line feed; none, where there is no line feed
pub record Last (d : List ℕ) (start n r : ℕ) : Type 0 where
  pub within : r ≤ n
  pub fed : 0 < r → get_or d (start + r - 1) 0 ≡ 10
  pub none : has 10 10 (part d (start + r) (n - r)) ≡ false
