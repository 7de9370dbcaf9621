-- Sixteen lanes: the columns of sixteen parts of a text, in lists of sixteen numbers.
use Rattle.std.specs.Prelude.{◌≡◌, List, ℕ, ◌+◌, ◌*◌, ◌%◌, ◌≤◌, ◌<◌, length, get_or}
use Rattle.rules.specs.Text.{line_feeds}
use Rattle.ascii.specs.Part.{part}
use Rattle.columns.specs.Measured.{count, measure}
use Rattle.steps.specs.Steps.{Below}

-- each number is a byte that is not below the offset
pub record Over (l : List ℕ) : Type 0 where
  pub from : (k : ℕ) → k < 16 → 120 ≤ get_or l k 0
  pub below : (k : ℕ) → k < 16 → get_or l k 0 < 256

-- wide lanes that may go on by sixteen bytes: a line of 120 columns is known
pub record Ready (c h g f : List ℕ) : Type 0 where
  pub columns_long : length c ≡ 16
  pub largest_long : length h ≡ 16
  pub inner_long : length g ≡ 16
  pub feeds_long : length f ≡ 16
  pub column : (k : ℕ) → k < 16 → get_or c k 0 ≤ get_or h k 0
  pub offset : (k : ℕ) → k < 16 → 32768 ≤ get_or h k 0
  pub inner : (k : ℕ) → k < 16 → get_or c k 0 % 32768 ≤ get_or g k 0
  pub known : (k : ℕ) → k < 16 → 120 ≤ get_or g k 0
  pub room : (k : ℕ) → k < 16 → get_or c k 0 % 32768 < 32512
  pub below : Below c 65280
  pub fed : Below f 65280

-- each lane has gone on by sixteen bytes of its part
pub record OnSixteen (d : List ℕ) (start far : ℕ) (c h g f c' h' g' f' : List ℕ) : Type 0 where
  pub columns_long : length c' ≡ length c
  pub largest_long : length h' ≡ length h
  pub inner_long : length g' ≡ length g
  pub feeds_long : length f' ≡ length f
  pub measured : (k : ℕ) → k < 16 → count (get_or c' k 0) (get_or h' k 0) ≡ measure (count (get_or c k 0) (get_or h k 0)) (part d (start + k * far) 16)
  pub inner : (k : ℕ) → k < 16 → get_or g' k 0 ≡ (measure (count (get_or c k 0 % 32768) (get_or g k 0)) (part d (start + k * far) 16)).best
  pub fed : (k : ℕ) → k < 16 → get_or f' k 0 ≡ get_or f k 0 + line_feeds (part d (start + k * far) 16)
