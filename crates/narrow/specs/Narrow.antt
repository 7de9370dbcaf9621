-- Sixteen lanes of a byte each.
use Rattle.std.specs.Prelude.{◌≡◌, List, [], ◌∷◌, ℕ, ◌+◌, ◌*◌, ◌%◌, ◌<◌, max, length, get_or}
use Rattle.rules.specs.Text.{line_feeds}
use Rattle.ascii.specs.Part.{part}
use Rattle.steps.specs.Steps.{on_by, feed_of, codes_of, Mapped, rows}
use Rattle.narrow.specs.declared.Lane.{Lane}

-- a lane after the codes of some bytes
abbrev pub lane_on : Lane → List ℕ → Lane
lane_on m [] = m
lane_on m (x ∷ xs) = lane_on (record { at = on_by m.at x; top = max (on_by m.at x) m.top; inner = max (on_by m.at x % 128) m.inner; feeds = m.feeds + feed_of x }) xs

abbrev pub fresh : ℕ → ℕ → ℕ → Lane
fresh a b c = record { at = a; top = b; inner = c; feeds = 0 }

-- lane k of three lists
abbrev pub lane_at : List ℕ → List ℕ → List ℕ → ℕ → Lane
lane_at c h g k = fresh (get_or c k 0) (get_or h k 0) (get_or g k 0)

-- the first n lanes have gone on by their rows
pub record Laned (t u : List ℕ) (n : ℕ) (c h g f c' h' g' f' : List ℕ) : Type 0 where
  pub columns : Mapped n (λ k x. (lane_on (lane_at c h g k) (rows t u k)).at) c c'
  pub largest : Mapped n (λ k x. (lane_on (lane_at c h g k) (rows t u k)).top) h h'
  pub inner : Mapped n (λ k x. (lane_on (lane_at c h g k) (rows t u k)).inner) g g'
  pub feeds : Mapped n (λ k x. (lane_on (lane_at c h g k) (rows t u k)).feeds) f f'

-- each lane has gone on by the codes of sixteen bytes of its part
pub record NarrowOn (d : List ℕ) (start far : ℕ) (c h g f c' h' g' f' : List ℕ) : Type 0 where
  pub columns_long : length c' ≡ length c
  pub largest_long : length h' ≡ length h
  pub inner_long : length g' ≡ length g
  pub feeds_long : length f' ≡ length f
  pub column : (k : ℕ) → k < 16 → get_or c' k 0 ≡ (lane_on (lane_at c h g k) (codes_of (part d (start + k * far) 16))).at
  pub largest : (k : ℕ) → k < 16 → get_or h' k 0 ≡ (lane_on (lane_at c h g k) (codes_of (part d (start + k * far) 16))).top
  pub inner : (k : ℕ) → k < 16 → get_or g' k 0 ≡ (lane_on (lane_at c h g k) (codes_of (part d (start + k * far) 16))).inner
  pub fed : (k : ℕ) → k < 16 → get_or f' k 0 ≡ get_or f k 0 + line_feeds (part d (start + k * far) 16)
