-- What is told of a part of a text by itself.
use Rattle.std.specs.Prelude.{if◌then◌else◌, ◌≡◌, List, ℕ, ◌+◌, ◌*◌, ◌<◌, max, ltb, get_or}
use Rattle.rules.specs.Text.{line_feeds}
use Rattle.ascii.specs.Part.{part}
use Rattle.columns.specs.declared.Measure.{Measure}
use Rattle.columns.specs.Measured.{count, measure}
use Rattle.parts.specs.declared.Counted.{Counted}

-- the line feeds of v and its columns, m standing before
abbrev pub counted_of : Measure → List ℕ → Counted
counted_of m v = record { feeds = line_feeds v; columns = measure m v }

-- at is the column, above 32768 until a line feed comes; head the largest such column; best the largest from 0, where a line of known columns is known
pub record Told (v : List ℕ) (known at head best : ℕ) : Type 0 where
  pub measured : count at head ≡ measure (count 32768 32768) v
  pub inner : max best known ≡ (measure (count 0 known) v).best

-- it is told of the first n bytes of each of sixteen parts, and their line feeds are counted
pub record ToldAll (d : List ℕ) (start far n known : ℕ) (at head best feeds : List ℕ) : Type 0 where
  pub each : (k : ℕ) → k < 16 → Told (part d (start + k * far) n) known (get_or at k 0) (get_or head k 0) (get_or best k 0)
  pub fed : (k : ℕ) → k < 16 → get_or feeds k 0 ≡ line_feeds (part d (start + k * far) n)

-- a lane above 128 as one above 32768
abbrev pub above_of : ℕ → ℕ
above_of c = if ltb c 128 then c else c + 32640
