-- The marks of a sheet.
use Rattle.std.specs.Prelude.{◌≡◌, List, ℕ, ◌<◌, length}
use Rattle.rules.specs.declared.Counts.{Counts}
use Rattle.rules.specs.Compacted.{is_covered}
use Rattle.marks.specs.Marks.{bit_of}

-- 1,024 words, with the bits of the bytes that some place covers
pub record Marked (s : List ℕ) (c : Counts) (bits : List ℕ) : Type 0 where
  pub long : length bits ≡ 1024
  pub covered : (j : ℕ) → j < 32768 → bit_of bits j ≡ is_covered s c j
