-- Bounds on a reading, so that no sum of it wraps.
use Rattle.std.specs.Prelude.{ℕ, ◌+◌, ◌*◌, ◌≤◌}
use Rattle.rules.specs.declared.Scan.{Scan}

-- after k tokens, o being the open level
pub record Small (o k : ℕ) (a : Scan) : Type 0 where
  pub level : a.level ≤ o + k
  pub full-span : a.full_span ≤ 65536 * k
  pub blocks : a.blocks ≤ k
  pub arguments : a.arguments ≤ k
