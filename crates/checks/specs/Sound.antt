-- What check 1 says of a sheet that it finds sound.
use Rattle.std.specs.Prelude.{◌≡◌, List, ℕ, ◌+◌, ◌≤◌, length}
use Rattle.rules.specs.declared.Counts.{Counts}
use Rattle.rules.specs.Words.{counts_of, body_at}
use Rattle.records.specs.Sheeted.{Few}

-- the counts and the length of the file are those of check 1
pub record Sized (s : List ℕ) (c : Counts) : Type 0 where
  pub head_in : 48 ≤ length s
  pub counted : c ≡ counts_of s
  pub few : Few c
  pub long : length s ≡ body_at c + c.bytes
