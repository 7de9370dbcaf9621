-- The verdict from its parts. Assumes nothing.
use mathlib.Core.Path.{◌≡◌}
use mathlib.Core.List.{List}
use Prim.Native.Nat.{ℕ}
use Rattle.rules.specs.declared.Counts.{Counts}
use Rattle.rules.specs.Tokens.{Token}
use Rattle.rules.specs.Sheet.{params_of, env_of}
use Rattle.rules.specs.Switch.{switched_on}
use Rattle.foreign.specs.Foreign.{first_barred}
use Rattle.foreign.specs.Walk.{barred_from}
use Rattle.foreign.proofs.Walk.{barred-is}
use Rattle.checks.proofs.Sound.{answer-sheeted, sound-sheeted}

pub barred_is : (s : List ℕ) (c : Counts) (ts : List Token) → first_barred (params_of s c) ts ≡ barred_from (params_of s c) switched_on 0 ts
unfolding env_of
barred_is s c ts = barred-is (env_of s c 0) ts

pub ruleset sound = (answer-sheeted, sound-sheeted)
