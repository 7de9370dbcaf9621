-- With the sheet's own case a value's case is the rules'. Assumes nothing.
use mathlib.Core.Path.{◌≡◌}
use mathlib.Core.List.{List}
use Prim.Native.Nat.{ℕ}
use Rattle.rules.specs.declared.Case.{Case}
use Rattle.rules.specs.declared.Counts.{Counts}
use Rattle.rules.specs.Sheet.{options_of, env_of}
use Rattle.rules.specs.Formatter.{case_for}
use Rattle.keeps.specs.CaseOf.{case_of}

-- with the sheet's own case it is the rules'
pub rules-case : (s : List ℕ) (c : Counts) (room : ℕ) (casing r : Case) (v : List ℕ) → casing ≡ (options_of s).casing → r ≡ case_of s c casing v → r ≡ case_for (env_of s c room) v
unfolding case_of case_for env_of
rules-case s c room casing r v h e = rw h at e
