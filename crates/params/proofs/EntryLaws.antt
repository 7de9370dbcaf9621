-- Laws of the lookup. Assumes nothing.
use mathlib.Core.Path.{◌≡◌, refl}
use mathlib.Core.Bool.{true, false}
use mathlib.Core.List.{List}
use Prim.Native.Nat.{ℕ, suc, ◌+◌, ◌-◌, ◌*◌, ◌≤◌, ◌<◌}
use native.Mathlib.Nat.{sub-zero}
use native.Mathlib.Numerals.{add-one}
use native.Mathlib.Omega.{arith}
use Rattle.std.specs.Prelude.{Option, None, Some}
use Rattle.rules.specs.declared.Counts.{Counts}
use Rattle.rules.specs.Base.{same}
use Rattle.rules.specs.Words.{place_at, params_at, body_at}
use Rattle.rules.specs.Sheet.{body_part, name_of}
use Rattle.params.specs.Entries.{first_from, has_name, entry_named}

-- ---- find_by_name

module _ (s : List ℕ) (c : Counts) (n : List ℕ) where
  -- the first of the entries from the i-th on that has the name n
  abbrev pub named_from : ℕ → Option ℕ
  named_from i = first_from (has_name s c n) i (c.params - i)

  pub all_left : entry_named s c n ≡ named_from 0
  unfolding entry_named
  all_left = rw sub-zero

  module _ (i : ℕ) where
    pub read_name : has_name s c n i ≡ same (body_part s (body_at c) (place_at s (params_at c + 16 * i))) n
    unfolding has_name name_of
    read_name = refl

    pub none_left : c.params ≤ i → named_from i ≡ None
    unfolding first_from
    none_left h = let e : c.params - i ≡ 0 = omega arith in rw e

    module _ (h : i < c.params) where
      pub named_here : has_name s c n i ≡ true → named_from i ≡ Some i
      unfolding first_from
      named_here t = let e : c.params - i ≡ suc (c.params - (i + 1)) = omega arith in rw (e, t)

      pub named_on : has_name s c n i ≡ false → named_from i ≡ named_from (i + 1)
      unfolding first_from
      named_on t = let e : c.params - i ≡ suc (c.params - (i + 1)) = omega arith in rw (e, t, add-one)

pub ruleset by_name = (all_left, read_name, none_left, named_here, named_on)
