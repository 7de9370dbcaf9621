-- Laws of the keep words, read one at a time. Assumes nothing.
use mathlib.Core.Path.{◌≡◌, refl}
use mathlib.Core.Bool.{Bool, true, false}
use mathlib.Core.List.{List}
use Prim.Native.Nat.{ℕ, ◌+◌, ◌-◌, ◌*◌, ◌≤◌, ◌<◌}
use native.Mathlib.Nat.{sub-zero}
use Rattle.rules.specs.declared.Counts.{Counts}
use Rattle.rules.specs.Base.{same, any_of}
use Rattle.rules.specs.Words.{place_at, keeps_at, body_at}
use Rattle.rules.specs.Sheet.{body_part, list_of, keep_of, keeps_of}
use Rattle.places.proofs.Laws.{list_next, list_end}

module _ (s : List ℕ) (c : Counts) (v : List ℕ) where
  -- whether one of the keep words from the i-th on is v
  abbrev pub kept_from : ℕ → Bool
  kept_from i = any_of (same v) (list_of (keep_of s c) i (c.keeps - i))

  pub all_left : any_of (same v) (keeps_of s c) ≡ kept_from 0
  unfolding keeps_of
  all_left = rw sub-zero

  module _ (i : ℕ) where
    pub read_keep : same v (keep_of s c i) ≡ same v (body_part s (body_at c) (place_at s (keeps_at c + 8 * i)))
    unfolding keep_of
    read_keep = refl

    pub none_left : c.keeps ≤ i → kept_from i ≡ false
    none_left h = rw (list_end (keep_of s c) i c.keeps h)

    module _ (h : i < c.keeps) where
      pub keep_here : same v (keep_of s c i) ≡ true → kept_from i ≡ true
      keep_here t = rw (list_next (keep_of s c) i c.keeps h, t)

      pub keep_on : same v (keep_of s c i) ≡ false → kept_from i ≡ kept_from (i + 1)
      keep_on t = rw (list_next (keep_of s c) i c.keeps h, t)

pub ruleset kept = (all_left, read_keep, none_left, keep_here, keep_on)
