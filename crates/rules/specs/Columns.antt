-- The longest line in bytes: the width of a text without tabs.
use Rattle.std.specs.Prelude.{if◌then◌else◌, Bool, List, [], ◌∷◌, ℕ, suc, max, eqb}
use Rattle.rules.specs.Base.{any_of}

-- at is the length of the line so far, best that of the longest line before it
abbrev pub longest_from : ℕ → ℕ → List ℕ → ℕ
longest_from at best [] = max at best
longest_from at best (x ∷ xs) = longest_from (if eqb x 10 then 0 else suc at) (if eqb x 10 then max at best else best) xs

-- the longest line, a tab being one byte
abbrev pub longest_line : List ℕ → ℕ
longest_line v = longest_from 0 0 v

abbrev pub has_tab : List ℕ → Bool
has_tab v = any_of (λ x. eqb x 9) v
