-- Width by columns: a text without tabs has the width that it had, the longest line in bytes. Assumes nothing.
use mathlib.Core.Path.{◌≡◌, refl}
use mathlib.Core.Bool.{Bool, true, false}
use mathlib.Core.List.{List, [], ◌∷◌}
use Prim.Native.Nat.{ℕ, suc, max}
use native.Mathlib.Omega.{arith}
use lib.Dec.{eqb}
use Rattle.rules.specs.Text.{width_from, width}
use Rattle.rules.specs.Columns.{longest_from, longest_line, has_tab}

-- the largest column so far is the larger of the two that were kept
same_from : (at best : ℕ) (v : List ℕ) → has_tab v ≡ false → width_from at (max at best) v ≡ longest_from at best v
same_from at best [] h = refl
same_from at best (x ∷ xs) h = go (eqb x 9) (eqb x 10) refl refl (same_from 0 (max at best) xs) (same_from (suc at) best xs)
  where
    go : (t f : Bool) → eqb x 9 ≡ t → eqb x 10 ≡ f → (has_tab xs ≡ false → width_from 0 (max 0 (max at best)) xs ≡ longest_from 0 (max at best) xs)
        → (has_tab xs ≡ false → width_from (suc at) (max (suc at) best) xs ≡ longest_from (suc at) best xs) → width_from at (max at best) (x ∷ xs) ≡ longest_from at best (x ∷ xs)
    go true f e g fed on = absurd (let z : true ≡ false = rw e at h in let y : ◌≡◌ {A = ℕ} 0 1 = cc in omega arith)
    go false true e g fed on = rw g (fed (rw e at h))
    go false false e g fed on =
        let m : max (suc at) (max at best) ≡ max (suc at) best = omega arith in
        rw (e, g, m) (on (rw e at h))

-- a text without tabs has the width that it had
pub without-tabs : (v : List ℕ) → has_tab v ≡ false → width v ≡ longest_line v
without-tabs v h = same_from 0 0 v h
