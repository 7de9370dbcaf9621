-- The order of the rows is kept. Assumes nothing.
use mathlib.Core.Path.{◌≡◌, refl, ap}
use mathlib.Core.Bool.{Bool, true, false}
use mathlib.Core.List.{List, [], ◌∷◌, map}
use Prim.Native.Nat.{ℕ, ◌+◌, ◌-◌, ◌≤◌, min}
use native.Mathlib.Omega.{arith}
use Rattle.rules.specs.Base.{◌▹◌, when}
use Rattle.rules.specs.Rows.{Row, between, clip}
use Rattle.rows.specs.Listing.{Under, InOrder}

pub under_more : (n m : ℕ) (rs : List Row) → n ≤ m → Under n rs → Under m rs
unfolding Under
under_more n m [] l u = tt
under_more n m (r ∷ rs) l u = let e : r.start + r.len ≤ n = u.0 in (omega arith, u.1)

pub under-order : (n : ℕ) (rs : List Row) → Under n rs → InOrder rs
unfolding Under InOrder
under-order n [] u = tt
under-order n (r ∷ rs) u = u.1

pub order-before : (r : Row) (rs : List Row) → InOrder (r ∷ rs) → InOrder rs
unfolding InOrder
order-before r rs o = under-order r.start rs o

-- ---- a cut

-- a row that ends at or below the cut is as it was, and so are those before it
pub clip-same : (n : ℕ) (r : Row) → r.start + r.len ≤ n → clip n r ≡ r
unfolding clip between
clip-same n r h =
    let a : min n r.start ≡ r.start = omega arith in
    let b : min n (r.start + r.len) ≡ r.start + r.len = omega arith in
    let c : r.start + r.len - r.start ≡ r.len = omega arith in rw (a, b, c)

pub clips_same : (n m : ℕ) (rs : List Row) → Under m rs → m ≤ n → map (clip n) rs ≡ rs
unfolding Under
clips_same n m [] u l = refl
clips_same n m (r ∷ rs) u l =
    let e : r.start + r.len ≤ m = u.0 in rw (clip-same n r (omega arith)) (ap (λ (qs : List Row). r ∷ qs) (clips_same n r.start rs u.1 (omega arith)))

pub clip-under : (n m : ℕ) (rs : List Row) → Under m rs → Under (min n m) (map (clip n) rs)
unfolding Under clip between
clip-under n m [] u = tt
clip-under n m (r ∷ rs) u =
    let e : r.start + r.len ≤ m = u.0 in (omega arith, clip-under n r.start rs u.1)

-- ---- a row that is added where the others end

pub add-under : (r : Row) (rs : List Row) → Under r.start rs → Under (r.start + r.len) (r ∷ rs)
unfolding Under
add-under r rs u = (omega arith, u)

-- ---- a token: the cut, and then a row where the text ended

pub after-under : (low n m : ℕ) (r : Row) (rs : List Row) (b : Bool) → Under n rs → r.start ≡ n → (b ≡ true → r.start + r.len ≤ m) → (b ≡ false → min low n ≤ m) → Under m (map (clip low) rs ▹ when b (λ qs. r ∷ qs))
unfolding when
after-under low n m r rs true u e f g = under_more (r.start + r.len) m (r ∷ map (clip low) rs) (f refl) (add-under r (map (clip low) rs) (under_more (min low n) r.start (map (clip low) rs) (omega arith) (clip-under low n rs u)))
after-under low n m r rs false u e f g = under_more (min low n) m (map (clip low) rs) (g refl) (clip-under low n rs u)
