-- The reading back through a bracket, from its close on. Assumes nothing.
use mathlib.Core.Bool.{Bool, ◌||◌}
use mathlib.Core.Path.{◌≡◌, refl}
use mathlib.Core.List.{List, [], ◌∷◌}
use Prim.Native.Nat.{ℕ, zero, suc, ◌+◌, ◌-◌, ◌≤◌}
use native.Mathlib.Omega.{arith}
use lib.Dec.{ltb}
use lib.ListN.{length}
use borrow.Author.Tests.{lt-ltb, le-ltb}
use Rattle.rules.specs.declared.Sort.{Sort}
use Rattle.rules.specs.declared.Sort.TheVariants as sort
use Rattle.rules.specs.Tokens.{Token}
use Rattle.rules.specs.Span.{sort_in}
use Rattle.table_spans.specs.declared.Rest.{Rest}
use Rattle.table_spans.specs.Back.{nothing, longer, inside_in, level_in, closes_in, span_in, other_in, read_back, total_of, others_of, closed_in, closed, under_in}

-- a level more: its close, and then that of the level around it
abbrev Again : Sort → List Token → ℕ → Type 0
Again x ts d = closed_in (closes_in x (suc d)) ts (closed (level_in x (suc d)) ts) ≡ closed 0 (closed_in (closes_in x d) ts (closed (level_in x d) ts))

again : (ts : List Token) → ((d : ℕ) → closed (suc d) ts ≡ closed 0 (closed d ts)) → (x : Sort) (d : ℕ) → Again x ts d
again ts ih sort.Open d = ih (suc d)
again ts ih sort.Close zero = refl
again ts ih sort.Close (suc d) = ih d
again ts ih sort.Head d = ih d
again ts ih sort.White d = ih d
again ts ih sort.Semicolon d = ih d
again ts ih sort.Comma d = ih d
again ts ih sort.Other d = ih d

pub closed-again : (ts : List Token) (d : ℕ) → closed (suc d) ts ≡ closed 0 (closed d ts)
unfolding closed
closed-again [] d = refl
closed-again (t ∷ ts) d = again ts (closed-again ts) (sort_in t) d

-- ---- inside a bracket

-- u is read inside, v after the close; p, q are the lengths of all and of those after the close, m, k how many arguments
pub record Under (u v : Rest) (p q m k : ℕ) : Type 0 where
  pub totals : q ≤ p
  pub others : k ≤ m
  pub full : u.full + q ≡ v.full + p
  pub blocks : u.blocks ≡ v.blocks
  pub commas : u.commas ≡ v.commas
  pub first : u.first ≡ (ltb k m || v.first)

under_none : Under nothing nothing 0 0 0 0
under_none = record { totals = omega arith; others = omega arith; full = refl; blocks = refl; commas = refl; first = refl }

under-longer : (u v : Rest) (p q m k len : ℕ) → Under u v p q m k → Under (longer len u) v (p + len) q (m + 0) k
under-longer u v p q m k len h =
    let t = h.totals in
    let o = h.others in
    let f = h.full in
    let e : m + 0 ≡ m = omega arith in
    record { totals = omega arith; others = omega arith; full = omega arith; blocks = h.blocks; commas = h.commas; first = rw e h.first }

under-other : (u v : Rest) (p q m k len : ℕ) → Under u v p q m k → Under (inside_in sort.Other len u) v (p + len) q (m + 1) k
under-other u v p q m k len h =
    let t = h.totals in
    let o = h.others in
    let f = h.full in
    record { totals = omega arith; others = omega arith; full = omega arith; blocks = h.blocks; commas = h.commas; first = rw (lt-ltb k (m + 1) (omega arith)) }

under-close : (v : Rest) (p m len : ℕ) → Under (longer len v) v (p + len) p (m + 0) m
under-close v p m len = record { totals = omega arith; others = omega arith; full = omega arith; blocks = refl; commas = refl; first = rw (le-ltb m (m + 0) (omega arith)) }

module _ (outer : Bool) where
  abbrev Passed : List Token → ℕ → Type 0
  Passed ts d = Under (read_back outer (suc d) ts) (read_back outer 0 (closed d ts)) (total_of ts) (total_of (closed d ts)) (others_of ts) (others_of (closed d ts))

  passes : (ts : List Token) → ((d : ℕ) → Passed ts d) → (x : Sort) (len d : ℕ)
      → Under (inside_in x len (read_back outer (level_in x (suc d)) ts)) (read_back outer 0 (closed_in (closes_in x d) ts (closed (level_in x d) ts))) (total_of ts + span_in x len) (total_of (closed_in (closes_in x d) ts (closed (level_in x d) ts))) (others_of ts + other_in x) (others_of (closed_in (closes_in x d) ts (closed (level_in x d) ts)))
  passes ts ih sort.Open len d = under-longer _ _ _ _ _ _ len (ih (suc d))
  passes ts ih sort.Close len zero = under-close (read_back outer 0 ts) (total_of ts) (others_of ts) len
  passes ts ih sort.Close len (suc d) = under-longer _ _ _ _ _ _ len (ih d)
  passes ts ih sort.Head len d = under-longer _ _ _ _ _ _ len (ih d)
  passes ts ih sort.White len d = under-longer _ _ _ _ _ _ 1 (ih d)
  passes ts ih sort.Semicolon len d = under-longer _ _ _ _ _ _ len (ih d)
  passes ts ih sort.Comma len d = under-longer _ _ _ _ _ _ len (ih d)
  passes ts ih sort.Other len d = under-other _ _ _ _ _ _ len (ih d)

  pub passed : (ts : List Token) (d : ℕ) → Passed ts d
  unfolding read_back total_of others_of closed
  passed [] d = under_none
  passed (t ∷ ts) d = passes ts (passed ts) (sort_in t) (length t.value) d

  -- as the code has it
  pub under-as : (ts : List Token) (d : ℕ) → read_back outer (suc d) ts ≡ under_in (total_of ts - total_of (closed d ts)) (ltb (others_of (closed d ts)) (others_of ts)) (read_back outer 0 (closed d ts))
  under-as ts d =
      let h = passed ts d in
      let t = h.totals in
      let f = h.full in
      let g : (read_back outer (suc d) ts).full ≡ (read_back outer 0 (closed d ts)).full + (total_of ts - total_of (closed d ts)) = omega arith in
      by-fields _ _ g h.blocks h.commas h.first
    where
      by-fields : (u v : Rest) → u.full ≡ v.full → u.blocks ≡ v.blocks → u.commas ≡ v.commas → u.first ≡ v.first → u ≡ v
      by-fields u v a b c e = rw (a, b, c, e)
