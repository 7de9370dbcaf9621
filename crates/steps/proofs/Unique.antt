-- Every number is told: two results that fit the promise of `codes`, of `coded`, or of `add`, are one. Assumes nothing.
use Rattle.std.proofs.Common.{◌≡◌, ℕ, ◌+◌, ◌*◌, ◌/◌, ◌%◌, ◌<◌, Bool, true, false, ltb, List, length, get_or, sym, refl, ◌∙◌, arith, ext_get_or, ltb-false, ltb-true}
use Rattle.steps.specs.Steps.{Mapped, Coded}

pub mapped_one : (n : ℕ) (f : ℕ → ℕ → ℕ) (was l m : List ℕ) → Mapped n f was l → Mapped n f was m → l ≡ m
mapped_one n f was l m s t = ext_get_or 0 l m (s.long ∙ sym t.long) (λ k h. go k (ltb k n) refl)
  where
    go : (k : ℕ) (b : Bool) → ltb k n ≡ b → get_or l k 0 ≡ get_or m k 0
    go k true e = let h = ltb-true k n e in s.new k h ∙ sym (t.new k h)
    go k false e = let h = ltb-false k n e in s.old k h ∙ sym (t.old k h)

-- two lists of sixteen numbers
pub lists : (l m : List ℕ) → length l ≡ 16 → length m ≡ 16 → ((k : ℕ) → k < 16 → get_or l k 0 ≡ get_or m k 0) → l ≡ m
lists l m p q h = ext_get_or 0 l m (p ∙ sym q) (λ k b. h k (omega arith))

-- number i stands in row i / 16, of part i % 16
pub coded_one : (d : List ℕ) (start far : ℕ) (l m : List ℕ) → length l ≡ 128 → length m ≡ 128 → Coded d start far l → Coded d start far m → l ≡ m
coded_one d start far l m p q s t = ext_get_or 0 l m (p ∙ sym q) (λ i h.
    let e : 16 * (i / 16) + i % 16 ≡ i = omega arith in
    let row : i / 16 < 8 = omega arith in
    let lane : i % 16 < 16 = omega arith in
    rw e at (s.told (i / 16) (i % 16) row lane ∙ sym (t.told (i / 16) (i % 16) row lane)))
