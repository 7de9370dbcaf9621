-- The first place with a property, a place at a time. Assumes nothing.
use mathlib.Core.Path.{◌≡◌, refl, sym, ◌∙◌}
use mathlib.Core.Bool.{Bool, true, false, true≢false}
use mathlib.Core.Logic.{◌⊎◌, inl, inr, ⊎_elim}
use Prim.Native.Nat.{ℕ, ◌+◌, ◌≤◌, ◌<◌}
use native.Mathlib.Omega.{arith}
use lib.Dec.{ltb}
use borrow.Author.Tests.{ltb-true, ltb-false}
use Rattle.table_blocks.specs.First.{First}

pub true_false : {b : Bool} → b ≡ true → b ≡ false → ⊥
true_false h e = true≢false (sym h ∙ e)

pub less-or : (a b : ℕ) → (a < b) ⊎ (b ≤ a)
less-or a b = by-test (ltb a b) refl
  where
    by-test : (c : Bool) → ltb a b ≡ c → (a < b) ⊎ (b ≤ a)
    by-test true e = inl (ltb-true a b e)
    by-test false e = inr (ltb-false a b e)

module _ (g : ℕ → Bool) (n : ℕ) where
  -- the place j, or one behind it
  at-or : {A : Type 0} (j k : ℕ) → j ≤ k → (j ≡ k → A) → (j + 1 ≤ k → A) → A
  at-or j k h f b = ⊎_elim (λ l. b (omega arith)) (λ l. f (omega arith)) (less-or j k)

  pub first-skip : (j m : ℕ) → g j ≡ false → First g (j + 1) n m → First g j n m
  first-skip j m h q =
      let p = q.past in
      record {
        past = omega arith;
        up_to = q.up_to;
        none = λ k a b. at-or j k a (λ e. rw (← e) h) (λ l. q.none k l b);
        here = q.here;
      }

  pub first-hit : (j : ℕ) → j < n → g j ≡ true → First g j n j
  first-hit j l h = record { past = omega arith; up_to = omega arith; none = λ k a b. absurd (omega arith); here = λ z. h }

  pub first_on : (j m : ℕ) → j < n → g j ≡ false → First g j n m → First g (j + 1) n m
  first_on j m l h q =
      let p = q.past in
      record {
        past = at-or j m p (λ e. absurd (true_false (q.here (omega arith)) (rw (← e) h))) (λ k. k);
        up_to = q.up_to;
        none = λ k a b. q.none k (omega arith) b;
        here = q.here;
      }

  pub first-here : (j m : ℕ) → g j ≡ true → First g j n m → j ≡ m
  first-here j m h q = let p = q.past in at-or j m p (λ e. e) (λ k. absurd (true_false h (q.none j (omega arith) (omega arith))))

  pub first-none : First g n n n
  first-none = record { past = omega arith; up_to = omega arith; none = λ k a b. absurd (omega arith); here = λ z. absurd (omega arith) }
