-- Laws of an array that is written a number at a time. Assumes nothing.
use Rattle.std.proofs.Common.{◌≡◌, ℕ, ◌+◌, ◌<◌, Bool, true, false, ltb, List, length, get_or, set, refl, ap, ◌∙◌, arith, length-set, get_or-set_other, get_or-set_same, below_more, ltb-false, ltb-true}
use lib.ListN.{get_or-eq_default}
use Rattle.steps.specs.Steps.{Below, Mapped}

module _ (f : ℕ → ℕ → ℕ) (was : List ℕ) where
  -- the next number is still the old one
  pub mapped_on : (k v : ℕ) (l : List ℕ) → k < length was → Mapped k f was l → v ≡ f k (get_or l k 0) → Mapped (k + 1) f was (set l k v)
  mapped_on k v l h m e =
      let n = m.long in
      record {
        long = length-set l k v ∙ m.long;
        new = below_more _ k (λ i c. get_or-set_other l k i v 0 (λ z. omega arith) ∙ m.new i c) (get_or-set_same l k v 0 (omega arith) ∙ e ∙ ap (f k) (m.old k (omega arith)));
        old = λ i c. get_or-set_other l k i v 0 (λ z. omega arith) ∙ m.old i (omega arith);
      }

-- past the sixteenth there is 0
pub all-below : (l : List ℕ) (n : ℕ) → length l ≡ 16 → 0 < n → ((k : ℕ) → k < 16 → get_or l k 0 < n) → Below l n
all-below l n e p h = record { each = λ k. go k (ltb k 16) refl }
  where
    go : (k : ℕ) (b : Bool) → ltb k 16 ≡ b → get_or l k 0 < n
    go k true f = h k (ltb-true k 16 f)
    go k false f =
        let i = ltb-false k 16 f in
        let z : get_or l k 0 ≡ 0 = get_or-eq_default l 0 (omega arith) in
        omega arith
