-- Every number is told: two results that fit the promise of `block` are one. Assumes nothing.
use mathlib.Core.Path.{◌≡◌, sym, ap, ◌∙◌}
use mathlib.Core.List.{List}
use Prim.Native.Nat.{ℕ, ◌<◌}
use lib.ListN.{length, get_or}
use Rattle.columns.specs.declared.Measure.{Measure}
use Rattle.columns.specs.Measured.{count}
use Rattle.steps.proofs.Unique.{lists}
use Rattle.lanes.specs.Lanes.{OnSixteen}

module _ (d : List ℕ) (start far : ℕ) (c h g f c' h' g' f' a b e i : List ℕ) (lc : length c ≡ 16) (lh : length h ≡ 16) (lg : length g ≡ 16) (lf : length f ≡ 16) (s : OnSixteen d start far c h g f c' h' g' f') (t : OnSixteen d start far c h g f a b e i) where
  both : (k : ℕ) → k < 16 → count (get_or c' k 0) (get_or h' k 0) ≡ count (get_or a k 0) (get_or b k 0)
  both k l = s.measured k l ∙ sym (t.measured k l)

  pub block_one : (c' ≡ a) × (h' ≡ b) × (g' ≡ e) × (f' ≡ i)
  block_one = (
    lists c' a (s.columns_long ∙ lc) (t.columns_long ∙ lc) (λ k l. ap (λ (m : Measure). m.at) (both k l)),
    lists h' b (s.largest_long ∙ lh) (t.largest_long ∙ lh) (λ k l. ap (λ (m : Measure). m.best) (both k l)),
    lists g' e (s.inner_long ∙ lg) (t.inner_long ∙ lg) (λ k l. s.inner k l ∙ sym (t.inner k l)),
    lists f' i (s.feeds_long ∙ lf) (t.feeds_long ∙ lf) (λ k l. s.fed k l ∙ sym (t.fed k l)),
  )
