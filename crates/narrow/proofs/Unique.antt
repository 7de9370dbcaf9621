-- Every number is told: two results that fit the promise of `narrow_block`, or of `sixteen_on`, are one. Assumes nothing.
use mathlib.Core.Path.{◌≡◌, sym, ◌∙◌}
use mathlib.Core.List.{List}
use Prim.Native.Nat.{ℕ}
use lib.ListN.{length}
use Rattle.steps.proofs.Unique.{mapped_one, lists}
use Rattle.narrow.specs.Narrow.{Laned, NarrowOn}

module _ (d : List ℕ) (start far : ℕ) (c h g f c' h' g' f' c'' h'' g'' f'' : List ℕ) (lc : length c ≡ 16) (lh : length h ≡ 16) (lg : length g ≡ 16) (lf : length f ≡ 16) (s : NarrowOn d start far c h g f c' h' g' f') (t : NarrowOn d start far c h g f c'' h'' g'' f'') where
  pub narrow_one : (c' ≡ c'') × (h' ≡ h'') × (g' ≡ g'') × (f' ≡ f'')
  narrow_one = (
    lists c' c'' (s.columns_long ∙ lc) (t.columns_long ∙ lc) (λ k l. s.column k l ∙ sym (t.column k l)),
    lists h' h'' (s.largest_long ∙ lh) (t.largest_long ∙ lh) (λ k l. s.largest k l ∙ sym (t.largest k l)),
    lists g' g'' (s.inner_long ∙ lg) (t.inner_long ∙ lg) (λ k l. s.inner k l ∙ sym (t.inner k l)),
    lists f' f'' (s.feeds_long ∙ lf) (t.feeds_long ∙ lf) (λ k l. s.fed k l ∙ sym (t.fed k l)),
  )

-- of any n lanes; the numbers after them are as they were
module _ (t u : List ℕ) (n : ℕ) (c h g f c' h' g' f' c'' h'' g'' f'' : List ℕ) (s : Laned t u n c h g f c' h' g' f') (r : Laned t u n c h g f c'' h'' g'' f'') where
  pub laned_one : (c' ≡ c'') × (h' ≡ h'') × (g' ≡ g'') × (f' ≡ f'')
  laned_one = (
    mapped_one n _ c c' c'' s.columns r.columns,
    mapped_one n _ h h' h'' s.largest r.largest,
    mapped_one n _ g g' g'' s.inner r.inner,
    mapped_one n _ f f' f'' s.feeds r.feeds,
  )
