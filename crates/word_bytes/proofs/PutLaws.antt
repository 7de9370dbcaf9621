-- What is written behind what was. Assumes nothing.
use mathlib.Core.Path.{◌≡◌, sym, ap, ◌∙◌}
use mathlib.Core.List.{List, ◌++◌, append_assoc}
use Prim.Native.Nat.{ℕ, ◌+◌, ◌≤◌}
use native.Mathlib.Omega.{arith}
use lib.ListN.{length, take, drop, length-append}
use lib.Seq.{drop-drop}
use Rattle.text.specs.Put.{put}
use Rattle.text.proofs.PutLaws.{take_put, drop-put}

module _ (d : List ℕ) (at : ℕ) where
  -- more behind what was written
  pub put-more : (p q : List ℕ) (n : ℕ) → n ≡ at + length p → at ≤ length d → put (put d at p) n q ≡ put d at (p ++ q)
  unfolding put
  put-more p q n i h =
      let k : ℕ = at + length p in
      let e : k + length q ≡ at + length (p ++ q) = rw length-append (omega arith) in
      ap (λ (m : ℕ). put (put d at p) m q) i
      ∙ ap (λ (l : List ℕ). take k (put d at p) ++ q ++ l) (sym (drop-drop (length q) k (put d at p)) ∙ ap (drop (length q)) (drop-put d at p h) ∙ drop-drop (length q) k d)
      ∙ ap (λ (l : List ℕ). l ++ q ++ drop (k + length q) d) (take_put d at p h)
      ∙ ap (λ (l : List ℕ). l ++ drop (k + length q) d) (append_assoc (take at d) p q)
      ∙ ap (λ (m : ℕ). take at d ++ (p ++ q) ++ drop m d) e
