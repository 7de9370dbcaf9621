-- Two results of `system_words` that fit its promise are one. Assumes nothing.
use Rattle.std.proofs.Common.{◌≡◌, refl, sym, ap, ◌∙◌, List, ℕ, ◌++◌, ◌<◌, ◌≤◌, length, take, drop, inl, inr, arith}
use mathlib.Core.Logic.{⊎_elim, ◌≢◌}
use Rattle.std.proofs.lemmas.List.{take_at, drop_at}
use Rattle.std.proofs.lemmas.Bool.{cases_lt}
use Rattle.program.specs.Words.{mark, Unnumbered}

-- a mark stands after v, and none within w
no_longer : (told w v rest : List ℕ) → told ≡ v ++ (mark ++ rest) → ((i : ℕ) → i < length w → (ys : List ℕ) → drop i told ≢ mark ++ ys) → length w ≤ length v
no_longer told w v rest e first =
    ⊎_elim (λ l. absurd (first (length v) l rest (ap (drop (length v)) e ∙ drop_at v (mark ++ rest) (length v) refl))) (λ m. m) (cases_lt (length v) (length w))

pub unnumbered_one : (told w v : List ℕ) → Unnumbered told w → Unnumbered told v → w ≡ v
unnumbered_one told w v (inl p) (inl q) =
    let a = no_longer told w v q.0 q.1 p.2 in
    let b = no_longer told v w p.0 p.1 q.2 in
    let t : take (length w) told ≡ w = ap (take (length w)) p.1 ∙ take_at w (mark ++ p.0) (length w) refl in
    let u : take (length w) told ≡ v = ap (take (length w)) q.1 ∙ take_at v (mark ++ q.0) (length w) (omega (arith, a, b)) in
    sym t ∙ u
unnumbered_one told w v (inl p) (inr q) = absurd (q.0 w p.0 p.1)
unnumbered_one told w v (inr p) (inl q) = absurd (p.0 v q.0 q.1)
unnumbered_one told w v (inr p) (inr q) = p.1 ∙ sym q.1
