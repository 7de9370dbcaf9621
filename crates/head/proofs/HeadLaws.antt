-- Zeroes with a head's bytes set are the head.
use Rattle.std.proofs.Common.{◌≡◌, ℕ, ◌+◌, ◌-◌, ◌≤◌, List, arith, ap, sym, ◌∙◌}
use borrow.Author.Tests.{le-leb}
use borrow.Rule.Slice.PartMut.{put_mid}
use lib.ListN.{set, replicate, replicate-append-replicate}
use Rattle.rules.specs.Words.{word_bytes}
use Rattle.head.specs.Head.{head_with, head_written}

-- the stores of the code, in its order
abbrev stored : List ℕ → List ℕ → List ℕ → List ℕ
stored l p q = put_mid 44 4 (put_mid 40 4 (set (set (set l 20 2) 32 1) 36 50) p) q

pub stored-head : (top n : ℕ) → 48 ≤ n → (l p q : List ℕ) → l ≡ replicate n 0 → p ≡ word_bytes 4294967295 → q ≡ word_bytes top → stored l p q ≡ head_written (head_with top) n
unfolding head_with
stored-head top n h l p q el ep eq =
    let e : n ≡ 48 + (n - 48) = omega arith in
    rw (el, ep, eq, le-leb 48 n h) (ap (λ (k : ℕ). stored (replicate k 0) (word_bytes 4294967295) (word_bytes top)) e ∙ ap (λ l'. stored l' (word_bytes 4294967295) (word_bytes top)) (sym (replicate-append-replicate 48 (n - 48) 0)))
