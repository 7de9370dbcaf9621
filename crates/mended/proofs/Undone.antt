-- The rows from one sheet to another, undone in the second, give the first. Assumes nothing.
use mathlib.Core.Bool.{Bool, true, false}
use mathlib.Core.Path.{◌≡◌, refl, sym, ◌∙◌}
use mathlib.Core.List.{List, [], ◌∷◌, map, map-append}
use Prim.Native.Nat.{ℕ, zero, suc, ◌+◌, ◌*◌}
use lib.Dec.{eqb}
use lib.ListN.{length, get_or}
use borrow.Author.Tests.{eqb-true, eqb-false, eq-eqb, ne_eqb}
use Rattle.rules.specs.declared.Counts.{Counts}
use Rattle.rules.specs.Words.{word_at, body_at}
use Rattle.rules.specs.Compacted.{word_count}
use Rattle.word_bytes.proofs.WordLaws.{Small}
use Rattle.mended.specs.Mended.{Change, change, word_changes, byte_changes, changes, written_at, done, undone}
use Rattle.mended.proofs.Done.{done-is}

-- a row read the other way
abbrev swap : Change → Change
swap x = record { at = x.at; old = x.new; new = x.old }

undone-done : (base : ℕ) (rows : List Change) (s : List ℕ) → undone base rows s ≡ done base (map swap rows) s
unfolding undone done
undone-done base [] s = refl
undone-done base (x ∷ xs) s = undone-done base xs (written_at base x.at x.old s)

swap-change : (at x y : ℕ) → map swap (change at x y) ≡ change at y x
swap-change at x y = by-test (eqb x y) refl
  where
    by-test : (b : Bool) → eqb x y ≡ b → map swap (change at x y) ≡ change at y x
    by-test true e = rw (e, eq-eqb y x (sym (eqb-true x y e)))
    by-test false e = rw (e, ne_eqb y x (λ q. eqb-false x y e (sym q)))

module _ (s t : List ℕ) where
  swap-words : (k : ℕ) → map swap (word_changes s t k) ≡ word_changes t s k
  unfolding word_changes
  swap-words zero = refl
  swap-words (suc k) = rw (map-append swap (word_changes s t k) (change (4 * k) (word_at s (4 * k)) (word_at t (4 * k))), swap-words k, swap-change (4 * k) (word_at s (4 * k)) (word_at t (4 * k)))

  swap_bytes : (base j : ℕ) → map swap (byte_changes s t base j) ≡ byte_changes t s base j
  unfolding byte_changes
  swap_bytes base zero = refl
  swap_bytes base (suc j) =
      let x = get_or s (base + j) 0 in
      let y = get_or t (base + j) 0 in
      rw (map-append swap (byte_changes s t base j) (change (base + j) x y), swap_bytes base j, swap-change (base + j) x y)

  swap-all : (c : Counts) → map swap (changes s t c) ≡ changes t s c
  unfolding changes
  swap-all c = map-append swap (word_changes s t (word_count c)) (byte_changes s t (body_at c) c.bytes) ∙ rw (swap-words (word_count c), swap_bytes (body_at c) c.bytes)

  pub undone-is : Small s → Small t → length s ≡ length t → (c : Counts) → length s ≡ body_at c + c.bytes → undone (body_at c) (changes s t c) t ≡ s
  undone-is hs ht e c long = undone-done (body_at c) (changes s t c) t ∙ rw (swap-all c) (done-is t s ht hs (sym e) c long)
