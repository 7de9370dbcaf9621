-- Laws of one byte again and again. Assumes nothing.
use mathlib.Core.Path.{◌≡◌, refl, sym, ap, ap₂, ◌∙◌}
use mathlib.Core.Bool.{Bool, true, false, ◌&&◌}
use mathlib.Core.List.{List, [], ◌∷◌, ◌++◌}
use Prim.Native.Nat.{ℕ, ◌+◌, ◌≤◌}
use lib.Bits.{bit_or, bit_xor, xor_self}
use lib.Dec.{eqb}
use lib.ListN.{length, replicate, replicate-append-replicate}
use borrow.Author.Tests.{eq-eqb, ne_eqb, eqb-true, eqb-false}
use Rattle.std.proofs.Math.Bool.{and_assoc}
use Rattle.std.specs.List.{fold}
use Rattle.rules.specs.Base.{same}
use Rattle.ascii.specs.Part.{part}
use Rattle.ascii.proofs.PartLaws.{length_part, part-more}
use Rattle.ascii.proofs.RunLaws.{same_true}
use Rattle.longest.proofs.LongestLaws.{or-zero}
use Rattle.longest.proofs.FlagLaws.{same_byte}

-- `^` is 0 exactly where both are the same
xor-zero : (x b : ℕ) → eqb (bit_xor x b) 0 ≡ eqb x b
xor-zero x b = go (eqb x b) refl
  where
    go : (p : Bool) → eqb x b ≡ p → eqb (bit_xor x b) 0 ≡ p
    go true e = eq-eqb (bit_xor x b) 0 (rw (eqb-true x b e) (xor_self b))
    go false e = ne_eqb (bit_xor x b) 0 (λ z. eqb-false x b e (same_byte x b z))

fold-same : (b : ℕ) (v : List ℕ) (all : ℕ) → eqb (fold (λ (a x : ℕ). bit_or a (bit_xor x b)) all v) 0 ≡ (eqb all 0 && same v (replicate (length v) b))
fold-same b [] all = last (eqb all 0)
  where
    last : (p : Bool) → p ≡ (p && true)
    last true = refl
    last false = refl
fold-same b (x ∷ xs) all =
    fold-same b xs (bit_or all (bit_xor x b)) ∙ ap (λ (p : Bool). p && same xs (replicate (length xs) b)) (or-zero all (bit_xor x b) ∙ ap (λ (p : Bool). eqb all 0 && p) (xor-zero x b))
    ∙ and_assoc (eqb all 0) (eqb x b) (same xs (replicate (length xs) b))

pub by-fold : (d : List ℕ) (start n b all : ℕ) → start + n ≤ length d → all ≡ fold (λ (a x : ℕ). bit_or a (bit_xor x b)) 0 (part d start n) → eqb all 0 ≡ same (part d start n) (replicate n b)
by-fold d start n b all h e = ap (λ (k : ℕ). eqb k 0) e ∙ fold-same b (part d start n) 0 ∙ ap (λ (k : ℕ). same (part d start n) (replicate k b)) (length_part d start n h)

pub by_more_same : (d : List ℕ) (start b i j k : ℕ) (c : Bool) → j ≡ i + k → c ≡ same (part d (start + i) k) (replicate k b) → c ≡ true → part d start i ≡ replicate i b → part d start j ≡ replicate j b
by_more_same d start b i j k c z e f g =
    rw z (part-more d start i k ∙ ap₂ (λ (v w : List ℕ). v ++ w) g (same_true (part d (start + i) k) (replicate k b) (sym e ∙ f)) ∙ replicate-append-replicate i k b)
