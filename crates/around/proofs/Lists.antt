-- The lists of tokens, a token at a time; and a token's value.
use mathlib.Core.Path.{◌≡◌, refl, ap, sym, ◌∙◌}
use mathlib.Core.List.{List, [], ◌∷◌}
use Prim.Native.Nat.{ℕ, zero, suc, ◌+◌, ◌-◌, ◌≤◌, ◌<◌}
use native.Mathlib.Numerals.{add-one}
use native.Mathlib.Omega.{arith}
use lib.ListN.{length, drop, length-drop}
use lib.Seq.{length-take-le}
use Rattle.rules.specs.declared.Place.{Place}
use Rattle.rules.specs.Words.{token_at}
use Rattle.rules.specs.Sheet.{body_part, list_of, token_of, tokens_from, tokens_before}
use Rattle.tokens.specs.Placed.{Inside}
use Rattle.around.specs.Readable.{Readable}
use Rattle.around.proofs.Readable.{readable_within}

-- ---- the tokens from one on

pub tokens-step : (s : List ℕ) (base i n : ℕ) → i < n → tokens_from s base i (n - i) ≡ token_of s base i ∷ tokens_from s base (i + 1) (n - (i + 1))
unfolding list_of
tokens-step s base i n h = let e : n - i ≡ suc (n - (i + 1)) = omega arith in rw (e, add-one)

pub tokens_none : (s : List ℕ) (base i n : ℕ) → n ≤ i → tokens_from s base i (n - i) ≡ []
unfolding list_of
tokens_none s base i n h = let e : n - i ≡ 0 = omega arith in rw e

-- ---- the tokens before one

pub before-none : (s : List ℕ) (base : ℕ) → tokens_before s base 0 ≡ []
unfolding tokens_before
before-none s base = refl

pub before-step : (s : List ℕ) (base i : ℕ) → tokens_before s base (i + 1) ≡ token_of s base i ∷ tokens_before s base i
unfolding tokens_before
before-step s base i = rw add-one

pub before_back : (s : List ℕ) (base i : ℕ) → 0 < i → tokens_before s base i ≡ token_of s base (i - 1) ∷ tokens_before s base (i - 1)
unfolding tokens_before
before_back s base i h = let e : i ≡ suc (i - 1) = omega arith in ap (tokens_before s base) e

pub length_before : (s : List ℕ) (base i : ℕ) → length (tokens_before s base i) ≡ i
unfolding tokens_before
length_before s base zero = refl
length_before s base (suc i) = ap suc (length_before s base i)

-- ---- the lists around token i are one list

-- a reversed list before another
abbrev pub onto {ℓ} : {A : Type ℓ} → List A → List A → List A
onto [] ys = ys
onto (x ∷ xs) ys = onto xs (x ∷ ys)

pub around : (s : List ℕ) (base i k : ℕ) → onto (tokens_before s base i) (tokens_from s base i k) ≡ tokens_from s base 0 (i + k)
unfolding tokens_before list_of
around s base zero k = let e : 0 + k ≡ k = omega arith in rw e
around s base (suc i) k = let e : suc i + k ≡ i + suc k = omega arith in around s base i (suc k) ∙ sym (ap (tokens_from s base 0) e)

-- ---- values

pub length_part : (s : List ℕ) (base : ℕ) (p : Place) → Inside s base p → length (body_part s base p) ≡ p.len
unfolding body_part
length_part s base p h = let i = h.inside in length-take-le p.len (drop (base + p.start) s) (simp length-drop (omega arith))

-- l being its length, a value is no longer than the sheet
pub readable_length : (s : List ℕ) (base n i l : ℕ) → Readable s base n → i < n → l ≡ length (token_of s base i).value → l ≤ 65536
readable_length s base n i l r h e =
    let w = readable_within r h in
    let v = w.value_in.inside in
    let m = r.short in
    let p = length_part s base (token_at s i).value w.value_in in
    omega arith
