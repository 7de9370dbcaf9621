-- A token's value, read from the sheet.
use mathlib.Core.Bool.{Bool, true, false, and-true, and-false}
use mathlib.Core.Path.{◌≡◌, refl, ap, sym, ◌∙◌}
use mathlib.Core.List.{List, [], ◌∷◌}
use Prim.Native.Nat.{ℕ, ◌+◌, ◌*◌, ◌<◌, ◌≤◌}
use native.Mathlib.Omega.{arith}
use lib.Dec.{eqb, ltb, leb-suc-suc}
use lib.ListN.{length, take, drop, get_or}
use lib.Seq.{get_or-take, get_or-drop}
use borrow.Author.Tests.{eq-eqb, ne_eqb, eqb-true, eqb-false, lt-ltb}
use Rattle.rules.specs.Base.{same, any_of}
use Rattle.rules.specs.Words.{word_at, place_at, token_from, token_at}
use Rattle.rules.specs.Sheet.{body_part, token_of}
use Rattle.tokens.specs.Placed.{Within}
use Rattle.ascii.specs.Part.{before}
use Rattle.around.proofs.Lists.{length_part}

-- ---- a value that is one byte

same_one : (v : List ℕ) (b : ℕ) → length v ≡ 1 → same v (b ∷ []) ≡ eqb (get_or v 0 0) b
same_one [] b h = absurd (omega arith)
same_one (x ∷ []) b h = and-true (eqb x b)
same_one (x ∷ y ∷ ys) b h = absurd (omega arith)

same_not : (v : List ℕ) (b : ℕ) → (length v ≡ 1 → ⊥) → same v (b ∷ []) ≡ false
same_not [] b h = refl
same_not (x ∷ []) b h = absurd (h refl)
same_not (x ∷ y ∷ ys) b h = and-false (eqb x b)

-- ---- a value with a line feed

found_by : (x : ℕ) (b : Bool) → eqb x 10 ≡ b → eqb 10 x ≡ b
found_by x true e = eq-eqb 10 x (sym (eqb-true x 10 e))
found_by x false e = ne_eqb 10 x (λ z. eqb-false x 10 e (sym z))

before_feed : (v : List ℕ) → ltb (before 10 v) (length v) ≡ any_of (eqb 10) v
before_feed [] = refl
before_feed (x ∷ xs) = go (eqb x 10) refl (before_feed xs)
  where
    go : (b : Bool) → eqb x 10 ≡ b → ltb (before 10 xs) (length xs) ≡ any_of (eqb 10) xs → ltb (before 10 (x ∷ xs)) (length (x ∷ xs)) ≡ any_of (eqb 10) (x ∷ xs)
    go true e f = rw (e, found_by x true e) (lt-ltb 0 (length (x ∷ xs)) (omega arith))
    go false e f = rw (e, found_by x false e, leb-suc-suc) f

module _ (s : List ℕ) (base i : ℕ) (w : Within s base i) where
  value_length : length (token_of s base i).value ≡ (token_at s i).value.len
  value_length = length_part s base (token_at s i).value w.value_in

  pub length_read : length (token_of s base i).value ≡ word_at s (48 + 20 * i + 8)
  unfolding token_from place_at
  length_read = let f : 48 + 20 * i + 4 + 4 ≡ 48 + 20 * i + 8 = omega arith in value_length ∙ ap (word_at s) f

  pub value_inside : base + ((token_at s i).value.start + (token_at s i).value.len) ≤ length s
  value_inside = w.value_in.inside

  module _ (b : ℕ) where
    pub no_byte : ((token_at s i).value.len ≡ 1 → ⊥) → same (token_of s base i).value (b ∷ []) ≡ false
    no_byte n = same_not (token_of s base i).value b (λ e. n (sym value_length ∙ e))

    pub one_byte : (token_at s i).value.len ≡ 1 → same (token_of s base i).value (b ∷ []) ≡ eqb (get_or s (base + (token_at s i).value.start) 0) b
    unfolding body_part
    one_byte l =
        let p = (token_at s i).value in
        let z : 0 < p.len = omega arith in
        let a : base + p.start + 0 ≡ base + p.start = omega arith in
        same_one (body_part s base p) b (value_length ∙ l) ∙ ap (λ (x : ℕ). eqb x b) (get_or-take p.len (drop (base + p.start) s) 0 0 z ∙ get_or-drop (base + p.start) s 0 0 ∙ ap (λ (x : ℕ). get_or s x 0) a)

  pub feed_found : any_of (eqb 10) (token_of s base i).value ≡ ltb (before 10 (take (token_at s i).value.len (drop (base + (token_at s i).value.start) s))) (token_at s i).value.len
  unfolding body_part
  feed_found = sym (before_feed (token_of s base i).value) ∙ ap (ltb (before 10 (token_of s base i).value)) value_length

pub ruleset one = (value_inside, no_byte, one_byte)
