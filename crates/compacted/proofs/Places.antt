-- Which words before the bodies start a place.
use mathlib.Core.Bool.{Bool, true, false, ◌&&◌, ◌||◌}
use mathlib.Core.Path.{◌≡◌, refl, ap, ◌∙◌}
use mathlib.Core.List.{List}
use Prim.Native.Nat.{ℕ, ◌+◌, ◌-◌, ◌*◌, ◌/◌, ◌%◌, ◌≤◌, ◌<◌}
use native.Mathlib.Omega.{arith}
use lib.Dec.{eqb, ltb}
use borrow.Author.Tests.{lt-ltb, le-ltb, ltb-true, ltb-false, eqb-true}
use Rattle.rules.specs.declared.Counts.{Counts}
use Rattle.std.specs.Prelude.{if◌then◌else◌}
use Rattle.rules.specs.Words.{word_at, class_bits, tokens_at, params_at, body_at}
use Rattle.rules.specs.Compacted.{starts_in_token, starts_place}
use Rattle.checks.proofs.Passes.{and_left, and_right}

-- no test is both
never : {A : Type 0} → false ≡ true → A
never e = cc

-- the words that start one, by their tables
pub data Start (s : List ℕ) (c : Counts) (at : ℕ) : Type 0 where
  of-value : (i : ℕ) → i < c.tokens → at ≡ tokens_at + 20 * i + 4 → Start s c at
  of-name : (i : ℕ) → i < c.tokens → at ≡ tokens_at + 20 * i + 12 → class_bits (word_at s (tokens_at + 20 * i)) ≡ 1 → Start s c at
  of-record : (m : ℕ) → m < 2 * c.params + c.keeps → at ≡ params_at c + 8 * m → Start s c at

module _ (s : List ℕ) (c : Counts) where
  -- ---- at a known offset

  pub starts-head : (at : ℕ) → at < 48 → starts_place s c at ≡ false
  unfolding starts_place
  starts-head at h = rw (lt-ltb at 48 h)

  module _ (at i r : ℕ) where
    pub starts-token : i < c.tokens → at ≡ tokens_at + 20 * i + r → r < 20 → starts_place s c at ≡ starts_in_token s at r
    unfolding starts_place
    starts-token h e l =
        let k : (at - 48) % 20 ≡ r = omega arith in
        rw (le-ltb at 48 (omega arith), lt-ltb at (params_at c) (omega arith), k)

    pub starts-after : at ≡ params_at c + 8 * i + r → r < 8 → starts_place s c at ≡ eqb r 0
    unfolding starts_place
    starts-after e l =
        let k : (at - params_at c) % 8 ≡ r = omega arith in
        rw (le-ltb at 48 (omega arith), le-ltb at (params_at c) (omega arith), k)

  -- ---- at any

  module _ (at : ℕ) where
    -- the tests as the definition makes them, one at a time
    token-start : (b : Bool) → eqb ((at - 48) % 20) 4 ≡ b → b || (eqb ((at - 48) % 20) 12 && eqb (class_bits (word_at s (at - 12))) 1) ≡ true → 48 ≤ at → at < params_at c → Start s c at
    token-start true e h l u = of-value ((at - 48) / 20) (omega arith) (omega (arith, eqb-true ((at - 48) % 20) 4 e))
    token-start false e h l u =
        let i = (at - 48) / 20 in
        let r = (at - 48) % 20 in
        let class = class_bits (word_at s (at - 12)) in
        let k = eqb-true r 12 (and_left (eqb r 12) (eqb class 1) h) in
        let o : at - 12 ≡ tokens_at + 20 * i = omega arith in
        of-name i (omega arith) (omega arith) (rw o at (eqb-true class 1 (and_right (eqb r 12) (eqb class 1) h)))

    start-at : (a b : Bool) → ltb at 48 ≡ a → ltb at (params_at c) ≡ b → at < body_at c → (if a then false else if b then starts_in_token s at ((at - 48) % 20) else eqb ((at - params_at c) % 8) 0) ≡ true → Start s c at
    start-at true b ea eb u h = never h
    start-at false true ea eb u h = token-start (eqb ((at - 48) % 20) 4) refl h (ltb-false _ _ ea) (ltb-true _ _ eb)
    start-at false false ea eb u h =
        let z = eqb-true ((at - params_at c) % 8) 0 h in
        let l = ltb-false at (params_at c) eb in
        of-record ((at - params_at c) / 8) (omega arith) (omega arith)

    pub start_is : at < body_at c → starts_place s c at ≡ true → Start s c at
    unfolding starts_place
    start_is u h = start-at (ltb at 48) (ltb at (params_at c)) refl refl u h

    pub starts : Start s c at → starts_place s c at ≡ true
    starts (of-value i h e) = starts-token at i 4 h e (omega arith)
    starts (of-name i h e n) =
        let o : at - 12 ≡ tokens_at + 20 * i = omega arith in
        starts-token at i 12 h e (omega arith) ∙ rw (o, n)
    starts (of-record m h e) = starts-after at m 0 (omega arith) (omega arith)

    -- the word after it, the length, starts none
    pub len-stays : Start s c at → starts_place s c (at + 4) ≡ false
    len-stays (of-value i h e) = starts-token (at + 4) i 8 h (omega arith) (omega arith)
    len-stays (of-name i h e n) = starts-token (at + 4) i 16 h (omega arith) (omega arith)
    len-stays (of-record m h e) = starts-after (at + 4) m 4 (omega arith) (omega arith)

    -- its two words stand behind the head and before the bodies
    pub record Bounds : Type 0 where
      pub whole : at % 4 ≡ 0
      pub low : 48 ≤ at
      pub high : at + 8 ≤ body_at c

    pub start-bounds : Start s c at → Bounds
    start-bounds (of-value i h e) = omega arith
    start-bounds (of-name i h e n) = omega arith
    start-bounds (of-record m h e) = omega arith

-- ---- in two sheets

-- the tests are the same but for the class, which is asked after all others
same-choice : (a b d x y z w : Bool) → (a ≡ false → b ≡ true → d ≡ true → y ≡ z) → (if a then false else if b then x || (d && y) else w) ≡ (if a then false else if b then x || (d && z) else w)
same-choice true b d x y z w h = refl
same-choice false false d x y z w h = refl
same-choice false true false x y z w h = refl
same-choice false true true x y z w h = ap (λ (v : Bool). x || v) (h refl refl refl)

-- the words that start a place are the same where the packed words are
pub same-starts : (s t : List ℕ) (c k : Counts) → c.tokens ≡ k.tokens → ((i : ℕ) → i < c.tokens → word_at t (tokens_at + 20 * i) ≡ word_at s (tokens_at + 20 * i)) → (at : ℕ) → starts_place t k at ≡ starts_place s c at
unfolding starts_place
same-starts s t c k n words at =
    rw (← n) (same-choice (ltb at 48) (ltb at (params_at c)) (eqb ((at - 48) % 20) 12) (eqb ((at - 48) % 20) 4) (eqb (class_bits (word_at t (at - 12))) 1) (eqb (class_bits (word_at s (at - 12))) 1) (eqb ((at - params_at c) % 8) 0)
    (λ a b d.
    let u = ltb-true at (params_at c) b in
    let l = ltb-false at 48 a in
    let r = eqb-true ((at - 48) % 20) 12 d in
    let o : at - 12 ≡ tokens_at + 20 * ((at - 48) / 20) = omega arith in
    rw (o, words ((at - 48) / 20) (omega arith))))
