-- The chain of top-level words: from one to the next of its depth, and from there to the next of any. Assumes nothing.
use mathlib.Core.Path.{◌≡◌, refl, sym, ◌∙◌}
use mathlib.Core.Bool.{Bool, true, false, ◌&&◌}
use mathlib.Core.Logic.{⊎_elim}
use Prim.Native.Nat.{ℕ, zero, suc, ◌+◌, ◌-◌, ◌≤◌, ◌<◌, max}
use native.Mathlib.Numerals.{add-one}
use native.Mathlib.Omega.{arith}
use lib.Dec.{eqb}
use Rattle.rules.specs.declared.Start.{Start}
use Rattle.std.specs.Prelude.{if◌then◌else◌, Option, None, Some}
use Rattle.rules.specs.Tokens.{Token}
use Rattle.rules.specs.InlineBlock.{is_top, start_after, span_after}
use Rattle.table_blocks.specs.Sums.{part_at, depth, size}
use Rattle.table_blocks.specs.First.{First, top_at, top_of}
use Rattle.table_blocks.specs.Spans.{read_span, span_from}
use Rattle.table_blocks.proofs.Firsts.{true_false, less-or, first-hit}

module _ (f : ℕ → Token) where
  -- the words at which a reading changes
  abbrev stirs : Option Start → ℕ → Bool
  stirs None k = top_at f k
  stirs (Some w) k = top_of f w.level k

  abbrev pub start_on : Option Start → ℕ → Option Start
  start_on s j = if is_top (part_at f j) then start_after s (depth f j) (size f (suc j)) else s

  abbrev pub span_on : Option Start → ℕ → ℕ → ℕ
  span_on s j b = if is_top (part_at f j) then span_after s (depth f j) (size f (suc j)) b else b

  quiet_if : {A : Type 0} (t q : Bool) (x y : A) → (t && q) ≡ false → (if t then (if q then x else y) else y) ≡ y
  quiet_if true true x y h = absurd (true_false refl h)
  quiet_if true false x y h = refl
  quiet_if false q x y h = refl

  loud_if : {A : Type 0} (t q : Bool) (x y : A) → (t && q) ≡ true → (if t then (if q then x else y) else y) ≡ x
  loud_if true true x y h = refl
  loud_if true false x y h = absurd (true_false h refl)
  loud_if false q x y h = absurd (true_false h refl)

  quiet : (s : Option Start) (j : ℕ) → stirs s j ≡ false → start_on s j ≡ s
  quiet None j h = rw h
  quiet (Some w) j h = quiet_if (is_top (part_at f j)) (eqb w.level (depth f j)) None (Some w) h

  quiet-span : (s : Option Start) (j b : ℕ) → stirs s j ≡ false → span_on s j b ≡ b
  quiet-span None j b h = rw h
  quiet-span (Some w) j b h = quiet_if (is_top (part_at f j)) (eqb w.level (depth f j)) (max b (size f (suc j) - w.span)) b h

  pub read_none : (j : ℕ) (s : Option Start) (b : ℕ) → read_span f 0 j s b ≡ b
  unfolding read_span
  read_none j s b = refl

  pub read_step : (k j : ℕ) (s : Option Start) (b : ℕ) → read_span f (suc k) j s b ≡ read_span f k (suc j) (start_on s j) (span_on s j b)
  unfolding read_span
  read_step k j s b = refl

  -- k tokens at which nothing changes
  skip : (k l j : ℕ) (s : Option Start) (b : ℕ) → ((i : ℕ) → j ≤ i → i < j + k → stirs s i ≡ false) → read_span f (k + l) j s b ≡ read_span f l (j + k) s b
  skip zero l j s b h =
      let e : 0 + l ≡ l = omega arith in
      let g : j + 0 ≡ j = omega arith in rw (e, g)
  skip (suc k) l j s b h =
      let e : suc k + l ≡ suc (k + l) = omega arith in
      let g : j + suc k ≡ suc j + k = omega arith in
      let q : stirs s j ≡ false = h j (omega arith) (omega arith) in
      rw (e, g, read_step (k + l) j s b, quiet s j q, quiet-span s j b q) (skip k l (suc j) s b (λ i a c. h i (omega arith) (omega arith)))

  module _ (n e : ℕ) (s : Option Start) (j m b : ℕ) (r : First (stirs s) j n m) where
    -- nothing changes before the cut
    pub stays : e ≤ m → j ≤ e → read_span f (e - j) j s b ≡ b
    stays h l =
        let a : e - j ≡ e - j + 0 = omega arith in
        rw a (skip (e - j) 0 j s b (λ i p q. r.none i p (omega arith)) ∙ read_none (j + (e - j)) s b)

    pub moves : m < e → read_span f (e - j) j s b ≡ read_span f (e - (m + 1)) (m + 1) (start_on s m) (span_on s m b)
    moves h =
        let p = r.past in
        let a : e - j ≡ m - j + suc (e - (m + 1)) = omega arith in
        let c : j + (m - j) ≡ m = omega arith in
        rw (a, skip (m - j) (suc (e - (m + 1))) j s b (λ i u v. r.none i u (omega arith)), c, add-one) (read_step (e - suc m) m s b)

  -- ---- the steps of the chain, e being the cut

  pub span-past : (t e b : ℕ) → e ≤ t → span_from f t e b ≡ b
  unfolding span_from
  span-past t e b h = let a : e - t ≡ 0 = omega arith in rw a (read_none t None b)

  module _ (n e b : ℕ) (l : e ≤ n) where
    -- the first top-level word from j on
    pub span-after : (j a : ℕ) → j ≤ e → First (top_at f) j n a → span_from f j e b ≡ span_from f a e b
    unfolding span_from
    span-after j a h r =
        ⊎_elim
        (λ c.
        moves n e None j a b r c
        ∙ sym (moves n e None a a b (first-hit (top_at f) n a (omega arith) (r.here (omega arith))) c))
        (λ c. stays n e None j a b r c h ∙ sym (span-past a e b c)) (less-or a e)

    module _ (t u : ℕ) (w : top_at f t ≡ true) (q : First (top_of f (depth f t)) (t + 1) n u) (h : t < e) where
      opened : span_from f t e b ≡ read_span f (e - (t + 1)) (t + 1) (Some (record { level = depth f t; span = size f (t + 1) })) b
      unfolding span_from
      opened =
          let o : First (top_at f) t n t = first-hit (top_at f) n t (omega arith) w in
          let z : suc t ≡ t + 1 = sym (add-one t) in rw z at (rw w at (moves n e None t t b o h))

      pub span-stuck : e ≤ u → span_from f t e b ≡ b
      span-stuck c = opened ∙ stays n e (Some (record { level = depth f t; span = size f (t + 1) })) (t + 1) u b q c (omega arith)

      pub span-pair : u < e → span_from f t e b ≡ span_from f (u + 1) e (max b (size f (u + 1) - size f (t + 1)))
      unfolding span_from
      span-pair c =
          let o : top_of f (depth f t) u ≡ true = q.here (omega arith) in
          let z : suc u ≡ u + 1 = sym (add-one u) in
          let d = depth f t in
          let a = size f (t + 1) in
          let w : Option Start = Some (record { level = d; span = a }) in
          let x : start_on w u ≡ None = loud_if (is_top (part_at f u)) (eqb d (depth f u)) None w o in
          let y : span_on w u b ≡ max b (size f (suc u) - a) = loud_if (is_top (part_at f u)) (eqb d (depth f u)) (max b (size f (suc u) - a)) b o in
          let m = moves n e w (t + 1) u b q c in opened ∙ m ∙ rw (x, y, z)
