-- The bytes that are kept: where a place's bytes go.
use mathlib.Core.Bool.{Bool, true, false, ◌&&◌, ◌||◌}
use mathlib.Core.Path.{◌≡◌, refl, ap, sym, ◌∙◌}
use mathlib.Core.Logic.{◌⊎◌, inl, inr}
use mathlib.Core.List.{List, [], ◌∷◌, ◌++◌, append_assoc, append-nil}
use Prim.Native.Nat.{ℕ, zero, suc, ◌+◌, ◌-◌, ◌*◌, ◌/◌, ◌%◌, ◌≤◌, ◌<◌}
use native.Mathlib.Nat.{zero-add, add-zero, add-suc, eq-or-lt_of_le, le_of_suc-le-suc}
use native.Mathlib.Omega.{arith}
use lib.Dec.{eqb}
use lib.ListN.{length, take, drop, get_or, length-append, length-drop}
use lib.Seq.{take-suc, get_or-drop, get_or-append_seam, drop-append_seam, take_at, length-take-le}
use borrow.Author.Tests.{le-leb, lt-ltb}
use Rattle.rules.specs.declared.Counts.{Counts}
use Rattle.rules.specs.declared.Place.{Place}
use Rattle.std.specs.Prelude.{if◌then◌else◌}
use Rattle.rules.specs.Words.{place_at, body_at}
use Rattle.rules.specs.Compacted.{word_count, starts_place, covers, covered_by, is_covered, kept_bytes, kept_before, new_start}

-- ---- which bytes are covered

pub covers-in : (p : Place) (i : ℕ) → i < p.len → covers p (p.start + i) ≡ true
covers-in p i h = rw (le-leb p.start (p.start + i) (omega arith), lt-ltb (p.start + i) (p.start + p.len) (omega arith))

or_right : (a : Bool) → a || true ≡ true
or_right true = refl
or_right false = refl

nought-or : (b : Bool) (x y : ℕ) → x ≤ y → (if b then 0 else x) ≤ y
nought-or true x y h = omega arith
nought-or false x y h = h

module _ (s : List ℕ) (c : Counts) where
  -- a place among the first n words
  covered-by : (n k j : ℕ) → k < n → starts_place s c (4 * k) ≡ true → covers (place_at s (4 * k)) j ≡ true → covered_by s c n j ≡ true
  unfolding covered_by
  covered-by zero k j h st co = absurd (omega arith)
  covered-by (suc n) k j h st co = here (λ l. covered-by n k j l st co) (eq-or-lt_of_le (le_of_suc-le-suc h))
    where
      here : (k < n → covered_by s c n j ≡ true) → (k ≡ n) ⊎ (k < n) → covered_by s c n j || (starts_place s c (4 * n) && covers (place_at s (4 * n)) j) ≡ true
      here before (inl e) = rw (← e, st, co) (or_right (covered_by s c k j))
      here before (inr l) = rw (before l)

  -- every byte of a place is
  pub place_covered : (at i : ℕ) → at % 4 ≡ 0 → at < body_at c → starts_place s c at ≡ true → i < (place_at s at).len → is_covered s c ((place_at s at).start + i) ≡ true
  place_covered at i m h st l =
      let e : 4 * (at / 4) ≡ at = omega arith in
      covered-by (word_count c) (at / 4) ((place_at s at).start + i) (omega arith) (rw e st) (rw e (covers-in (place_at s at) i l))

  -- ---- how many are kept

  kept-one : (b : Bool) (j : ℕ) → is_covered s c j ≡ b → kept_bytes s c (suc j) ≡ kept_bytes s c j ++ (if b then get_or s (body_at c + j) 0 ∷ [] else [])
  unfolding kept_bytes
  kept-one b j e = rw e

  pub kept_next : (j : ℕ) → is_covered s c j ≡ true → kept_before s c (suc j) ≡ suc (kept_before s c j)
  kept_next j e = omega (arith, length-append (kept_bytes s c j) (get_or s (body_at c + j) 0 ∷ []), ap length (kept-one true j e))

  kept_same : (j : ℕ) → is_covered s c j ≡ false → kept_bytes s c (suc j) ≡ kept_bytes s c j
  kept_same j e = kept-one false j e ∙ append-nil (kept_bytes s c j)

  kept-at-most : (j : ℕ) (b : Bool) → is_covered s c j ≡ b → kept_before s c (suc j) ≤ suc (kept_before s c j)
  kept-at-most j true e = omega (arith, kept_next j e)
  kept-at-most j false e = omega (arith, ap length (kept_same j e))

  pub kept-le : (j : ℕ) → kept_before s c j ≤ j
  unfolding kept_bytes
  kept-le zero = omega arith
  kept-le (suc j) = omega (arith, kept-at-most j (is_covered s c j) refl, kept-le j)

  pub start-le : (p : Place) → new_start s c p ≤ p.start
  start-le p = nought-or (eqb p.len 0) (kept_before s c p.start) p.start (kept-le p.start)

  -- those before a stand first
  pub kept-rest : (a n : ℕ) → (r : List ℕ) × (kept_bytes s c (a + n) ≡ kept_bytes s c a ++ r)
  kept-rest a zero = ([], rw (add-zero a) (sym (append-nil (kept_bytes s c a))))
  kept-rest a (suc n) =
      let x = if is_covered s c (a + n) then get_or s (body_at c + (a + n)) 0 ∷ [] else [] in
      let (r, e) = kept-rest a n in
      (r ++ x, rw (add-suc a n, kept-one (is_covered s c (a + n)) (a + n) refl, e) (append_assoc (kept_bytes s c a) r x))

  pub kept-grows : (a b : ℕ) → a ≤ b → kept_before s c a ≤ kept_before s c b
  kept-grows a b h =
      let (r, e) = kept-rest a (b - a) in
      let o : a + (b - a) ≡ b = omega arith in
      omega (arith, ap length (rw o at e), length-append (kept_bytes s c a) r)

  -- ---- a run of bytes that are all covered

  module _ (a : ℕ) where
    pub run_length : (n : ℕ) → ((i : ℕ) → i < n → is_covered s c (a + i) ≡ true) → kept_before s c (a + n) ≡ kept_before s c a + n
    run_length zero h = rw (add-zero a) (omega arith)
    run_length (suc n) h = rw (add-suc a n) (omega (arith, kept_next (a + n) (h n (omega arith)), run_length n (λ i l. h i (omega arith))))

    pub run-bytes : (n : ℕ) → ((i : ℕ) → i < n → is_covered s c (a + i) ≡ true) → body_at c + (a + n) ≤ length s → kept_bytes s c (a + n) ≡ kept_bytes s c a ++ take n (drop (body_at c + a) s)
    run-bytes zero h u = rw (add-zero a) (sym (append-nil (kept_bytes s c a)))
    run-bytes (suc n) h u =
        let d = drop (body_at c + a) s in
        let o : body_at c + (a + n) ≡ body_at c + a + n = omega arith in
        let m : n < length d = simp length-drop (omega arith) in
        rw (add-suc a n, kept-one true (a + n) (h n (omega arith)), run-bytes n (λ i l. h i (omega arith)) (omega arith), take-suc d n 0 m, get_or-drop, o)
        (append_assoc (kept_bytes s c a) (take n d) (get_or s (body_at c + a + n) 0 ∷ []))

    pub run-part : (n b : ℕ) → ((i : ℕ) → i < n → is_covered s c (a + i) ≡ true) → a + n ≤ b → body_at c + b ≤ length s → take n (drop (kept_before s c a) (kept_bytes s c b)) ≡ take n (drop (body_at c + a) s)
    run-part n b h l u =
        let p = take n (drop (body_at c + a) s) in
        let (r, e) = kept-rest (a + n) (b - (a + n)) in
        let o : a + n + (b - (a + n)) ≡ b = omega arith in
        let w : kept_bytes s c b ≡ kept_bytes s c a ++ (p ++ r) = rw o at e ∙ ap (λ (x : List ℕ). x ++ r) (run-bytes n h (omega arith)) ∙ append_assoc (kept_bytes s c a) p r in
        rw (w, drop-append_seam (kept_bytes s c a) (p ++ r)) (take_at p r n (length-take-le n (drop (body_at c + a) s) (simp length-drop (omega arith))))

  -- the first n bytes
  module _ (n : ℕ) (h : (i : ℕ) → i < n → is_covered s c i ≡ true) where
    from_start : (i : ℕ) → i < n → is_covered s c (0 + i) ≡ true
    from_start i l = rw (zero-add i) (h i l)

    pub all-length : kept_before s c n ≡ n
    unfolding kept_bytes
    all-length = rw zero-add at (run_length 0 n from_start)

    pub all-bytes : body_at c + n ≤ length s → kept_bytes s c n ≡ take n (drop (body_at c + 0) s)
    unfolding kept_bytes
    all-bytes u = rw zero-add at (run-bytes 0 n from_start (omega arith))

  -- ---- the bytes kept, each from a covered one

  pub kept_byte : (j b : ℕ) → j < b → is_covered s c j ≡ true → get_or (kept_bytes s c b) (kept_before s c j) 0 ≡ get_or s (body_at c + j) 0
  kept_byte j b l e =
      let x = get_or s (body_at c + j) 0 in
      let (r, q) = kept-rest (suc j) (b - suc j) in
      let o : suc j + (b - suc j) ≡ b = omega arith in
      let w : kept_bytes s c b ≡ kept_bytes s c j ++ (x ∷ r) = rw o at q ∙ ap (λ (y : List ℕ). y ++ r) (kept-one true j e) ∙ append_assoc (kept_bytes s c j) (x ∷ []) r in
      rw (w, get_or-append_seam (kept_bytes s c j) x r 0)

  pub kept-each : (Q : ℕ → Type 0) (b : ℕ) → ((j : ℕ) → j < b → is_covered s c j ≡ true → Q (kept_before s c j)) → (m : ℕ) → m < kept_before s c b → Q m
  unfolding kept_bytes
  kept-each Q zero h m l = absurd (omega arith)
  kept-each Q (suc b) h m l = last (is_covered s c b) refl (kept-each Q b (λ j k. h j (omega arith)) m)
    where
      at-end : is_covered s c b ≡ true → (m < kept_before s c b → Q m) → (m ≡ kept_before s c b) ⊎ (m < kept_before s c b) → Q m
      at-end e before (inl q) = rw q (h b (omega arith) e)
      at-end e before (inr q) = before q

      last : (x : Bool) → is_covered s c b ≡ x → (m < kept_before s c b → Q m) → Q m
      last true e before = at-end e before (eq-or-lt_of_le (omega (arith, kept_next b e)))
      last false e before = before (omega (arith, ap length (kept_same b e)))
