-- A walk over the rows from the last to the first: what is written of a row, and what is left. Assumes nothing.
use mathlib.Core.Path.{◌≡◌, refl, sym, ap, ◌∙◌}
use mathlib.Core.List.{List, [], ◌∷◌, ◌++◌, map, append_assoc}
use Prim.Native.Nat.{ℕ, suc, ◌+◌, ◌-◌, ◌*◌, ◌/◌, ◌%◌, ◌^◌, ◌≤◌, ◌<◌}
use native.Mathlib.Omega.{arith}
use lib.ListN.{length, set, replicate, length-append, length-map}
use Rattle.rules.specs.Rows.{Row, row_words, rows_words}
use Rattle.rows.specs.Listing.{start_at, len_at, with_span, row_at, rows_in, listing, Words}
use Rattle.rows.proofs.ReadLaws.{length-rows, length-in, start-in, len-in}

pub set-append-add : (xs ys : List ℕ) (n a : ℕ) → set (xs ++ ys) (length xs + n) a ≡ xs ++ set ys n a
set-append-add [] ys n a = let e : 0 + n ≡ n = omega arith in rw e
set-append-add (x ∷ xs) ys n a = let e : suc (length xs) + n ≡ suc (length xs + n) = omega arith in rw e (ap (λ (r : List ℕ). x ∷ r) (set-append-add xs ys n a))

-- a row with another start and length
abbrev pub moved : Row → ℕ → ℕ → Row
moved r start len = record { token = r.token; entry = r.entry; start = start; len = len }

pub span-put : (A rest : List ℕ) (r : Row) (at : ℕ) → at ≡ length A → (start len : ℕ) → with_span (A ++ (row_words r ++ rest)) at start len ≡ A ++ (row_words (moved r start len) ++ rest)
unfolding with_span row_words
span-put A rest r at ea start len =
    rw
    (ea, set-append-add A (row_words r ++ rest) 2 (start % 2 ^ 32), set-append-add A (set (row_words r ++ rest) 2 (start % 2 ^ 32)) 3 (start / 2 ^ 32), set-append-add A (set (set (row_words r ++ rest) 2 (start % 2 ^ 32)) 3 (start / 2 ^ 32)) 4 len)

-- ---- the walk

module _ (f : Row → Row) (d₀ : List ℕ) (count : ℕ) where
  -- the list that is due
  abbrev pub due : List ℕ
  due = listing (length d₀) (map f (rows_in count d₀))

  -- of the list d₀ the first i rows are left: they stand in d as they did, and what follows them is as it is due
  pub record Left (d : List ℕ) (i : ℕ) : Type 0 where
    pub rest : List ℕ
    pub here : d ≡ rows_words (rows_in i d₀) ++ rest
    pub whole : due ≡ rows_words (map f (rows_in i d₀)) ++ rest
    pub room : length d ≡ length d₀
    pub within : 5 * i ≤ length d
    pub last : i ≤ 0 → d ≡ due

  walk_in : (d rest : List ℕ) (i : ℕ) → d ≡ rows_words (rows_in i d₀) ++ rest → 5 * i ≤ length d
  walk_in d rest i e =
      let m = ap length e in
      let n = length-append (rows_words (rows_in i d₀)) rest in
      let k = length-rows (rows_in i d₀) in
      let j = length-in i d₀ in omega arith

  walk_ends : (d rest : List ℕ) (i : ℕ) → d ≡ rows_words (rows_in i d₀) ++ rest → due ≡ rows_words (map f (rows_in i d₀)) ++ rest → i ≤ 0 → d ≡ due
  unfolding rows_in rows_words
  walk_ends d rest i e g h = let z : i ≡ 0 = omega arith in rw z at e ∙ sym (rw z at g)

  -- the first i rows are left, and rest after them
  left_of : (d rest : List ℕ) (i : ℕ) → d ≡ rows_words (rows_in i d₀) ++ rest → due ≡ rows_words (map f (rows_in i d₀)) ++ rest → length d ≡ length d₀ → Left d i
  left_of d rest i e g n = record { rest = rest; here = e; whole = g; room = n; within = walk_in d rest i e; last = walk_ends d rest i e g }

  pub walk_begins : Words d₀ count → Left d₀ count
  unfolding listing
  walk_begins w =
      let rs = rows_in count d₀ in
      let e : length (rows_words (map f rs)) ≡ length (rows_words rs) = length-rows (map f rs) ∙ ap (λ (k : ℕ). 5 * k) (length-map rs f) ∙ sym (length-rows rs) in
      left_of d₀ (replicate (length d₀ - length (rows_words rs)) 0) count w.words (ap (λ (k : ℕ). rows_words (map f rs) ++ replicate (length d₀ - k) 0) e) refl

  module _ (d : List ℕ) (i at : ℕ) (l : Left d i) (h : 0 < i) (ea : at ≡ 5 * (i - 1)) where
    abbrev pub row : Row
    row = row_at d₀ (5 * (i - 1))

    abbrev before : List Row
    before = rows_in (i - 1) d₀

    pub one_more : rows_in i d₀ ≡ row ∷ before
    unfolding rows_in
    one_more = let e : i ≡ suc (i - 1) = omega arith in ap (λ (k : ℕ). rows_in k d₀) e

    stands : d ≡ rows_words before ++ (row_words row ++ l.rest)
    unfolding rows_words
    stands = l.here ∙ ap (λ (rs : List Row). rows_words rs ++ l.rest) one_more ∙ append_assoc (rows_words before) (row_words row) l.rest

    at_is : at ≡ length (rows_words before)
    at_is = ea ∙ sym (length-rows before ∙ ap (λ (k : ℕ). 5 * k) (length-in (i - 1) d₀))

    pub start_is : start_at d at ≡ row.start
    start_is = ap (λ (x : List ℕ). start_at x at) stands ∙ start-in (rows_words before) l.rest row at at_is

    pub len_is : len_at d at ≡ row.len
    len_is = ap (λ (x : List ℕ). len_at x at) stands ∙ len-in (rows_words before) l.rest row at at_is

    pub walk-on : (d' : List ℕ) (start len : ℕ) → d' ≡ with_span d at start len → f row ≡ moved row start len → length d' ≡ length d → Left d' (i - 1)
    unfolding rows_words
    walk-on d' start len w e n =
        left_of d' (row_words (moved row start len) ++ l.rest) (i - 1)
        (w ∙ ap (λ (x : List ℕ). with_span x at start len) stands ∙ span-put (rows_words before) l.rest row at at_is start len)
        (l.whole ∙ ap (λ (rs : List Row). rows_words (map f rs) ++ l.rest) one_more ∙ append_assoc (rows_words (map f before)) (row_words (f row)) l.rest ∙ ap (λ (r : Row). rows_words (map f before) ++ (row_words r ++ l.rest)) e)
        (n ∙ l.room)
