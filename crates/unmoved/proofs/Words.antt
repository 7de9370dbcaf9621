-- The rows are read back from the words of a list: an entry's number is below the word for none. Assumes nothing.
use mathlib.Core.Path.{◌≡◌, refl, ap}
use mathlib.Core.Bool.{Bool, true, false}
use Rattle.std.specs.Prelude.{Option, None, Some, if◌then◌else◌, Ok}
use mathlib.Core.List.{List, [], ◌∷◌, ◌++◌, map}
use Prim.Native.Nat.{ℕ, zero, suc, ◌-◌, ◌≤◌, ◌<◌}
use native.Mathlib.Omega.{arith}
use lib.Dec.{eqb}
use lib.ListN.{length, replicate}
use Rattle.rules.specs.declared.Counts.{Counts}
use Rattle.rules.specs.Base.{when, nth?}
use Rattle.rules.specs.Words.{word_at}
use Rattle.rules.specs.Tokens.{Token}
use Rattle.rules.specs.Checks.{checked}
use Rattle.rules.specs.Sheet.{Param, QueryParams, NoParams, Indexed, Named, list_of, value_of, param_of, params_of, env_of, tokens_of}
use Rattle.rules.specs.Params.{source, value_in, value_at}
use Rattle.rules.specs.Switch.{Switch, turn_of, switched_on}
use Rattle.rules.specs.Rows.{Row, rows, rows_words, entry_word, placeholders, lays_out}
use Rattle.rules.specs.Shown.{Shown, showing, shown_from, shown}
use Rattle.rules.proofs.Own.{Found, found-source}
use Rattle.rules.proofs.Rows.{rows-entries, rows-count}
use Rattle.rows.specs.Listing.{entry_of, rows_in, listing}
use Rattle.rows.proofs.Back.{entry-back, Worded, rows_back}
use Rattle.checks.proofs.Sound.{sound-sheeted}

-- ---- an entry's number is below the number of parameters

nth-below : (vs : List (List ℕ)) (n : ℕ) (v : List ℕ) → nth? vs n ≡ Some v → n < length vs
nth-below [] n v e = cc
nth-below (x ∷ vs) zero v e = omega arith
nth-below (x ∷ vs) (suc n) v e = let h = nth-below vs n v e in omega arith

param-below : (ps : List Param) (n : ℕ) (v : List ℕ) → value_in (nth? ps n) ≡ Some v → n < length ps
unfolding value_in
param-below [] n v e = cc
param-below (x ∷ ps) zero v e = omega arith
param-below (x ∷ ps) (suc n) v e = let h = param-below ps n v e in omega arith

abbrev many : QueryParams → ℕ
many NoParams = 0
many (Indexed vs) = length vs
many (Named ps) = length ps

value-below : (ps : QueryParams) (n : ℕ) (v : List ℕ) → value_at ps n ≡ Some v → n < many ps
unfolding value_at
value-below NoParams n v e = cc
value-below (Indexed vs) n v e = nth-below vs n v e
value-below (Named ps) n v e = param-below ps n v e

length-list_of : {A : Type 0} (f : ℕ → A) (i k : ℕ) → length (list_of f i k) ≡ k
unfolding list_of
length-list_of f i zero = refl
length-list_of f i (suc k) = ap suc (length-list_of f (suc i) k)

many-params : (s : List ℕ) (c : Counts) → many (params_of s c) ≤ c.params
unfolding params_of
many-params s c = go (eqb (word_at s 16) 0) (eqb (word_at s 16) 1)
  where
    go : (a b : Bool) → many (if a then NoParams else if b then Indexed (list_of (value_of s c) 0 c.params) else Named (list_of (param_of s c) 0 c.params)) ≤ c.params
    go true b = omega arith
    go false true = rw (length-list_of (value_of s c) 0 c.params) (omega arith)
    go false false = rw (length-list_of (param_of s c) 0 c.params) (omega arith)

-- ---- so that its word gives it back

module _ (ps : QueryParams) (few : many ps ≤ 256) where
  entry-few : (o : Option ℕ) → Found ps o → (n : ℕ) → o ≡ Some n → n < 4294967295
  entry-few None f n e = cc
  entry-few (Some m) f n e =
      let s : m ≡ n = cc in
      let h = value-below ps m f.0 f.1 in
      omega arith

  -- the entries have words
  abbrev WordedIn : List (Option ℕ) → Type 0
  WordedIn [] = Unit {0}
  WordedIn (o ∷ os) = (entry_of (entry_word o) ≡ o) × WordedIn os

  worded_here : (b : Bool) (n i : ℕ) (t : Token) (xs : List Shown) → WordedIn (map (λ (x : Shown). x.entry) xs) → WordedIn (map (λ (x : Shown). x.entry) (when b (λ zs. showing ps n i t ∷ zs) xs))
  unfolding when showing
  worded_here true n i t xs w = (entry-back (source ps t.key i) (entry-few (source ps t.key i) (found-source ps t.key i)), w)
  worded_here false n i t xs w = w

  worded_from : (n i : ℕ) (w : Switch) (ts : List Token) (xs : List Shown) → WordedIn (map (λ (x : Shown). x.entry) xs) → WordedIn (map (λ (x : Shown). x.entry) (shown_from ps n i w ts xs))
  unfolding shown_from
  worded_from n i w [] xs h = h
  worded_from n i w (t ∷ ts) xs h = worded_from (suc n) _ _ ts _ (worded_here (lays_out (turn_of w t.kind t.value) t.kind) n i t xs h)

  worded_rows : (rs : List Row) → WordedIn (map (λ (r : Row). r.entry) rs) → Worded rs
  unfolding Worded
  worded_rows [] h = tt
  worded_rows (r ∷ rs) h = (h.0, worded_rows rs h.1)

-- the rows of a sound sheet, from a list of k words that holds them and zero after them
pub rows-read : (s : List ℕ) (c : Counts) (room k : ℕ) (d : List ℕ) → checked s ≡ Ok c → let rs = rows (env_of s c room) (tokens_of s c) in
    length d ≡ k → d ≡ rows_words rs ++ replicate (k - length (rows_words rs)) 0 → rows_in (placeholders (tokens_of s c)) d ≡ rs
unfolding listing shown env_of
rows-read s c room k d sound long e =
    let rs : List Row = rows (env_of s c room) (tokens_of s c) in
    let few : many (params_of s c) ≤ 256 = omega (arith, many-params s c, (sound-sheeted s c sound).few.params) in
    let w : Worded rs = worded_rows (params_of s c) few rs (rw (rows-entries (env_of s c room) (tokens_of s c)) (worded_from (params_of s c) few 0 0 switched_on (tokens_of s c) [] tt)) in
    rows_back d rs (placeholders (tokens_of s c)) (rw long e) w (rows-count (env_of s c room) (tokens_of s c))
