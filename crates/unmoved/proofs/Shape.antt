-- Which entry a placeholder shows is read from the shape of the parameters alone. Assumes nothing.
use mathlib.Core.Path.{◌≡◌, refl, sym, ap, ◌∙◌}
use mathlib.Core.Bool.{Bool, true, false, ◌&&◌, false≢true}
use Rattle.std.specs.Prelude.{Option, None, Some, if◌then◌else◌, unwrap_or}
use mathlib.Core.List.{List, [], ◌∷◌, map}
use Prim.Native.Nat.{ℕ, zero, suc}
use lib.Dec.{ltb}
use lib.ListN.{length-map}
use Rattle.rules.specs.declared.ZeroIndexed.{ZeroIndexed}
use Rattle.rules.specs.Base.{when, same, find, nth?}
use Rattle.rules.specs.Tokens.{Key, absent, named, zero_indexed, one_indexed, from_one, Token}
use Rattle.rules.specs.Sheet.{Param, QueryParams, NoParams, Indexed, Named}
use Rattle.rules.specs.Params.{by_name, by_number, by_index, source, value_in, value_at, value_from, entry, get, advances, offends}
use Rattle.rules.specs.Switch.{Switch, turn_of, switched_on}
use Rattle.rules.specs.Rows.{lays_out}
use Rattle.rules.specs.Shown.{Shown, showing, shown_from, shown}
use Rattle.rules.proofs.Own.{Found, found-source}
use Rattle.unmoved.specs.Unmoved.{shape, values, firm, all_firm}

-- ---- the shape decides

find_shape : (n : List ℕ) (i : ℕ) (ps : List Param) → find (λ (p : Param). same p.name n) i (map (λ (p : Param). record { name = p.name; value = [] }) ps) ≡ find (λ (p : Param). same p.name n) i ps
find_shape n i [] = refl
find_shape n i (p ∷ ps) = rw (find_shape n (suc i) ps)

number-shape : (vs : List (List ℕ)) (n : ℕ) → by_number (map (λ v. []) vs) n ≡ by_number vs n
unfolding by_number
number-shape vs n = ap (λ (k : ℕ). if ltb n k then Some n else None) (length-map vs (λ v. []))

index_shape : (vs : List (List ℕ)) (n : Option ZeroIndexed) → by_index (map (λ v. []) vs) n ≡ by_index vs n
unfolding by_index
index_shape vs (Some n) = number-shape vs n.0
index_shape vs None = refl

source-shape : (ps : QueryParams) (k : Key) (i : ℕ) → source (shape ps) k i ≡ source ps k i
unfolding source shape by_name
source-shape NoParams k i = refl
source-shape (Named ps) absent i = refl
source-shape (Named ps) (named n) i = find_shape n 0 ps
source-shape (Named ps) (zero_indexed n) i = find_shape [] 0 ps
source-shape (Named ps) (one_indexed n) i = find_shape [] 0 ps
source-shape (Indexed vs) absent i = number-shape vs i
source-shape (Indexed vs) (named []) i = number-shape vs i
source-shape (Indexed vs) (named (c ∷ n)) i = refl
source-shape (Indexed vs) (zero_indexed n) i = index_shape vs (Some n)
source-shape (Indexed vs) (one_indexed n) i = index_shape vs (from_one n)

advances-shape : (ps : QueryParams) (k : Key) → advances (shape ps) k ≡ advances ps k
unfolding advances shape
advances-shape NoParams k = refl
advances-shape (Named ps) k = refl
advances-shape (Indexed vs) absent = refl
advances-shape (Indexed vs) (named []) = refl
advances-shape (Indexed vs) (named (c ∷ n)) = refl
advances-shape (Indexed vs) (zero_indexed n) = refl
advances-shape (Indexed vs) (one_indexed n) = refl

offends-shape : (ps : QueryParams) (k : Key) → offends (shape ps) k ≡ offends ps k
unfolding offends shape
offends-shape NoParams k = refl
offends-shape (Named ps) k = refl
offends-shape (Indexed vs) absent = refl
offends-shape (Indexed vs) (named n) = refl
offends-shape (Indexed vs) (zero_indexed n) = refl
offends-shape (Indexed vs) (one_indexed n) = refl

-- ---- an entry's value is firm

both_true : (a b : Bool) → (a && b) ≡ true → (a ≡ true) × (b ≡ true)
both_true true b h = (refl, h)
both_true false b h = absurd (false≢true h)

firm-nth : (vs : List (List ℕ)) (n : ℕ) (v : List ℕ) → all_firm vs ≡ true → nth? vs n ≡ Some v → firm v ≡ true
unfolding all_firm
firm-nth [] n v h e = cc
firm-nth (x ∷ vs) zero v h e = let s : x ≡ v = cc in rw s at (both_true (firm x) (all_firm vs) h).0
firm-nth (x ∷ vs) (suc n) v h e = firm-nth vs n v (both_true (firm x) (all_firm vs) h).1 e

nth-value : (ps : List Param) (n : ℕ) → nth? (map (λ (p : Param). p.value) ps) n ≡ value_in (nth? ps n)
unfolding value_in
nth-value [] n = refl
nth-value (p ∷ ps) zero = refl
nth-value (p ∷ ps) (suc n) = nth-value ps n

firm-value : (ps : QueryParams) (n : ℕ) (v : List ℕ) → all_firm (values ps) ≡ true → value_at ps n ≡ Some v → firm v ≡ true
unfolding values value_at
firm-value NoParams n v h e = cc
firm-value (Indexed vs) n v h e = firm-nth vs n v h e
firm-value (Named ps) n v h e = firm-nth (map (λ (p : Param). p.value) ps) n v h (nth-value ps n ∙ e)

-- ---- two lists of parameters of one shape

-- x and y are shown for a token of the value v: each the value of an entry; with none, v
abbrev pub Filled : List ℕ → Option ℕ → List ℕ → List ℕ → Type 0
Filled v None x y = (x ≡ v) × (y ≡ v)
Filled v (Some n) x y = (firm x ≡ true) × (firm y ≡ true)

module _ (ps qs : QueryParams) (shapes : shape ps ≡ shape qs) where
  pub source-same : (k : Key) (i : ℕ) → source ps k i ≡ source qs k i
  source-same k i = sym (source-shape ps k i) ∙ ap (λ (x : QueryParams). source x k i) shapes ∙ source-shape qs k i

  pub advances-same : (k : Key) → advances ps k ≡ advances qs k
  advances-same k = sym (advances-shape ps k) ∙ ap (λ (x : QueryParams). advances x k) shapes ∙ advances-shape qs k

  pub offends-same : (k : Key) → offends ps k ≡ offends qs k
  offends-same k = sym (offends-shape ps k) ∙ ap (λ (x : QueryParams). offends x k) shapes ∙ offends-shape qs k

  module _ (firm-ps : all_firm (values ps) ≡ true) (firm-qs : all_firm (values qs) ≡ true) where
    filled-from : (v : List ℕ) (o : Option ℕ) → Found ps o → Found qs o → Filled v o (unwrap_or (value_from ps o) v) (unwrap_or (value_from qs o) v)
    unfolding value_from
    filled-from v None f g = (refl, refl)
    filled-from v (Some n) f g = (rw f.1 (firm-value ps n f.0 firm-ps f.1), rw g.1 (firm-value qs n g.0 firm-qs g.1))

    pub filled : (k : Key) (i : ℕ) (v : List ℕ) → Filled v (source ps k i) (get ps k i v) (get qs k i v)
    unfolding get entry
    filled k i v = rw (← source-same k i) (filled-from v (source ps k i) (found-source ps k i) (rw (source-same k i) (found-source qs k i)))

  -- ---- what is shown, by its token and its entry

  module _ {A : Type 0} (f : Shown → A) (so : (n i : ℕ) (t : Token) → f (showing ps n i t) ≡ f (showing qs n i t)) where
    here-same : (b : Bool) (n i : ℕ) (t : Token) (xs ys : List Shown) → map f xs ≡ map f ys → map f (when b (λ zs. showing ps n i t ∷ zs) xs) ≡ map f (when b (λ zs. showing qs n i t ∷ zs) ys)
    unfolding when
    here-same true n i t xs ys h = rw (so n i t, h)
    here-same false n i t xs ys h = h

    shown-from : (n i : ℕ) (w : Switch) (ts : List Token) (xs ys : List Shown) → map f xs ≡ map f ys → map f (shown_from ps n i w ts xs) ≡ map f (shown_from qs n i w ts ys)
    unfolding shown_from
    shown-from n i w [] xs ys h = h
    shown-from n i w (t ∷ ts) xs ys h =
        rw (advances-same t.key)
        (shown-from (suc n) _ _ ts _ _ (here-same (lays_out (turn_of w t.kind t.value) t.kind) n i t xs ys h))

  pub shown-tokens : (ts : List Token) → map (λ (x : Shown). x.token) (shown ps ts) ≡ map (λ (x : Shown). x.token) (shown qs ts)
  unfolding shown showing
  shown-tokens ts = shown-from (λ x. x.token) (λ n i t. refl) 0 0 switched_on ts [] [] refl

  pub shown-entries : (ts : List Token) → map (λ (x : Shown). x.entry) (shown ps ts) ≡ map (λ (x : Shown). x.entry) (shown qs ts)
  unfolding shown showing
  shown-entries ts = shown-from (λ x. x.entry) (λ n i t. source-same t.key i) 0 0 switched_on ts [] [] refl
