-- The entry that is found is the one that the rules show, and one of the list. Assumes nothing.
use mathlib.Core.Path.{◌≡◌, refl, ap}
use mathlib.Core.Bool.{Bool, true, false}
use Rattle.std.specs.Prelude.{Option, None, Some, if◌then◌else◌}
use mathlib.Core.List.{List, [], ◌∷◌}
use Prim.Native.Nat.{ℕ, zero, suc, ◌+◌, ◌≤◌, ◌<◌}
use native.Mathlib.Omega.{arith}
use lib.Dec.{eqb, ltb}
use lib.ListN.{length}
use borrow.Author.Tests.{ltb-true, ne_eqb}
use Rattle.rules.specs.declared.PlaceholderKind.{PlaceholderKind}
use Rattle.rules.specs.declared.ZeroIndexed.{ZeroIndexed}
use Rattle.rules.specs.declared.PlaceholderKind.TheVariants as key
use Rattle.rules.specs.declared.Counts.{Counts}
use Rattle.rules.specs.Base.{same, find, nth?}
use Rattle.rules.specs.Tokens.{named, from_one}
use Rattle.rules.specs.Words.{word_at, body_at}
use Rattle.rules.specs.Sheet.{body_part, list_of, key_read, Param, NoParams, Indexed, Named, value_of, param_of, params_of}
use Rattle.rules.specs.Params.{by_name, by_number, by_index, source, value_in, value_at, value_from, entry}
use Rattle.places.proofs.Laws.{length_part}
use Rattle.params.specs.Entries.{KeyIn, first_from, has_name, entry_named, entry_keyed, entry_at, entry_from, takes_next, entry_numbered, entry_indexed, entry_for}
use Rattle.params.specs.Found.{Below}

-- ---- lists that are read by their records' numbers

module _ {A : Type 0} (f : ℕ → A) where
  pub length-list : (j k : ℕ) → length (list_of f j k) ≡ k
  unfolding list_of
  length-list j zero = refl
  length-list j (suc k) = ap suc (length-list (suc j) k)

  pub nth_in : (j k i : ℕ) → i < k → nth? (list_of f j k) i ≡ Some (f (j + i))
  unfolding list_of
  nth_in j zero i h = absurd (omega arith)
  nth_in j (suc k) zero h = let e : j + 0 ≡ j = omega arith in rw e
  nth_in j (suc k) (suc i) h = let e : j + suc i ≡ suc j + i = omega arith in rw e (nth_in (suc j) k i (omega arith))

  pub nth_past : (j k i : ℕ) → k ≤ i → nth? (list_of f j k) i ≡ None
  unfolding list_of
  nth_past j zero i h = refl
  nth_past j (suc k) zero h = absurd (omega arith)
  nth_past j (suc k) (suc i) h = nth_past (suc j) k i (omega arith)

-- one of two entries
pick : (i : ℕ) (b : Bool) (e : Option ℕ) (o : Option ℕ) → e ≡ o → (if b then Some i else e) ≡ (if b then Some i else o)
pick i true e o h = refl
pick i false e o h = h

module _ (s : List ℕ) (c : Counts) where
  abbrev values : List (List ℕ)
  values = list_of (value_of s c) 0 c.params

  abbrev table : List Param
  table = list_of (param_of s c) 0 c.params

  -- ---- Named

  module _ (n : List ℕ) where
    first-is : (i k : ℕ) → first_from (has_name s c n) i k ≡ find (λ (p : Param). same p.name n) i (list_of (param_of s c) i k)
    unfolding first_from list_of has_name
    first-is i zero = refl
    first-is i (suc k) = pick i (has_name s c n i) _ _ (first-is (suc i) k)

    named-is : entry_named s c n ≡ by_name table n
    unfolding entry_named by_name
    named-is = first-is 0 c.params

  -- ---- Indexed

  at_is : (i : ℕ) → entry_at c i ≡ by_number values i
  unfolding entry_at by_number
  at_is i = rw (length-list (value_of s c) 0 c.params) (pick i (ltb i c.params) None None refl)

  from_is : (n : Option ZeroIndexed) → entry_from c n ≡ by_index values n
  unfolding entry_from by_index
  from_is (Some n) = at_is n.0
  from_is None = refl

  -- ---- the lookup

  module _ (i : ℕ) where
    keyed-is : (k : Option PlaceholderKind) → entry_keyed s c k ≡ source (Named table) (key_read s (body_at c) k) i
    unfolding entry_keyed source key_read
    keyed-is None = refl
    keyed-is (Some (key.Named p)) = named-is (body_part s (body_at c) p)
    keyed-is (Some (key.Zero n)) = named-is []
    keyed-is (Some (key.One n)) = named-is []

    -- a name of m bytes
    name-is : (v : List ℕ) (m : ℕ) → length v ≡ m → (if eqb m 0 then entry_at c i else None) ≡ source (Indexed values) (named v) i
    unfolding source
    name-is [] m h = rw (← h) (at_is i)
    name-is (x ∷ v) m h = rw (ne_eqb m 0 (λ z. omega arith))

    indexed-is : (k : Option PlaceholderKind) → KeyIn s (body_at c) k → entry_indexed c k i ≡ source (Indexed values) (key_read s (body_at c) k) i
    unfolding entry_indexed takes_next entry_numbered source key_read by_index
    indexed-is None h = at_is i
    indexed-is (Some (key.Named p)) h = name-is (body_part s (body_at c) p) p.len (length_part s (body_at c) p (h.name_in p refl))
    indexed-is (Some (key.Zero n)) h = at_is n.0
    indexed-is (Some (key.One n)) h = from_is (from_one n)

    pub entry-is : (k : Option PlaceholderKind) → KeyIn s (body_at c) k → entry_for s c k i ≡ source (params_of s c) (key_read s (body_at c) k) i
    unfolding entry_for params_of source
    entry-is k h = by_mode (eqb (word_at s 16) 0) (eqb (word_at s 16) 1)
      where
        by_mode : (z o : Bool) → (if z then None else if o then entry_indexed c k i else entry_keyed s c k) ≡ source (if z then NoParams else if o then Indexed values else Named table) (key_read s (body_at c) k) i
        by_mode true o = refl
        by_mode false true = indexed-is k h
        by_mode false false = keyed-is k

-- ---- an entry that is found is one of the list

below-nothing : (k : ℕ) → Below k None
below-nothing k j e = absurd (let z : ◌≡◌ {A = ℕ} 0 1 = cc in omega arith)

below-if : (k : ℕ) (b : Bool) (e d : Option ℕ) → (b ≡ true → Below k e) → Below k d → Below k (if b then e else d)
below-if k true e d p q = p refl
below-if k false e d p q = q

below_at : (k i : ℕ) → i < k → Below k (Some i)
below_at k i h j e = let z : i ≡ j = cc in omega arith

first_below : (p : ℕ → Bool) (i k n : ℕ) → i + k ≤ n → Below n (first_from p i k)
unfolding first_from
first_below p i zero n h = below-nothing n
first_below p i (suc k) n h = below-if n (p i) _ _ (λ e. below_at n i (omega arith)) (first_below p (suc i) k n (omega arith))

module _ (s : List ℕ) (c : Counts) where
  named-below : (n : List ℕ) → Below c.params (entry_named s c n)
  unfolding entry_named
  named-below n = first_below (has_name s c n) 0 c.params c.params (omega arith)

  at-below : (i : ℕ) → Below c.params (entry_at c i)
  unfolding entry_at
  at-below i = below-if c.params (ltb i c.params) _ _ (λ e. below_at c.params i (ltb-true _ _ e)) (below-nothing c.params)

  from-below : (n : Option ZeroIndexed) → Below c.params (entry_from c n)
  unfolding entry_from
  from-below (Some n) = at-below n.0
  from-below None = below-nothing c.params

  keyed-below : (k : Option PlaceholderKind) → Below c.params (entry_keyed s c k)
  unfolding entry_keyed
  keyed-below None = below-nothing c.params
  keyed-below (Some (key.Named p)) = named-below (body_part s (body_at c) p)
  keyed-below (Some (key.Zero n)) = named-below []
  keyed-below (Some (key.One n)) = named-below []

  numbered_below : (k : Option PlaceholderKind) → Below c.params (entry_numbered c k)
  unfolding entry_numbered
  numbered_below None = below-nothing c.params
  numbered_below (Some (key.Named p)) = below-nothing c.params
  numbered_below (Some (key.Zero n)) = at-below n.0
  numbered_below (Some (key.One n)) = from-below (from_one n)

  pub entry_below : (k : Option PlaceholderKind) (i : ℕ) → Below c.params (entry_for s c k i)
  unfolding entry_for entry_indexed
  entry_below k i =
      below-if c.params (eqb (word_at s 16) 0) _ _ (λ z. below-nothing c.params)
      (below-if c.params (eqb (word_at s 16) 1) _ _ (λ o. below-if c.params (takes_next k) _ _ (λ e. at-below i) (numbered_below k))
      (keyed-below k))

-- ---- and its bytes are those that the rules show

module _ (s : List ℕ) (c : Counts) where
  -- the bytes of an entry's value
  abbrev pub bytes_of : Option ℕ → Option (List ℕ)
  bytes_of (Some i) = Some (value_of s c i)
  bytes_of None = None

  numbered-value : (e : Option ℕ) → Below c.params e → bytes_of e ≡ value_from (Indexed (values s c)) e
  unfolding value_from value_at
  numbered-value (Some j) b = rw (nth_in (value_of s c) 0 c.params j (b j refl)) (ap (λ (m : ℕ). Some (value_of s c m)) (omega arith))
  numbered-value None b = refl

  named_value : (e : Option ℕ) → Below c.params e → bytes_of e ≡ value_from (Named (table s c)) (e)
  unfolding value_from value_at value_in
  named_value (Some j) b = rw (nth_in (param_of s c) 0 c.params j (b j refl)) (ap (λ (m : ℕ). Some (value_of s c m)) (omega arith))
  named_value None b = refl

  pub entry-bytes : (k : Option PlaceholderKind) (i : ℕ) → KeyIn s (body_at c) k → bytes_of (entry_for s c k i) ≡ entry (params_of s c) (key_read s (body_at c) k) i
  unfolding entry params_of entry_for value_from
  entry-bytes k i h = rw (← entry-is s c i k h) (by_mode (eqb (word_at s 16) 0) (eqb (word_at s 16) 1) refl refl)
    where
      by_mode : (z o : Bool) → eqb (word_at s 16) 0 ≡ z → eqb (word_at s 16) 1 ≡ o → bytes_of (entry_for s c k i) ≡ value_from (params_of s c) ((entry_for s c k i))
      by_mode true o p q = rw p
      by_mode false true p q = rw (p, q) (numbered-value _ (rw (p, q) at (entry_below s c k i)))
      by_mode false false p q = rw (p, q) (named_value _ (rw (p, q) at (entry_below s c k i)))
