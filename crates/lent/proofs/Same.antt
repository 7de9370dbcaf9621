-- The records of a sheet's own parameter table, searched as a list, give what the rules give. Assumes nothing.
use mathlib.Core.Path.{◌≡◌, refl, ap}
use mathlib.Core.Bool.{Bool, true, false, ◌&&◌}
use Rattle.std.specs.Prelude.{Option, None, Some, if◌then◌else◌, unwrap_or}
use mathlib.Core.List.{List, [], ◌∷◌}
use Prim.Native.Nat.{ℕ, zero, suc, ◌+◌, ◌*◌, ◌≤◌, ◌<◌}
use native.Mathlib.Omega.{arith}
use lib.Dec.{ltb}
use lib.ListN.{length}
use borrow.Author.Tests.{ltb-true, ltb-false, le-leb}
use Rattle.std.proofs.lemmas.Option.{none-some, same_Some}
use Rattle.rules.specs.declared.Place.{Place}
use Rattle.rules.specs.declared.Counts.{Counts}
use Rattle.rules.specs.Base.{same, find, nth?}
use Rattle.rules.specs.Words.{place_at, params_at, body_at}
use Rattle.rules.specs.Checks.{in_body}
use Rattle.rules.specs.Sheet.{body_part, list_of, name_of, value_of, param_of, Param as Read, Indexed, Named}
use Rattle.rules.specs.Params.{by_name, by_number, value_in, value_at, value_from}
use Rattle.records.specs.Sheeted.{Sheeted}
use Rattle.params.proofs.FoundLaws.{length-list, nth_in, nth_past}
use Rattle.lent.specs.declared.Param.{Param}
use Rattle.lent.specs.Listed.{found_or, numbered, equals, found_by, named_in}
use Rattle.lent.specs.Same.{record_at, table}

and-false : (b : Bool) → (b && false) ≡ false
and-false true = refl
and-false false = refl

-- a number that a search gives is below the list's length
module _ {A : Type 0} (test : A → Bool) where
  find_below : (xs : List A) (j m : ℕ) → find test j xs ≡ Some m → (j ≤ m) × (m < j + length xs)
  find_below [] j m e = absurd (none-some m e)
  find_below (x ∷ xs) j m e = by-test (test x) e (find_below xs (suc j) m)
    where
      by-test : (b : Bool) → (if b then Some j else find test (suc j) xs) ≡ Some m → (find test (suc j) xs ≡ Some m → (suc j ≤ m) × (m < suc j + length xs)) → (j ≤ m) × (m < j + suc (length xs))
      by-test true h later = let z : j ≡ m = same_Some j m h in (omega arith, omega arith)
      by-test false h later = let r : (suc j ≤ m) × (m < suc j + length xs) = later h in (omega arith, omega arith)

module _ (s : List ℕ) (c : Counts) (own : Place) where
  abbrev values : List (List ℕ)
  values = list_of (value_of s c) 0 c.params

  abbrev read : List Read
  read = list_of (param_of s c) 0 c.params

  abbrev bytes_at : Place → List ℕ
  bytes_at p = body_part s (body_at c) p

  -- ---- by number

  module _ (i : ℕ) where
    pub numbered-source : (numbered (table s c) i own).entry ≡ by_number values i
    unfolding numbered by_number
    numbered-source = rw (length-list (value_of s c) 0 c.params) (by-test (ltb i c.params) refl)
      where
        by-test : (b : Bool) → ltb i c.params ≡ b → (found_or own i (nth? (table s c) i)).entry ≡ (if b then Some i else None)
        by-test true e = rw (nth_in (record_at s c) 0 c.params i (ltb-true _ _ e))
        by-test false e = rw (nth_past (record_at s c) 0 c.params i (ltb-false _ _ e))

    pub numbered-bytes : bytes_at (numbered (table s c) i own).place ≡ unwrap_or (value_from (Indexed values) (Some i)) (bytes_at own)
    unfolding numbered value_from value_at value_of
    numbered-bytes = by-test (ltb i c.params) refl
      where
        by-test : (b : Bool) → ltb i c.params ≡ b → bytes_at (found_or own i (nth? (table s c) i)).place ≡ unwrap_or (nth? values i) (bytes_at own)
        by-test true e = rw (nth_in (record_at s c) 0 c.params i (ltb-true _ _ e), nth_in (value_of s c) 0 c.params i (ltb-true _ _ e))
        by-test false e = rw (nth_past (record_at s c) 0 c.params i (ltb-false _ _ e), nth_past (value_of s c) 0 c.params i (ltb-false _ _ e))

  -- ---- by name

  -- the names of the table lie in the bodies
  name_in : Sheeted s c → (i : ℕ) → i < c.params → in_body (record_at s c i).name c.bytes ≡ true
  name_in h i l =
      let k : length s ≡ body_at c + c.bytes = h.long in
      let m : body_at c + ((place_at s (params_at c + 16 * i)).start + (place_at s (params_at c + 16 * i)).len) ≤ length s = (h.params.within i l).name_in.inside in le-leb ((place_at s (params_at c + 16 * i)).start + (place_at s (params_at c + 16 * i)).len) c.bytes (omega arith)

  module _ (n : Place) where
    abbrev is_it : Read → Bool
    is_it p = same p.name (bytes_at n)

    module _ (h : Sheeted s c) (inside : in_body n c.bytes ≡ true) where
      equals-in : (j : ℕ) → j < c.params → equals s c (record_at s c j).name n ≡ is_it (param_of s c j)
      unfolding equals name_of
      equals-in j l = rw (name_in h j l, inside)

      find_from : (j k : ℕ) → j + k ≤ c.params → find (λ (p : Param). equals s c p.name n) j (list_of (record_at s c) j k) ≡ find is_it j (list_of (param_of s c) j k)
      unfolding list_of
      find_from j zero l = refl
      find_from j (suc k) l = rw (equals-in j (omega arith)) (ap (λ (o : Option ℕ). if is_it (param_of s c j) then Some j else o) (find_from (suc j) k (omega arith)))

      named_by : named_in s c n (table s c) own ≡ found_by (table s c) own (by_name read (bytes_at n))
      unfolding named_in by_name
      named_by = ap (found_by (table s c) own) (find_from 0 c.params (omega arith))

      below : (m : ℕ) → by_name read (bytes_at n) ≡ Some m → m < c.params
      unfolding by_name
      below m e =
          let b = find_below is_it read 0 m e in
          let k : length read ≡ c.params = length-list (param_of s c) 0 c.params in omega arith

      pub named-source : (named_in s c n (table s c) own).entry ≡ by_name read (bytes_at n)
      unfolding numbered
      named-source = rw named_by (go (by_name read (bytes_at n)) below)
        where
          go : (o : Option ℕ) → ((m : ℕ) → o ≡ Some m → m < c.params) → (found_by (table s c) own o).entry ≡ o
          go None l = refl
          go (Some m) l = rw (nth_in (record_at s c) 0 c.params m (l m refl))

      pub named-bytes : bytes_at (named_in s c n (table s c) own).place ≡ unwrap_or (value_from (Named read) (by_name read (bytes_at n))) (bytes_at own)
      unfolding numbered value_from value_at value_in value_of
      named-bytes = rw named_by (go (by_name read (bytes_at n)) below)
        where
          go : (o : Option ℕ) → ((m : ℕ) → o ≡ Some m → m < c.params) → bytes_at (found_by (table s c) own o).place ≡ unwrap_or (value_from (Named read) o) (bytes_at own)
          go None l = refl
          go (Some m) l = rw (nth_in (record_at s c) 0 c.params m (l m refl), nth_in (param_of s c) 0 c.params m (l m refl))

    -- a searched name outside the bodies is found in no list
    module _ (outside : in_body n c.bytes ≡ false) where
      equals-none : (p : Place) → equals s c p n ≡ false
      unfolding equals
      equals-none p = rw outside (and-false (in_body p c.bytes))

      find_none : (ps : List Param) (j : ℕ) → find (λ (p : Param). equals s c p.name n) j ps ≡ None
      find_none [] j = refl
      find_none (p ∷ ps) j = rw (equals-none p.name) (find_none ps (suc j))

      pub named-outside : (ps : List Param) → named_in s c n ps own ≡ record { place = own; entry = None }
      unfolding named_in
      named-outside ps = rw (find_none ps 0)
