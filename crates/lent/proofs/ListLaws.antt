-- Laws of the search in a list, over plain variables. Assumes nothing.
use mathlib.Core.Path.{◌≡◌, refl, sym, ◌∙◌}
use mathlib.Core.Bool.{Bool, true, false, cond}
use Rattle.std.specs.Prelude.{if◌then◌else◌, Some}
use mathlib.Core.List.{List, [], ◌∷◌}
use Prim.Native.Nat.{ℕ, zero, suc, ◌+◌, ◌≤◌}
use native.Mathlib.Numerals.{add-one}
use native.Mathlib.Omega.{arith}
use lib.ListN.{length}
use borrow.Author.Tests.{leb-true}
use Rattle.std.specs.List.{slice_get, position, position_from}
use Rattle.std.proofs.lemmas.Iterator.Adapters.{position_from-zero}
use Rattle.rules.specs.declared.Place.{Place}
use Rattle.rules.specs.declared.Counts.{Counts}
use Rattle.rules.specs.Base.{find, nth?}
use Rattle.rules.specs.Words.{body_at}
use Rattle.rules.specs.Checks.{in_body}
use Rattle.tokens.specs.Placed.{Inside}
use Rattle.records.specs.Sheeted.{Sheeted}

pub in_inside : (s : List ℕ) (c : Counts) (p : Place) → Sheeted s c → in_body p c.bytes ≡ true → Inside s (body_at c) p
in_inside s c p h e =
    let m : p.start + p.len ≤ c.bytes = leb-true _ _ e in
    let k : length s ≡ body_at c + c.bytes = h.long in record { inside = omega arith }

-- the rules' words are the library's
pub nth_get : {A : Type 0} (xs : List A) (n : ℕ) → nth? xs n ≡ slice_get xs n
nth_get [] n = refl
nth_get (x ∷ xs) zero = refl
nth_get (x ∷ xs) (suc n) = nth_get xs n

find_from : {A : Type 0} (test : A → Bool) (n : ℕ) (xs : List A) → find test n xs ≡ position_from test n xs
find_from test n [] = refl
find_from test n (x ∷ xs) = go (test x) (find_from test (suc n) xs)
  where
    go : (b : Bool) → find test (suc n) xs ≡ position_from test (suc n) xs → (if b then Some n else find test (suc n) xs) ≡ cond b (Some n) (position_from test (n + 1) xs)
    go true h = refl
    go false h = rw add-one h

pub find_position : {A : Type 0} (test : A → Bool) (xs : List A) → find test 0 xs ≡ position test xs
find_position test xs = find_from test 0 xs ∙ sym (position_from-zero test xs)
