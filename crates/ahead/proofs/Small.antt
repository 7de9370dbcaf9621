-- Every reading keeps to its bounds. Assumes nothing.
use mathlib.Core.Bool.{Bool, true, false}
use mathlib.Core.Path.{◌≡◌, refl}
use mathlib.Core.List.{List}
use Prim.Native.Nat.{ℕ, zero, suc, ◌+◌, ◌-◌, ◌≤◌, ◌<◌}
use native.Mathlib.Omega.{arith}
use lib.Dec.{eqb}
use lib.ListN.{length}
use Rattle.rules.specs.declared.Sort.{Sort}
use Rattle.rules.specs.declared.Sort.TheVariants as sort
use Rattle.rules.specs.declared.Scan.{Scan}
use Rattle.std.specs.Prelude.{if◌then◌else◌}
use Rattle.rules.specs.Sheet.{list_of, token_of, tokens_from, here_at}
use Rattle.rules.specs.Span.{sort_in, stops_at, counted_in, scan, unread}
use Rattle.around.specs.Readable.{Readable}
use Rattle.around.proofs.Lists.{readable_length}
use Rattle.ahead.specs.Small.{Small}

one-more-le : (c : Bool) (x k : ℕ) → x ≤ k → (if c then x + 1 else x) ≤ k + 1
one-more-le true x k h = omega arith
one-more-le false x k h = omega arith

-- one token more
pub grows : (o k len : ℕ) (x : Sort) (a : Scan) → Small o k a → len ≤ 65536 → Small o (k + 1) (counted_in o x len a)
grows o k len sort.Open a b h = record { level = omega arith; full-span = omega arith; blocks = one-more-le (eqb a.level o) a.blocks k b.blocks; arguments = omega arith }
grows o k len sort.Close a b h = record { level = omega arith; full-span = omega arith; blocks = omega arith; arguments = omega arith }
grows o k len sort.Head a b h = record { level = omega arith; full-span = omega arith; blocks = omega arith; arguments = omega arith }
grows o k len sort.White a b h = record { level = omega arith; full-span = omega arith; blocks = omega arith; arguments = omega arith }
grows o k len sort.Semicolon a b h = record { level = omega arith; full-span = omega arith; blocks = omega arith; arguments = omega arith }
grows o k len sort.Comma a b h = record { level = omega arith; full-span = omega arith; blocks = omega arith; arguments = one-more-le (eqb a.level o) a.arguments k b.arguments }
grows o k len sort.Other a b h = record { level = omega arith; full-span = omega arith; blocks = omega arith; arguments = omega arith }

one_of_two : (c : Bool) (o k : ℕ) (a b : Scan) → Small o k a → Small o k b → Small o k (if c then a else b)
one_of_two true o k a b p q = p
one_of_two false o k a b p q = q

widens : (o k l : ℕ) (a : Scan) → k ≤ l → Small o k a → Small o l a
widens o k l a h b = record { level = omega arith; full-span = omega arith; blocks = omega arith; arguments = omega arith }

-- k tokens more, from the j-th on
scan-small : (s : List ℕ) (base n o k j m : ℕ) (a : Scan) → Readable s base n → j + k ≤ n → Small o m a → Small o (m + k) (scan o (tokens_from s base j k) a)
unfolding list_of scan
scan-small s base n o zero j m a r h b = widens o m (m + 0) a (omega arith) b
scan-small s base n o (suc k) j m a r h b =
    let t = token_of s base j in
    let l = readable_length s base n j (length t.value) r (omega arith) refl in
    let next = counted_in o (sort_in t) (length t.value) a in
    let e : m + suc k ≡ m + 1 + k = omega arith in
    one_of_two (stops_at o (sort_in t) a.level) o (m + suc k) a (scan o (tokens_from s base (suc j) k) next)
    (widens o m (m + suc k) a (omega arith) b)
    (rw e (scan-small s base n o k (suc j) (m + 1) next r (omega arith) (grows o m (length t.value) (sort_in t) a b l)))

-- all that is read after token i of n
pub read_small : (s : List ℕ) (base n i o : ℕ) → Readable s base n → i < n → Small o 1024 (scan o (here_at s base n i).after (unread o))
read_small s base n i o r h =
    let f = r.placed.few in
    let b = scan-small s base n o (n - (i + 1)) (i + 1) 0 (unread o) r (omega arith) (record { level = omega arith; full-span = omega arith; blocks = omega arith; arguments = omega arith }) in
    widens o (0 + (n - (i + 1))) 1024 _ (omega arith) b
