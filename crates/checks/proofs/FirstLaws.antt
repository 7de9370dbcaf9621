-- The first offence of a table's records, found a record at a time.
use Rattle.std.proofs.Common.{◌≡◌, subst, ℕ, List, length, take, drop, get_or, zero, suc, ◌+◌, ◌-◌, ◌*◌, ◌<◌, ◌≤◌, sym, ◌∙◌, arith}
use denote.Param.Members.{Mut}
use Rattle.std.specs.Prelude.{Option, None, Some, MatchOption, IsTrue}
use Rattle.std.specs.Option.{option_map, option_or}
use Rattle.std.specs.Fn.{Called}
use Rattle.std.specs.Iterator.Runs.{Run, SomeRun, AllItemsGive, IsFirstToGive, ItemsCountUp}
use Rattle.std.specs.declared.ops.Range.{Range}
use Rattle.std.proofs.iter.Yields.{nat_range_steps}
use Rattle.std.proofs.iter.runs.Sources.{range_runs}
use Rattle.std.proofs.lemmas.List.{get_or-take, get_or-drop}
use borrow.Author.Tests.{lt-ltb}
use Rattle.std.specs.Str.{IsAscii}
use Rattle.checks.proofs.Passes.{next, none_first}
use Rattle.rules.specs.Checks.{or_later, first_of, body_byte}

start : (at size : ℕ) → at + size * 0 ≡ at
start at size = omega arith

module _ (f : ℕ → Option ℕ) (size : ℕ) where
  found : (at n i y : ℕ) → i < n → f (at + size * i) ≡ Some y → ((k : ℕ) → k < i → f (at + size * k) ≡ None) → Some y ≡ first_of f size at n
  unfolding first_of
  found at zero i y l e h = absurd (omega arith)
  found at (suc n) zero y l e h = let here : f at ≡ Some y = rw start at e in rw here
  found at (suc n) (suc i) y l e h =
      let here : f at ≡ None = rw start at (h 0 (omega arith)) in
      let there : f (at + size + size * i) ≡ Some y = rw (next at size i) e in
      rw here (found (at + size) n i y (omega arith) there (λ k m. rw (next at size k) (h (suc k) (omega arith))))

some-is : {A : Type 0} (o : Option A) (x : A) → option_map (λ y. y) o ≡ Some x → o ≡ Some x
some-is None x e = cc
some-is (Some y) x e = e

module _ {F : Type 0} {g : Mut F (ℕ × Unit {0}) (Option ℕ)} {q : F} (f : ℕ → Option ℕ) (size at : ℕ) where
  -- `find_map` over the numbers of n records, where the closure computes what is amiss in one
  pub first-from_find_map : (n : ℕ) (s : Range ℕ) → s ≡ record { start = 0; end = n } → (r : Option ℕ)
      → ((x : ℕ) (o : Option ℕ) (q' : F) → Called g q (x, tt) o q' → (q' ≡ q) × (o ≡ f (at + size * x)))
      → SomeRun nat_range_steps s (λ p. MatchOption r (IsTrue p.whole × AllItemsGive p g q None) (λ y. (i : ℕ) × (i < p.len) × (p.len ≡ i + 1) × IsFirstToGive p g q (Some y) None i))
      → r ≡ first_of f size at n
  first-from_find_map n s e r k h = by r h.2
    where
      p : Run nat_range_steps
      p = h.0

      up : ItemsCountUp p 0 n
      up = subst (λ (t : Range ℕ). ItemsCountUp p t.start t.end) (h.1 ∙ e) (range_runs p p.seen)

      item : (i : ℕ) → i < p.len → p.at i ≡ Some i
      item i l = let z : 0 + i ≡ i = omega arith in some-is (p.at i) i (rw z at (up.3 i l))

      keeps : (a : _) (o : Option ℕ) (q' : F) → Called g q a o q' → q' ≡ q
      keeps a o q' m = (k a.0 o q' m).0

      by : (r' : Option ℕ) → MatchOption r' (IsTrue p.whole × AllItemsGive p g q None) (λ y. (i : ℕ) × (i < p.len) × (p.len ≡ i + 1) × IsFirstToGive p g q (Some y) None i) → r' ≡ first_of f size at n
      by None m = sym (none_first f size at n (λ i l.
          let long : p.len ≡ n = omega (arith, up.1 m.0) in
          sym (k i None q (rw (item i (omega arith)) at (m.1 keeps i))).1))
      by (Some y) m =
          let w = m.3 keeps in
          found f size at n m.0 y (omega (arith, up.0, m.1))
          (sym (k m.0 (Some y) q (rw (item m.0 m.1) at w.0)).1)
          (λ j l. sym (k j None q (rw (item j (omega (arith, m.1))) at (w.1 j l))).1)

-- what comes first of three, as the code and the rules have it
pub in_turn : (a b c x y z q r : Option ℕ) → a ≡ x → b ≡ y → c ≡ z → q ≡ option_or a b → r ≡ option_or q c → r ≡ or_later x (or_later y z)
in_turn None b c x y z q r ea eb ec eq er = cc
in_turn (Some p) b c x y z q r ea eb ec eq er = rw (er, eq, ← ea)

-- bytes that are all below 128
pub ascii_none : (s : List ℕ) (from n : ℕ) → from + n ≤ length s → IsAscii (take (from + n - from) (drop from s)) → None ≡ first_of (body_byte s) 1 from n
unfolding body_byte
ascii_none s from n fit h =
    let m = from + n - from in
    sym (none_first (body_byte s) 1 from n (λ i l.
    let at : from + 1 * i ≡ from + i = omega arith in
    let within : i < m = omega arith in
    let low : get_or s (from + i) 0 < 128 = rw (get_or-take m (drop from s) i 0 within, get_or-drop from s i 0) at (h i) in
    rw (at, lt-ltb _ _ low)))
