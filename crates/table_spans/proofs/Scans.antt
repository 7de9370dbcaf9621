-- The reading back gives what the reading ahead gives. Assumes nothing.
use mathlib.Core.Bool.{Bool, true, false}
use mathlib.Core.Path.{◌≡◌, refl, sym, ap, ◌∙◌}
use mathlib.Core.List.{List, [], ◌∷◌}
use Prim.Native.Nat.{ℕ, zero, suc, ◌+◌, ◌-◌, ◌<◌, max}
use native.Mathlib.Omega.{arith}
use lib.Dec.{eqb}
use lib.ListN.{length}
use borrow.Author.Tests.{eq-eqb, ne_eqb, lt-ltb, le-ltb, eqb-true, eqb-false}
use Rattle.rules.specs.declared.Sort.{Sort}
use Rattle.rules.specs.declared.Sort.TheVariants as sort
use Rattle.rules.specs.declared.Scan.{Scan}
use Rattle.std.specs.Prelude.{if◌then◌else◌}
use Rattle.rules.specs.Tokens.{Token}
use Rattle.rules.specs.Span.{sort_in, stops_at, one_more, counted_in, scan}
use Rattle.table_spans.specs.declared.Rest.{Rest}
use Rattle.table_spans.specs.Back.{bit_of, nothing, longer, back_in, level_in, read_back}

-- the arguments, k before them
abbrev pub arguments_after : ℕ → ℕ → Bool → ℕ
arguments_after zero commas first = commas + bit_of first
arguments_after (suc k) commas first = suc k + commas

-- b is a, and then r
pub record Joins (a : Scan) (r : Rest) (b : Scan) : Type 0 where
  pub full : b.full_span ≡ a.full_span + r.full
  pub blocks : b.blocks ≡ a.blocks + r.blocks
  pub arguments : b.arguments ≡ arguments_after a.arguments r.commas r.first

-- ---- arguments

after_none : (k : ℕ) → k ≡ arguments_after k 0 false
after_none zero = refl
after_none (suc k) = omega arith

after-comma : (k commas : ℕ) (first : Bool) → arguments_after (k + 1) commas first ≡ arguments_after k (commas + 1) false
after-comma zero commas first = omega arith
after-comma (suc k) commas first = let e : suc k + 1 ≡ suc (k + 1) = omega arith in ap (λ (m : ℕ). arguments_after m commas first) e ∙ (let f : suc (k + 1) + commas ≡ suc k + (commas + 1) = omega arith in f)

after-other : (k commas : ℕ) (first : Bool) → arguments_after (max 1 k) commas first ≡ arguments_after k commas true
after-other zero commas first = omega arith
after-other (suc k) commas first = let e : max 1 (suc k) ≡ suc k = omega arith in ap (λ (m : ℕ). arguments_after m commas first) e

-- ---- one token

joins-none : (a : Scan) → Joins a nothing a
joins-none a = record { full = omega arith; blocks = omega arith; arguments = after_none a.arguments }

joins-longer : (a b c : Scan) (r : Rest) (len : ℕ) → b.full_span ≡ a.full_span + len → b.blocks ≡ a.blocks → b.arguments ≡ a.arguments → Joins b r c → Joins a (longer len r) c
joins-longer a b c r len p q e j =
    let f = j.full in
    let g = j.blocks in
    record { full = omega arith; blocks = omega arith; arguments = j.arguments ∙ ap (λ (k : ℕ). arguments_after k r.commas r.first) e }

joins-other : (a b c : Scan) (r : Rest) (len : ℕ) → b.full_span ≡ a.full_span + len → b.blocks ≡ a.blocks → b.arguments ≡ max 1 a.arguments → Joins b r c
    → Joins a (record { full = r.full + len; blocks = r.blocks; commas = r.commas; first = true }) c
joins-other a b c r len p q e j =
    let f = j.full in
    let g = j.blocks in
    record {
      full = omega arith;
      blocks = omega arith;
      arguments = j.arguments ∙ ap (λ (k : ℕ). arguments_after k r.commas r.first) e ∙ after-other a.arguments r.commas r.first;
    }

more : (level o x : ℕ) → level ≡ o → one_more level o x ≡ x + 1
more level o x e = rw (eq-eqb level o e)

no_more : (level o x : ℕ) → (level ≡ o → ⊥) → one_more level o x ≡ x
no_more level o x e = rw (ne_eqb level o e)

abbrev onward : ℕ → Sort → ℕ → List Token → Scan → Scan
onward o x len ts a = if stops_at o x a.level then a else scan o ts (counted_in o x len a)

module _ (o : ℕ) (ts : List Token) where
  -- the law for the tokens after it
  abbrev Law : Bool → Type 0
  Law outer = (d : ℕ) (b : Scan) → b.level ≡ o + d → Joins b (read_back outer d ts) (scan o ts b)

  abbrev Step : Bool → Sort → Type 0
  Step outer x = (len d : ℕ) (a : Scan) → a.level ≡ o + d → Joins a (back_in outer d x len (read_back outer (level_in x d) ts)) (onward o x len ts a)

  open_steps : (outer : Bool) → Law outer → Step outer sort.Open
  open_steps outer ih len zero a h =
      let j = ih 1 (counted_in o sort.Open len a) (omega arith) in
      let m = more a.level o a.blocks (omega arith) in
      let f = j.full in
      let g = j.blocks in
      record { full = omega arith; blocks = omega arith; arguments = j.arguments }
  open_steps outer ih len (suc d) a h =
      joins-longer a (counted_in o sort.Open len a) _ _ len refl (no_more a.level o a.blocks (λ e. omega arith)) refl (ih (suc (suc d)) (counted_in o sort.Open len a) (omega arith))

  close-steps : (outer : Bool) → outer ≡ eqb o 0 → Law outer → Step outer sort.Close
  close-steps true e ih len zero a h =
      let z : o ≡ 0 = eqb-true o 0 (sym e) in
      rw (le-ltb (a.level - 1) o (omega arith))
      (joins-longer a (counted_in o sort.Close len a) _ _ len refl refl refl (ih 0 (counted_in o sort.Close len a) (omega arith)))
  close-steps false e ih len zero a h =
      let z : o ≡ 0 → ⊥ = eqb-false o 0 (sym e) in
      let p : 0 < o = not-zero o z in
      rw (lt-ltb (a.level - 1) o (omega arith)) (joins-none a)
    where
      not-zero : (k : ℕ) → (k ≡ 0 → ⊥) → 0 < k
      not-zero zero n = absurd (n refl)
      not-zero (suc k) n = omega arith
  close-steps outer e ih len (suc d) a h =
      rw (le-ltb (a.level - 1) o (omega arith))
      (joins-longer a (counted_in o sort.Close len a) _ _ len refl refl refl (ih d (counted_in o sort.Close len a) (omega arith)))

  steps : (outer : Bool) → outer ≡ eqb o 0 → Law outer → (x : Sort) → Step outer x
  steps outer e ih sort.Open len d a h = open_steps outer ih len d a h
  steps outer e ih sort.Close len d a h = close-steps outer e ih len d a h
  steps outer e ih sort.Head len zero a h = rw (eq-eqb a.level o (omega arith)) (joins-none a)
  steps outer e ih sort.Head len (suc d) a h =
      rw (ne_eqb a.level o (λ z. omega arith)) (joins-longer a (counted_in o sort.Head len a) _ _ len refl refl refl (ih (suc d) (counted_in o sort.Head len a) h))
  steps outer e ih sort.White len zero a h = joins-longer a (counted_in o sort.White len a) _ _ 1 refl refl refl (ih 0 (counted_in o sort.White len a) h)
  steps outer e ih sort.White len (suc d) a h = joins-longer a (counted_in o sort.White len a) _ _ 1 refl refl refl (ih (suc d) (counted_in o sort.White len a) h)
  steps outer e ih sort.Semicolon len zero a h = rw (eq-eqb a.level o (omega arith)) (joins-none a)
  steps outer e ih sort.Semicolon len (suc d) a h =
      rw (ne_eqb a.level o (λ z. omega arith)) (joins-longer a (counted_in o sort.Semicolon len a) _ _ len refl refl refl (ih (suc d) (counted_in o sort.Semicolon len a) h))
  steps outer e ih sort.Comma len zero a h =
      let j = ih 0 (counted_in o sort.Comma len a) h in
      let m = more a.level o a.arguments (omega arith) in
      let r = read_back outer 0 ts in
      let f = j.full in
      let g = j.blocks in
      record {
        full = omega arith;
        blocks = omega arith;
        arguments = j.arguments ∙ ap (λ (k : ℕ). arguments_after k r.commas r.first) m ∙ after-comma a.arguments r.commas r.first;
      }
  steps outer e ih sort.Comma len (suc d) a h =
      joins-longer a (counted_in o sort.Comma len a) _ _ len refl refl (no_more a.level o a.arguments (λ z. omega arith)) (ih (suc d) (counted_in o sort.Comma len a) h)
  steps outer e ih sort.Other len zero a h = joins-other a (counted_in o sort.Other len a) _ _ len refl refl refl (ih 0 (counted_in o sort.Other len a) h)
  steps outer e ih sort.Other len (suc d) a h = joins-other a (counted_in o sort.Other len a) _ _ len refl refl refl (ih (suc d) (counted_in o sort.Other len a) h)

-- ---- all of them

pub scan-joins : (o : ℕ) (outer : Bool) → outer ≡ eqb o 0 → (ts : List Token) (d : ℕ) (a : Scan) → a.level ≡ o + d → Joins a (read_back outer d ts) (scan o ts a)
unfolding read_back scan
scan-joins o outer e [] d a h = joins-none a
scan-joins o outer e (t ∷ ts) d a h = steps o ts outer e (scan-joins o outer e ts) (sort_in t) (length t.value) d a h
