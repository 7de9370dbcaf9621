-- The places of a sheet by the byte offset of their first word: the tests of the code, and that each lies in the bodies. Assumes nothing.
use mathlib.Core.Path.{◌≡◌, refl, sym, ◌∙◌}
use mathlib.Core.Bool.{Bool, true, false, ◌&&◌, ◌||◌}
use mathlib.Core.List.{List}
use Prim.Native.Nat.{ℕ, ◌+◌, ◌-◌, ◌*◌, ◌/◌, ◌%◌, ◌≤◌, ◌<◌}
use native.Mathlib.Omega.{arith}
use lib.Dec.{eqb, ltb}
use borrow.Author.Tests.{ltb-true, ltb-false, eqb-true, eqb-false}
use Rattle.rules.specs.declared.Counts.{Counts}
use Rattle.rules.specs.declared.PlaceholderKind.TheVariants as key
use Rattle.std.specs.Prelude.{if◌then◌else◌, Some}
use Rattle.rules.specs.Words.{word_at, place_at, class_bits, key_of, tokens_at, token_from, token_at, params_at, keeps_at, body_at}
use Rattle.rules.specs.Compacted.{word_count, starts_in_token, starts_place}
use Rattle.tokens.specs.Placed.{Inside}
use Rattle.records.specs.Sheeted.{Sheeted}

-- ---- each place

pub record PlaceIn (s : List ℕ) (c : Counts) (at : ℕ) : Type 0 where
  pub record_in : at + 8 ≤ body_at c
  pub inside : (place_at s at).start + (place_at s at).len ≤ c.bytes

module _ (s : List ℕ) (c : Counts) (h : Sheeted s c) where
  in-bodies : (at : ℕ) → at + 8 ≤ body_at c → Inside s (body_at c) (place_at s at) → PlaceIn s c at
  in-bodies at l i = let n = h.long in let m = i.inside in record { record_in = l; inside = omega arith }

  module _ (at : ℕ) where
    -- token i
    module _ (i : ℕ) (l : i < c.tokens) where
      value_in : at ≡ tokens_at + 20 * i + 4 → PlaceIn s c at
      unfolding token_from
      value_in e = in-bodies at (omega arith) (rw e (h.tokens.within i l).value_in)

      named : class_bits (word_at s (tokens_at + 20 * i)) ≡ 1 → (token_at s i).key ≡ Some (key.Named (place_at s (tokens_at + 20 * i + 12)))
      unfolding token_from key_of place_at
      named e = let f : tokens_at + 20 * i + 12 + 4 ≡ tokens_at + 20 * i + 16 = omega arith in rw (e, f)

      key_in : at ≡ tokens_at + 20 * i + 12 → class_bits (word_at s (at - 12)) ≡ 1 → PlaceIn s c at
      key_in e f =
          let g : at - 12 ≡ tokens_at + 20 * i = omega arith in
          in-bodies at (omega arith) (rw e ((h.tokens.within i l).name_in (place_at s (tokens_at + 20 * i + 12)) (named (rw g at f))))

    token-in : 48 ≤ at → at < params_at c → starts_in_token s at ((at - 48) % 20) ≡ true → PlaceIn s c at
    token-in m n t = by-test (eqb ((at - 48) % 20) 4) refl (eqb ((at - 48) % 20) 12) refl (eqb (class_bits (word_at s (at - 12))) 1) refl t
      where
        i : ℕ
        i = (at - 48) / 20

        by-test : (x : Bool) → eqb ((at - 48) % 20) 4 ≡ x → (y : Bool) → eqb ((at - 48) % 20) 12 ≡ y → (z : Bool) → eqb (class_bits (word_at s (at - 12))) 1 ≡ z → (x || (y && z)) ≡ true → PlaceIn s c at
        by-test true p y q z r o = let e = eqb-true ((at - 48) % 20) 4 p in value_in i (omega arith) (omega arith)
        by-test false p true q true r o =
            let e = eqb-true ((at - 48) % 20) 12 q in key_in i (omega arith) (omega arith) (eqb-true (class_bits (word_at s (at - 12))) 1 r)
        by-test false p true q false r o = cc
        by-test false p false q z r o = cc

    -- parameters and keep words
    name_in : (i : ℕ) → i < c.params → at ≡ params_at c + 16 * i → PlaceIn s c at
    name_in i l e = in-bodies at (omega arith) (rw e (h.params.within i l).name_in)

    param_in : (i : ℕ) → i < c.params → at ≡ params_at c + 16 * i + 8 → PlaceIn s c at
    param_in i l e = in-bodies at (omega arith) (rw e (h.params.within i l).value_in)

    keep-in : (i : ℕ) → i < c.keeps → at ≡ keeps_at c + 8 * i → PlaceIn s c at
    keep-in i l e = in-bodies at (omega arith) (rw e (h.keeps.within i l).place_in)

    record_in : params_at c ≤ at → at < body_at c → (at - params_at c) % 8 ≡ 0 → PlaceIn s c at
    record_in m n e = by-test (ltb at (keeps_at c)) refl (eqb ((at - params_at c) % 16) 0) refl
      where
        by-test : (x : Bool) → ltb at (keeps_at c) ≡ x → (y : Bool) → eqb ((at - params_at c) % 16) 0 ≡ y → PlaceIn s c at
        by-test true p true q =
            let k = ltb-true at (keeps_at c) p in
            let f = eqb-true ((at - params_at c) % 16) 0 q in name_in ((at - params_at c) / 16) (omega arith) (omega arith)
        by-test true p false q =
            let k = ltb-true at (keeps_at c) p in
            let f = eqb-false ((at - params_at c) % 16) 0 q in
            let g : (at - params_at c) % 16 ≡ 8 = omega arith in param_in ((at - params_at c) / 16) (omega arith) (omega arith)
        by-test false p y q = let k = ltb-false at (keeps_at c) p in keep-in ((at - keeps_at c) / 8) (omega arith) (omega arith)

    place_at_in : at < body_at c → starts_place s c at ≡ true → PlaceIn s c at
    unfolding starts_place
    place_at_in l t = by-test (ltb at 48) refl (ltb at (params_at c)) refl t
      where
        by-test : (x : Bool) → ltb at 48 ≡ x → (y : Bool) → ltb at (params_at c) ≡ y
            → (if x then false else if y then starts_in_token s at ((at - 48) % 20) else eqb ((at - params_at c) % 8) 0) ≡ true → PlaceIn s c at
        by-test true p y q o = cc
        by-test false p true q o = token-in (ltb-false at 48 p) (ltb-true at (params_at c) q) o
        by-test false p false q o = record_in (ltb-false at (params_at c) q) l (eqb-true ((at - params_at c) % 8) 0 o)

  pub place_in : (k : ℕ) → k < word_count c → starts_place s c (4 * k) ≡ true → PlaceIn s c (4 * k)
  place_in k l t = place_at_in (4 * k) (omega arith) t

  -- by the code's test
  pub place_tested : (k : ℕ) (t : Bool) → k < word_count c → t ≡ starts_place s c (4 * k) → t ≡ true → PlaceIn s c (4 * k)
  place_tested k t l e f = place_in k l (sym e ∙ f)
