-- Laws of the room for a reserved word: its length, counted in one pass. Assumes nothing.
use mathlib.Core.Path.{◌≡◌, refl, sym, ap, ◌∙◌}
use mathlib.Core.Bool.{Bool, true, false}
use mathlib.Core.List.{List, [], ◌∷◌, ◌++◌}
use Prim.Native.Nat.{ℕ, ◌+◌, ◌-◌, ◌≤◌, ◌<◌}
use native.Mathlib.Omega.{arith}
use lib.Dec.{ltb, leb}
use lib.ListN.{length, drop, get_or, length-append}
use borrow.Author.Tests.{leb-true, leb-false, le-leb}
use Rattle.rules.specs.declared.Case.{Case}
use Rattle.rules.specs.Text.{is_white, byte_in_case, in_case, equalize_whitespace, append}
use Rattle.rules.proofs.Lengths.{length-joined}
use Rattle.ascii.specs.Part.{part}
use Rattle.ascii.proofs.PartLaws.{length_part, part-next, part_end}
use Rattle.text.specs.declared.Text.{Text as Code}
use Rattle.text.specs.Held.{text_of, Held, Laid}
use Rattle.text.proofs.AppendLaws.{by-put-of}
use Rattle.words.specs.Words.{Written, spaced, piece}
use Rattle.words.proofs.CaseLaws.{case_white}
use Rattle.words.proofs.JoinLaws.{piece-white, piece-black, length-spaced, joined, joined_at, then_begun}

-- ---- a case leaves the length

spaced-long : (gap : Bool) (x y : ℕ) (v w : List ℕ) → length v ≡ length w → length (spaced gap x ++ v) ≡ length (spaced gap y ++ w)
spaced-long true x y v w e = rw e
spaced-long false x y v w e = rw e

piece-cased : (k : Case) (begun gap : Bool) (v : List ℕ) → length (piece begun gap (in_case k v)) ≡ length (piece begun gap v)
piece-cased k begun gap [] = refl
piece-cased k begun gap (x ∷ xs) = go (is_white x) refl (piece-cased k begun begun xs) (piece-cased k true false xs)
  where
    go : (b : Bool) → is_white x ≡ b → length (piece begun begun (in_case k xs)) ≡ length (piece begun begun xs) → length (piece true false (in_case k xs)) ≡ length (piece true false xs)
        → length (piece begun gap (in_case k (x ∷ xs))) ≡ length (piece begun gap (x ∷ xs))
    go true e p q = rw (piece-white begun gap x xs e, piece-white begun gap (byte_in_case k x) (in_case k xs) (case_white k x ∙ e)) p
    go false e p q =
        rw (piece-black begun gap x xs e, piece-black begun gap (byte_in_case k x) (in_case k xs) (case_white k x ∙ e))
        (spaced-long gap (byte_in_case k x) x _ _ q)

joined-cased : (k : Case) (v : List ℕ) → length (equalize_whitespace (in_case k v)) ≡ length (equalize_whitespace v)
joined-cased k v = rw (joined v, joined (in_case k v)) (piece-cased k false false v)

-- ---- the count

module _ (s : List ℕ) (start n : ℕ) (h : start + n ≤ length s) where
  pub joined-short : length (equalize_whitespace (part s start n)) ≤ n
  joined-short =
      let l = length_part s start n h in
      let j = length-joined (part s start n) in
      omega arith

  pub by-count-start : 0 + length (piece (ltb 0 0) false (drop 0 (part s start n))) ≡ length (equalize_whitespace (part s start n))
  by-count-start = let e = ap length (joined_at 0 (part s start n)) in omega arith

  module _ (whole len i : ℕ) (gap : Bool) (l : len + length (piece (ltb 0 len) gap (drop i (part s start n))) ≡ whole) where
    pub by-counted : n ≤ i → len ≡ whole
    by-counted c =
        let e : length (piece (ltb 0 len) gap (drop i (part s start n))) ≡ 0 = rw (part_end s start n i h c) in
        omega arith

    module _ (b : Bool) (c : i < n) (f : b ≡ is_white (get_or s (start + i) 0)) where
      pub by-count-white : b ≡ true → len + length (piece (ltb 0 len) (ltb 0 len) (drop (i + 1) (part s start n))) ≡ whole
      by-count-white e =
          let m : piece (ltb 0 len) gap (drop i (part s start n)) ≡ piece (ltb 0 len) (ltb 0 len) (drop (i + 1) (part s start n)) =
          rw (part-next s start n i h c) (piece-white (ltb 0 len) gap (get_or s (start + i) 0) (drop (i + 1) (part s start n)) (sym f ∙ e)) in
          rw m at l

      module _ (m : ℕ) (e : b ≡ false) (p : m ≡ length (spaced gap 0)) where
        pub by-count-black : len + m + length (piece (ltb 0 (len + m)) false (drop (i + 1) (part s start n))) ≡ whole
        by-count-black =
            let x : ℕ = get_or s (start + i) 0 in
            let q : length (spaced gap x) ≡ m = length-spaced gap x 0 ∙ sym p in
            let t : ltb 0 (len + m) ≡ true = rw q at (then_begun 0 len gap x (omega arith)) in
            let rest : List ℕ = drop (i + 1) (part s start n) in
            let next : piece (ltb 0 len) gap (drop i (part s start n)) ≡ spaced gap x ++ piece true false rest =
            rw (part-next s start n i h c) (piece-black (ltb 0 len) gap x rest (sym f ∙ e)) in
            let j : length (piece (ltb 0 len) gap (drop i (part s start n))) ≡ length (spaced gap x) + length (piece true false rest) = ap length next ∙ length-append (spaced gap x) (piece true false rest) in
            rw t (omega arith)

        pub by-count-fits : whole ≤ n → len + m ≤ n
        by-count-fits o = let j = by-count-black in omega arith

-- ---- the room

pub by_value : (v : List ℕ) (room n : ℕ) → length (equalize_whitespace v) ≤ n → n ≤ room → true ≡ leb (length (equalize_whitespace v)) room
by_value v room n h k = sym (le-leb (length (equalize_whitespace v)) room (omega arith))

module _ (t : Code) (d : List ℕ) (h : Held t d) (k : Case) (v : List ℕ) (b : Bool) (f : b ≡ leb (length (equalize_whitespace v)) (length d - t.len)) where
  pub by-no-room : b ≡ false → length d - t.len < length (equalize_whitespace (in_case k v))
  by-no-room e = rw (joined-cased k v) (leb-false _ _ (sym f ∙ e))

  module _ (e : b ≡ true) where
    fits : length (equalize_whitespace (in_case k v)) ≤ length d - t.len
    fits = rw (joined-cased k v) (leb-true _ _ (sym f ∙ e))

    pub by_fits : t.len + length (equalize_whitespace (in_case k v)) ≤ length d
    by_fits =
        let l = fits in
        let w = h.within in
        omega arith

    pub by_written : (d' : List ℕ) (end : ℕ) → t.fault ≡ 0 → Written d t.len (equalize_whitespace (in_case k v)) d' end
        → Laid (length d) (append (length d) (equalize_whitespace (in_case k v)) (text_of t d)) (record { len = end; floor = t.floor; low = t.low; fault = 0 }) d'
    by_written d' end z w = rw w.ends (by-put-of t d h _ d' _ refl z fits w.bytes)
