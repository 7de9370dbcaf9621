-- Laws of `part`: its length, and its bytes from the front and from the end. Assumes nothing.
use mathlib.Core.Path.{◌≡◌, sym, ap, ◌∙◌}
use mathlib.Core.List.{List, [], ◌∷◌, ◌++◌}
use Prim.Native.Nat.{ℕ, zero, suc, ◌+◌, ◌-◌, ◌≤◌, ◌<◌}
use native.Mathlib.Nat.{sub-zero}
use native.Mathlib.Numerals.{add-one}
use native.Mathlib.Omega.{arith}
use lib.ListN.{length, take, drop, get_or, length-take, length-drop, drop_of_length-le}
use lib.Seq.{take-suc, take-nil, take-add, drop-cons, drop-drop, get_or-take, get_or-drop}
use Rattle.ascii.specs.Part.{part}

pub drop-take : (j n : ℕ) (l : List ℕ) → drop j (take n l) ≡ take (n - j) (drop j l)
drop-take zero n l = rw sub-zero
drop-take (suc j) zero l = let e : 0 - suc j ≡ 0 = omega arith in rw e
drop-take (suc j) (suc n) [] = sym (take-nil (suc n - suc j))
drop-take (suc j) (suc n) (x ∷ xs) = let e : suc n - suc j ≡ n - j = omega arith in rw e (drop-take j n xs)

module _ (s : List ℕ) (start : ℕ) where
  pub part-more : (i k : ℕ) → part s start (i + k) ≡ part s start i ++ part s (start + i) k
  part-more i k = take-add i k (drop start s) ∙ ap (λ (l : List ℕ). part s start i ++ take k l) (drop-drop i start s)

  -- a part, a byte at a time
  pub part-cons : (n : ℕ) → start < length s → part s start (suc n) ≡ get_or s start 0 ∷ part s (start + 1) n
  part-cons n h = rw (drop-cons s start 0 h, add-one)

  pub length_part : (n : ℕ) → start + n ≤ length s → length (part s start n) ≡ n
  length_part n h = simp (length-take, length-drop) (omega arith)

  pub part-suc : (i : ℕ) → start + i < length s → part s start (i + 1) ≡ part s start i ++ (get_or s (start + i) 0 ∷ [])
  part-suc i h =
      let k : i < length (drop start s) = rw length-drop (omega arith) in
      rw (add-one, take-suc (drop start s) i 0, get_or-drop)

  -- what is left of a part, a byte at a time
  pub part-next : (n i : ℕ) → start + n ≤ length s → i < n → drop i (part s start n) ≡ get_or s (start + i) 0 ∷ drop (i + 1) (part s start n)
  part-next n i h k =
      let l = length_part n h in
      let j : i < length (part s start n) = omega arith in
      rw (add-one, drop-cons (part s start n) i 0, get_or-take, get_or-drop)

  pub part_end : (n i : ℕ) → start + n ≤ length s → n ≤ i → drop i (part s start n) ≡ []
  part_end n i h k =
      let l = length_part n h in
      let j : length (part s start n) ≤ i = omega arith in
      drop_of_length-le (part s start n) j

  pub part-drop : (n j : ℕ) → drop j (part s start n) ≡ part s (start + j) (n - j)
  part-drop n j = drop-take j n (drop start s) ∙ ap (take (n - j)) (drop-drop j start s)

pub eight : (s : List ℕ) (at : ℕ) → at + 8 ≤ length s → part s at 8
    ≡ get_or s at 0 ∷ get_or s (at + 1) 0 ∷ get_or s (at + 2) 0 ∷ get_or s (at + 3) 0 ∷ get_or s (at + 4) 0 ∷ get_or s (at + 5) 0 ∷ get_or s (at + 6) 0 ∷ get_or s (at + 7) 0 ∷ []
eight s at h =
    let e₂ : at + 1 + 1 ≡ at + 2 = omega arith in
    let e₃ : at + 2 + 1 ≡ at + 3 = omega arith in
    let e₄ : at + 3 + 1 ≡ at + 4 = omega arith in
    let e₅ : at + 4 + 1 ≡ at + 5 = omega arith in
    let e₆ : at + 5 + 1 ≡ at + 6 = omega arith in
    let e₇ : at + 6 + 1 ≡ at + 7 = omega arith in
    rw (part-cons s at 7 (omega arith), part-cons s (at + 1) 6 (omega arith), e₂, part-cons s (at + 2) 5 (omega arith), e₃, part-cons s (at + 3) 4 (omega arith), e₄, part-cons s (at + 4) 3 (omega arith), e₅, part-cons s (at + 5) 2 (omega arith), e₆, part-cons s (at + 6) 1 (omega arith), e₇, part-cons s (at + 7) 0 (omega arith))
