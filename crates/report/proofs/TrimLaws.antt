-- Laws of the trim at the start: the text moves down. Assumes nothing.
use mathlib.Core.Path.{◌≡◌, refl, sym, ap, ◌∙◌}
use mathlib.Core.Logic.{⊎_elim}
use mathlib.Core.Bool.{Bool, true, false}
use mathlib.Core.List.{List, [], ◌∷◌, ◌++◌}
use Prim.Native.Nat.{ℕ, ◌+◌, ◌-◌, ◌≤◌, ◌<◌}
use native.Mathlib.Numerals.{add-one}
use native.Mathlib.Omega.{arith}
use lib.ListN.{length, take, drop, set, get_or, replicate, length-replicate, replicate-append-replicate, drop_of_length-le}
use lib.Seq.{length-take-le, drop-cons, get_or-take, drop-drop}
use Rattle.rules.specs.Text.{fits, is_white, trim_start, change}
use Rattle.ascii.specs.Part.{part}
use Rattle.ascii.proofs.PartLaws.{length_part, part-suc, part-drop}
use Rattle.text.specs.declared.Text.{Text as Code}
use Rattle.text.specs.Put.{put}
use Rattle.text.specs.Held.{text_of, Held, Laid}
use Rattle.text.proofs.PutLaws.{put-snoc, length-put, take_put, take-put-at, drop-put, drop-put-at, get_or-put}
use Rattle.text.proofs.HeldLaws.{zero_or, text-fits, text-refused, laid}

-- what is left of the text; and a byte at a time
pub take_part : (d : List ℕ) (len i : ℕ) → drop i (take len d) ≡ part d i (len - i)
take_part d len i = let z : 0 + i ≡ i = omega arith in part-drop d 0 len i ∙ ap (λ (j : ℕ). part d j (len - i)) z

module _ (d : List ℕ) (len i : ℕ) (h : len ≤ length d) where
  pub take_next : i < len → drop i (take len d) ≡ get_or d i 0 ∷ drop (i + 1) (take len d)
  take_next c =
      let l = length-take-le len d h in
      let j : i < length (take len d) = omega arith in
      rw (add-one, drop-cons (take len d) i 0, get_or-take)

  pub take-end : len ≤ i → drop i (take len d) ≡ []
  take-end c =
      let l = length-take-le len d h in
      let j : length (take len d) ≤ i = omega arith in
      drop_of_length-le (take len d) j

  -- ---- the white bytes at the start

  module _ (e : trim_start is_white (drop i (take len d)) ≡ trim_start is_white (take len d)) where
    module _ (b : Bool) (c : i < len) (f : b ≡ is_white (get_or d i 0)) where
      pub by-white : b ≡ true → trim_start is_white (drop (i + 1) (take len d)) ≡ trim_start is_white (take len d)
      by-white g = sym (ap (trim_start is_white) (take_next c) ∙ rw (← f, g)) ∙ e

      pub by-black : b ≡ false → drop i (take len d) ≡ trim_start is_white (take len d)
      by-black g = take_next c ∙ sym (ap (trim_start is_white) (take_next c) ∙ rw (← f, g)) ∙ e

    pub by-all-white : len ≤ i → drop i (take len d) ≡ trim_start is_white (take len d)
    by-all-white c = take-end c ∙ sym (ap (trim_start is_white) (take-end c)) ∙ e

-- ---- the move, a byte at a time

pub by-moved : (d t : List ℕ) (from n i : ℕ) → from + n ≤ length d → i < n → t ≡ put d 0 (part d from i)
    → set t i (get_or t (from + i) 0) ≡ put d 0 (part d from (i + 1))
by-moved d t from n i h c e =
    let p : List ℕ = part d from i in
    let l : length p ≡ i = length_part d from i (omega arith) in
    let a : 0 + length p + from ≡ from + i = omega arith in
    let z : 0 + length p ≡ i = omega arith in
    let g : get_or t (from + i) 0 ≡ get_or d (from + i) 0 = ap (λ (u : List ℕ). get_or u (from + i) 0) e ∙ rw a at (get_or-put d 0 p from (omega arith)) in
    let s : set (put d 0 p) i (get_or d (from + i) 0) ≡ put d 0 (p ++ (get_or d (from + i) 0 ∷ [])) = rw z at (put-snoc d 0 p (get_or d (from + i) 0) (omega arith)) in
    rw (g, e, s, part-suc d from i (omega arith))

-- ---- the whole: the text moved down, and zeros behind it

abbrev moved : List ℕ → ℕ → ℕ → List ℕ
moved d from n = put d 0 (part d from n)

abbrev lowered : List ℕ → ℕ → ℕ → List ℕ
lowered d from n = put (moved d from n) n (replicate from 0)

module _ (d : List ℕ) (from n : ℕ) (h : from + n ≤ length d) where
  behind : 0 + length (part d from n) ≡ n
  behind = let l = length_part d from n h in omega arith

  length_moved : length (moved d from n) ≡ length d
  length_moved = length-put d 0 (part d from n) (let l = length_part d from n h in omega arith)

  within : n ≤ length (moved d from n)
  within = let l = length_moved in omega arith

  take-moved : take n (moved d from n) ≡ part d from n
  take-moved = rw behind at (take_put d 0 (part d from n) (omega arith))

  drop-moved : drop n (moved d from n) ≡ drop n d
  drop-moved = rw behind at (drop-put d 0 (part d from n) (omega arith))

  length-lowered : length (lowered d from n) ≡ length d
  length-lowered =
      let z : length (replicate {A = ℕ} from 0) ≡ from = length-replicate from 0 in
      let l = length_moved in
      length-put (moved d from n) n (replicate from 0) (omega arith) ∙ length_moved

  take-lowered : take n (lowered d from n) ≡ part d from n
  take-lowered = take-put-at (moved d from n) n (replicate from 0) within ∙ take-moved

  drop-lowered : drop n (lowered d from n) ≡ replicate from 0 ++ drop (n + from) d
  drop-lowered =
      drop-put-at (moved d from n) n (replicate from 0) within
      ∙ rw (length-replicate {A = ℕ} from 0, ← drop-drop from n (moved d from n), drop-moved, drop-drop from n d)

  -- zeros stay behind it
  zeros-lowered : drop (n + from) d ≡ replicate (length d - (n + from)) 0 → drop n (lowered d from n) ≡ replicate (length (lowered d from n) - n) 0
  zeros-lowered e =
      let s : from + (length d - (n + from)) ≡ length d - n = omega arith in
      drop-lowered ∙ rw (e, length-lowered) (replicate-append-replicate from (length d - (n + from)) 0 ∙ rw s)

module _ (t : Code) (d : List ℕ) (h : Held t d) (from : ℕ) (k : from ≤ t.len) (f : drop from (take t.len d) ≡ trim_start is_white (take t.len d)) where
  down : Laid (length d) (change (trim_start is_white) (text_of t d)) (record { len = t.len - from; floor = 0; low = 0; fault = t.fault }) (lowered d from (t.len - from))
  down =
      let w : t.len ≤ length d = h.within in
      let n : ℕ = t.len - from in
      let q : from + n ≤ length d = omega arith in
      let u : n + from ≡ t.len = omega arith in
      let l : length (lowered d from n) ≡ length d = length-lowered d from n q in
      let o : take n (lowered d from n) ≡ trim_start is_white (take t.len d) = take-lowered d from n q ∙ sym (take_part d t.len from) ∙ f in
      laid _ _ _ _ l
      (record {
        within = omega arith;
        floored = omega arith;
        lowest = omega arith;
        zeros = zeros-lowered d from n q (rw u h.zeros);
        empty = λ c. let i = h.empty c in omega arith;
      })
      (⊎_elim
      (λ (c : t.fault ≡ 0). text-fits _ (lowered d from n) c ∙ ap (fits 0 0) o ∙ sym (rw (text-fits t d c)))
      (λ (c : t.fault ≡ 0 → ⊥). text-refused _ (lowered d from n) c ∙ sym (rw (text-refused t d c)))
      (zero_or t.fault))

  pub by_down : (d₁ d₂ : List ℕ) → d₁ ≡ put d 0 (part d from (t.len - from)) → d₂ ≡ put d₁ (t.len - from) (replicate from 0)
      → Laid (length d) (change (trim_start is_white) (text_of t d)) (record { len = t.len - from; floor = 0; low = 0; fault = t.fault }) d₂
  by_down d₁ d₂ e g = rw (g, e) down

  -- there is none
  pub by-stays : from ≡ 0 → Laid (length d) (change (trim_start is_white) (text_of t d)) (record { len = t.len; floor = 0; low = 0; fault = t.fault }) d
  by-stays z =
      let o : take t.len d ≡ trim_start is_white (take t.len d) = rw z at f in
      laid _ _ _ _ refl (record { within = h.within; floored = omega arith; lowest = omega arith; zeros = h.zeros; empty = h.empty })
      (⊎_elim
      (λ (c : t.fault ≡ 0). text-fits (record { len = t.len; floor = 0; low = 0; fault = t.fault }) d c ∙ ap (fits 0 0) o ∙ sym (rw (text-fits t d c)))
      (λ (c : t.fault ≡ 0 → ⊥). text-refused (record { len = t.len; floor = 0; low = 0; fault = t.fault }) d c ∙ sym (rw (text-refused t d c)))
      (zero_or t.fault))
