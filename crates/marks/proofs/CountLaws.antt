-- How many of the first numbers are so. Assumes nothing.
use mathlib.Core.Path.{◌≡◌, refl, sym, ap, ◌∙◌}
use mathlib.Core.Bool.{Bool, true, false}
use mathlib.Core.List.{List}
use Prim.Native.Nat.{ℕ, zero, suc, ◌+◌, ◌-◌, ◌*◌, ◌/◌, ◌%◌, ◌^◌, ◌≤◌, ◌<◌}
use native.Mathlib.Nat.{mod-lt, mod-one, add-suc, add-zero, add_assoc, add_comm, mul-one}
use native.Mathlib.Omega.{arith}
use lib.Dec.{eqb, lit<}
use lib.Pow.{pow_pos, mod-pow-add}
use lib.Bits.{bit_and, and_mask}
use lib.Count as lib-count
use lib.ListN.{get_or}
use Rattle.std.specs.Prelude.{if◌then◌else◌}
use Rattle.marks.specs.Marks.{bit_at, bit_of, count_of, Counted}

pub count-ext : (p q : ℕ → Bool) (n : ℕ) → ((i : ℕ) → i < n → p i ≡ q i) → count_of p n ≡ count_of q n
unfolding count_of
count-ext p q zero e = refl
count-ext p q (suc n) e = rw (count-ext p q n (λ i h. e i (omega arith)), e n (omega arith))

pub count_add : (p : ℕ → Bool) (m n : ℕ) → count_of p (m + n) ≡ count_of p m + count_of (λ i. p (m + i)) n
unfolding count_of
count_add p m zero = rw (add-zero m) (sym (add-zero (count_of p m)))
count_add p m (suc n) = rw (add-suc m n, count_add p m n) (add_assoc (count_of p m) (count_of (λ i. p (m + i)) n) (if p (m + n) then 1 else 0))

one-most : (b : Bool) → (if b then 1 else 0) ≤ 1
one-most true = omega arith
one-most false = omega arith

pub count-le : (p : ℕ → Bool) (n : ℕ) → count_of p n ≤ n
unfolding count_of
count-le p zero = omega arith
count-le p (suc n) = let h = count-le p n in let k = one-most (p n) in omega arith

-- ---- the bits of a word

ones-digit : (a : ℕ) → a < 2 → lib-count.ones a ≡ (if eqb a 1 then 1 else 0)
unfolding lib-count.ones
ones-digit zero h = refl
ones-digit (suc zero) h = refl
ones-digit (suc (suc a)) h = absurd (omega arith)

pub ones-count : (w n : ℕ) → lib-count.ones (w % 2 ^ n) ≡ count_of (bit_at w) n
unfolding count_of bit_at lib-count.ones
ones-count w zero = ap lib-count.ones (mod-one w)
ones-count w (suc n) =
    let e : suc n ≡ 1 + n = omega arith in
    ap (λ (k : ℕ). lib-count.ones (w % 2 ^ k)) e
    ∙ ap lib-count.ones (mod-pow-add w 1 n)
    ∙ lib-count.ones_cat n (w / 2 ^ n % 2) (w % 2 ^ n) (mod-lt w (pow_pos n))
    ∙ add_comm (lib-count.ones (w / 2 ^ n % 2)) (lib-count.ones (w % 2 ^ n))
    ∙ rw (ones-count w n, ones-digit (w / 2 ^ n % 2) (mod-lt (w / 2 ^ n) (lit< tt)))

mask-count : (w n r : ℕ) → r ≡ (2 ^ n - 1) * 2 ^ 0 → lib-count.ones (bit_and w r) ≡ count_of (bit_at w) n
mask-count w n r e = ap (λ (x : ℕ). lib-count.ones (bit_and w x)) (e ∙ mul-one (2 ^ n - 1)) ∙ ap lib-count.ones (and_mask w n) ∙ ones-count w n

pub mask_count : (w n r x : ℕ) → x ≡ lib-count.ones (bit_and w r) → r ≡ (2 ^ n - 1) * 2 ^ 0 → x ≡ count_of (bit_at w) n
mask_count w n r x f e = f ∙ mask-count w n r e

pub mask-le : (w n r x : ℕ) → x ≡ lib-count.ones (bit_and w r) → r ≡ (2 ^ n - 1) * 2 ^ 0 → x ≤ n
mask-le w n r x f e = let k = count-le (bit_at w) n in let m = mask_count w n r x f e in omega arith

pub ruleset masks = (mask_count, mask-le)

-- ---- the bits of a list of words

-- the words before, and the first bits of this one
pub count-split : (bits : List ℕ) (k n : ℕ) → n ≤ 32 → count_of (bit_of bits) (32 * k + n) ≡ count_of (bit_of bits) (32 * k) + count_of (bit_at (get_or bits k 0)) n
count-split bits k n h = count_add (bit_of bits) (32 * k) n ∙ ap (λ (x : ℕ). count_of (bit_of bits) (32 * k) + x) (count-ext (λ i. bit_of bits (32 * k + i)) (bit_at (get_or bits k 0)) n in-word)
  where
    in-word : (i : ℕ) → i < n → bit_of bits (32 * k + i) ≡ bit_at (get_or bits k 0) i
    in-word i l =
        let e : (32 * k + i) / 32 ≡ k = omega arith in
        let f : (32 * k + i) % 32 ≡ i = omega arith in rw (e, f)

pub counted_before : (bits before : List ℕ) (j x y : ℕ) → Counted bits before → j < 32768 → x ≡ get_or before (j / 32) 0 → y ≡ count_of (bit_at (get_or bits (j / 32) 0)) (j % 32)
    → x + y ≡ count_of (bit_of bits) j
counted_before bits before j x y c h ex ey =
    let e : 32 * (j / 32) + j % 32 ≡ j = omega arith in
    let k : j / 32 < 1024 = omega arith in
    let m : j % 32 ≤ 32 = omega arith in
    rw (ex, ey, c.counts (j / 32) k, ← count-split bits (j / 32) (j % 32) m, e)
