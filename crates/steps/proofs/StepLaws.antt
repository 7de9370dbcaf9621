-- Laws of a byte's code. Assumes nothing.
use Rattle.std.proofs.Common.{◌≡◌, ℕ, zero, suc, ◌+◌, ◌*◌, ◌/◌, ◌%◌, ◌^◌, ◌<◌, ◌≤◌, Bool, true, false, eqb, List, [], ◌∷◌, ◌++◌, length, get_or, sym, refl, ap, ◌∙◌, mul-le-mul_right, arith}
use lib.Bits.{bit_or, or_zero_r, or_lt, or_add_and, and_le_l, and_mask}
use Rattle.std.specs.Prelude.{if◌then◌else◌}
use Rattle.rules.specs.Text.{column_after}
use Rattle.ascii.specs.Part.{part}
use Rattle.ascii.proofs.PartLaws.{part-cons, part-more}
use Rattle.columns.proofs.MeasureLaws.{by-column}
use Rattle.side.specs.Side.{SideBySide}
use Rattle.steps.specs.Steps.{code_of, on_by, feed_of, codes_of, Mapped, Coded, down, rows}

-- all eight bits set
or_all : (at : ℕ) → at < 256 → bit_or at 255 ≡ 255
or_all at h =
    let l : bit_or at 255 < 2 ^ 8 = or_lt 8 at 255 (omega arith) (omega arith) in
    let a = or_add_and at 255 in
    let b = and_le_l at 255 in
    omega arith

-- a column that is not too far goes on as it should
pub on-code : (at b : ℕ) → at < 248 → on_by at (code_of b) ≡ column_after at b
on-code at b h = go (eqb b 10) (eqb b 9)
  where
    go : (f t : Bool) → (bit_or at (if f then 255 else if t then 7 else 0) + 1) % 256 ≡ (if f then 0 else if t then (at / 8 + 1) * 8 else suc at)
    go true t = rw (or_all at (omega arith))
    go false true = sym (and_mask (bit_or at 7 + 1) 8) ∙ by-column 8 at 9 7 255 (omega arith) refl refl
    go false false = rw (or_zero_r at) (omega arith)

pub feed_code : (b n : ℕ) → feed_of (code_of b) + n ≡ (if eqb b 10 then suc n else n)
feed_code b n = go (eqb b 10) (eqb b 9)
  where
    go : (f t : Bool) → feed_of (if f then 255 else if t then 7 else 0) + n ≡ (if f then suc n else n)
    go true t = omega arith
    go false true = omega arith
    go false false = omega arith

-- ---- a row after the other

-- the numbers of a lane are the codes of its part's bytes
pub down-part : (d t : List ℕ) (start far k : ℕ) → Coded d start far t → k < 16 → start + k * far + 8 ≤ length d → (n i : ℕ) → i + n ≤ 8 → down t k i n ≡ codes_of (part d (start + k * far + i) n)
down-part d t start far k s c h zero i b = refl
down-part d t start far k s c h (suc n) i b =
    let z : start + k * far + (i + 1) ≡ start + k * far + i + 1 = omega arith in
    let o = rw z at (down-part d t start far k s c h n (i + 1) (omega arith)) in
    ap (λ (x : ℕ). x ∷ down t k (i + 1) n) (s.told i k (omega arith) c) ∙ ap (λ (v : List ℕ). code_of (get_or d (start + k * far + i) 0) ∷ v) o ∙ ap codes_of (sym (part-cons d (start + k * far + i) n (omega arith)))

-- side by side, and then each its code
pub coded_all : (d was l : List ℕ) (start far : ℕ) → SideBySide d start far was → Mapped 128 (λ k x. code_of x) was l → Coded d start far l
coded_all d was l start far s m = record { told = λ j k h c. m.new (16 * j + k) (omega arith) ∙ ap code_of (s.told j k h c) }

pub codes_both : (v w : List ℕ) → codes_of (v ++ w) ≡ codes_of v ++ codes_of w
codes_both [] w = refl
codes_both (x ∷ xs) w = ap (λ (v : List ℕ). code_of x ∷ v) (codes_both xs w)

in-sixteen : (k far : ℕ) → k < 16 → k * far ≤ 15 * far
in-sixteen k far h = mul-le-mul_right far (omega arith)

-- the rows of a lane are the codes of sixteen bytes of its part
pub rows-part : (d t u : List ℕ) (start far k : ℕ) → Coded d start far t → Coded d (start + 8) far u → k < 16 → start + 15 * far + 16 ≤ length d → rows t u k ≡ codes_of (part d (start + k * far) 16)
rows-part d t u start far k a b c h =
    let m = in-sixteen k far c in
    let e : start + k * far + 0 ≡ start + k * far = omega arith in
    let f : start + 8 + k * far + 0 ≡ start + k * far + 8 = omega arith in
    let p : down t k 0 8 ≡ codes_of (part d (start + k * far) 8) = rw e at (down-part d t start far k a c (omega arith) 8 0 (omega arith)) in
    let q : down u k 0 8 ≡ codes_of (part d (start + k * far + 8) 8) = rw f at (down-part d u (start + 8) far k b c (omega arith) 8 0 (omega arith)) in
    ap (λ (v : List ℕ). v ++ down u k 0 8) p ∙ ap (λ (v : List ℕ). codes_of (part d (start + k * far) 8) ++ v) q ∙ sym (codes_both (part d (start + k * far) 8) (part d (start + k * far + 8) 8)) ∙ ap codes_of (sym (part-more d (start + k * far) 8 8))
