-- Laws of flags: eight to a byte, and a line feed in each window where every flag is set. Assumes nothing.
use mathlib.Core.Path.{◌≡◌, refl, sym, ap, ◌∙◌}
use mathlib.Core.Bool.{Bool, true, false, ◌||◌, false≢true}
use mathlib.Core.List.{List}
use Prim.Native.Nat.{ℕ, zero, suc, ◌+◌, ◌-◌, ◌*◌, ◌/◌, ◌%◌, ◌^◌, ◌≤◌, ◌<◌}
use native.Mathlib.Nat.{mul-le-mul_left, mul-le-mul_right, mul_assoc, pow-succ', div-add-mod', div-lt_iff_lt-mul, mod-lt, zero-div}
use native.Mathlib.Omega.{arith}
use lib.Bits.{bit_or, bit_xor, or_add_and, xor_add_and, and_le_l, and_le_r}
use lib.Dec.{eqb, ltb}
use lib.ListN.{length, get_or, replicate}
use lib.Pow.{pow_pos, shr-shr}
use borrow.Author.Count.{below_more}
use borrow.Author.Tests.{eqb-true, ltb-true, ltb-false}
use mir.Val.{bool_byte as from_bool}
use Rattle.ascii.specs.Part.{part, has}
use Rattle.ascii.proofs.PartLaws.{part-cons}
use Rattle.marks.specs.Marks.{bit_at}
use Rattle.marks.proofs.BitLaws.{bit-or}
use Rattle.longest.specs.Short.{Passed, InEach}
use Rattle.longest.specs.Flags.{Flagged, Widened, SetFrom, Near, Reached, AllSet}
use Rattle.longest.proofs.LongestLaws.{in-second, by-windows}

-- ---- one byte, a flag more at a time

first_bit : (b e : ℕ) → e ≤ 1 → bit_at (b + b + e) 0 ≡ eqb e 1
unfolding bit_at
first_bit b e h = let m : (b + b + e) / 2 ^ 0 % 2 ≡ e = omega arith in rw m

next_bit : (b e i : ℕ) → e ≤ 1 → bit_at (b + b + e) (suc i) ≡ bit_at b i
unfolding bit_at
next_bit b e i h =
    let k : (b + b + e) / 2 ^ 1 ≡ b = omega arith in
    let z : suc i ≡ 1 + i = omega arith in
    let m : (b + b + e) / 2 ^ (1 + i) ≡ b / 2 ^ i = sym (shr-shr (b + b + e) 1 i) ∙ ap (λ (x : ℕ). x / 2 ^ i) k in
    rw (z, m)

told-one : (x e : ℕ) → e ≡ from_bool (eqb x 10) → eqb e 1 ≡ eqb x 10
told-one x e f = rw f (go (eqb x 10))
  where
    go : (b : Bool) → eqb (from_bool b) 1 ≡ b
    go true = refl
    go false = refl

pub in-eighth : (k far : ℕ) → k < 8 → k * far ≤ 7 * far
in-eighth k far h = mul-le-mul_right far (omega arith)

-- the flags of the parts from k on: so few that they fit
pub record Some (d : List ℕ) (at far k v : ℕ) : Type 0 where
  pub fits : (v + 1) * 2 ^ k ≤ 256
  pub told : (i : ℕ) → i + k < 8 → bit_at v i ≡ eqb (get_or d (at + (i + k) * far) 0) 10

-- twice as many fit where a part is left
pub doubled : (v k : ℕ) → (v + 1) * 2 ^ suc k ≡ (v + 1) * 2 * 2 ^ k
doubled v k = ap (λ (x : ℕ). (v + 1) * x) (pow-succ' 2 k) ∙ sym (mul_assoc (v + 1) 2 (2 ^ k))

pub has_room : (d : List ℕ) (at far k v : ℕ) → 0 < k → Some d at far k v → v + v + 1 < 256
has_room d at far zero v h s = absurd (omega arith)
has_room d at far (suc k) v h s =
    let f : (v + 1) * 2 * 2 ^ k ≤ 256 = rw (doubled v k) at s.fits in
    let p : (v + 1) * 2 * 1 ≤ (v + 1) * 2 * 2 ^ k = mul-le-mul_left ((v + 1) * 2) (pow_pos k) in
    omega arith

pub one_more : (d : List ℕ) (at far k v e : ℕ) → 0 < k → Some d at far k v → e ≡ from_bool (eqb (get_or d (at + (k - 1) * far) 0) 10) → e ≤ 1 → Some d at far (k - 1) (v + v + e)
one_more d at far zero v e h s f g = absurd (omega arith)
one_more d at far (suc k) v e h s f g =
    let z : suc k - 1 ≡ k = omega arith in
    let x : (v + v + e + 1) * 2 ^ k ≤ (v + 1) * 2 * 2 ^ k = mul-le-mul_right (2 ^ k) (omega arith) in
    let y : (v + 1) * 2 * 2 ^ k ≤ 256 = rw (doubled v k) at s.fits in
    let o : e ≡ from_bool (eqb (get_or d (at + k * far) 0) 10) = rw z at f in
    rw z (record { fits = omega arith; told = told o })
  where
    told : e ≡ from_bool (eqb (get_or d (at + k * far) 0) 10) → (i : ℕ) → i + k < 8 → bit_at (v + v + e) i ≡ eqb (get_or d (at + (i + k) * far) 0) 10
    told o zero l = let n : 0 + k ≡ k = omega arith in rw n (first_bit v e g ∙ told-one (get_or d (at + k * far) 0) e o)
    told o (suc i) l = let n : suc i + k ≡ i + suc k = omega arith in rw n (next_bit v e i g ∙ s.told i (omega arith))

-- ---- where a bit comes from

pub near-one : (was : List ℕ) → Near was 1 was
near-one was = record { from = λ j k e. let z : j ≡ j + 0 = omega arith in record { on = 0; below = omega arith; set = rw z at e } }

farther : (was : List ℕ) (j k w more : ℕ) → SetFrom was j k w → SetFrom was j k (w + more)
farther was j k w more s = let b = s.below in record { on = s.on; below = omega arith; set = s.set }

later : (was : List ℕ) (j k w by : ℕ) → SetFrom was (j + by) k w → SetFrom was j k (w + by)
later was j k w by s =
    let b = s.below in
    let z : j + by + s.on ≡ j + (by + s.on) = omega arith in
    record { on = by + s.on; below = omega arith; set = rw z at s.set }

-- in one of two
pub near-both : (was l : List ℕ) (w by j k : ℕ) → Near was w l → bit_at (bit_or (get_or l j 0) (get_or l (j + by) 0)) k ≡ true → SetFrom was j k (w + by)
near-both was l w by j k n e = go (bit_at (get_or l j 0) k) (bit_at (get_or l (j + by) 0) k) refl refl (sym (bit-or (get_or l j 0) (get_or l (j + by) 0) k) ∙ e)
  where
    go : (a b : Bool) → bit_at (get_or l j 0) k ≡ a → bit_at (get_or l (j + by) 0) k ≡ b → (a || b) ≡ true → SetFrom was j k (w + by)
    go true b f g h = farther was j k w by (n.from j k f)
    go false true f g h = later was j k w by (n.from (j + by) k g)
    go false false f g h = absurd (false≢true h)

pub near-more : (was l r : List ℕ) (w by n : ℕ) → Near was w l → Widened l n by r → Near was (w + by) r
near-more was l r w by n s f = record { from = λ j k e. go j k e (ltb j n) refl }
  where
    go : (j k : ℕ) → bit_at (get_or r j 0) k ≡ true → (b : Bool) → ltb j n ≡ b → SetFrom was j k (w + by)
    go j k e true t = near-both was l w by j k s (rw (f.new j (ltb-true j n t)) at e)
    go j k e false t = let c = ltb-false j n t in farther was j k w by (s.from j k (rw (f.old j (omega arith)) at e))

pub reached_more : (was l : List ℕ) (h by n : ℕ) → Widened was n by l → Reached was h (h + by) l
reached_more was l h by n f = record { long = f.long; near = λ first s. near-more first was l h by n s f }

-- ---- every bit is set

zeros : (m i : ℕ) → ◌≡◌ {A = ℕ} (get_or (replicate m 0) i 0) 0
zeros zero i = refl
zeros (suc m) zero = refl
zeros (suc m) (suc i) = zeros m i

no-bit : (i : ℕ) → bit_at 0 i ≡ false
unfolding bit_at
no-bit i = let z : 0 / 2 ^ i ≡ 0 = zero-div (2 ^ i) in rw z

full : (i : ℕ) → i < 8 → bit_at 255 i ≡ true
unfolding bit_at
full zero l = refl
full (suc zero) l = refl
full (suc (suc zero)) l = refl
full (suc (suc (suc zero))) l = refl
full (suc (suc (suc (suc zero)))) l = refl
full (suc (suc (suc (suc (suc zero))))) l = refl
full (suc (suc (suc (suc (suc (suc zero)))))) l = refl
full (suc (suc (suc (suc (suc (suc (suc zero))))))) l = refl
full (suc (suc (suc (suc (suc (suc (suc (suc i)))))))) l = absurd (omega arith)

pub same_byte : (x c : ℕ) → bit_xor x c ≡ 0 → x ≡ c
same_byte x c e = let o = xor_add_and x c in let p = and_le_l x c in let q = and_le_r x c in omega arith

pub by_set : (l : List ℕ) (j by unset : ℕ) → (unset ≡ 0 → AllSet l j by) → bit_or unset (bit_xor (bit_or (get_or l j 0) (get_or l (j + by) 0)) 255) ≡ 0 → AllSet l (j + 1) by
by_set l j by unset s e =
    let v = bit_or (get_or l j 0) (get_or l (j + by) 0) in
    let o = or_add_and unset (bit_xor v 255) in
    let p = and_le_l unset (bit_xor v 255) in
    let q = and_le_r unset (bit_xor v 255) in
    let z : unset ≡ 0 = omega arith in
    let f : v ≡ 255 = same_byte v 255 (omega arith) in
    record { all = λ i k g m. below_more (λ i. bit_at (bit_or (get_or l i 0) (get_or l (i + by) 0)) k ≡ true) j (λ i b. (s z).all i k b m) (rw f (full k m)) i g }

-- ---- so a line feed is in each window

here : (d : List ℕ) (at on w : ℕ) → on < w → at + on < length d → get_or d (at + on) 0 ≡ 10 → has 10 10 (part d at w) ≡ true
here d at on w h c e =
    let r = w - on - 1 in
    let z : w ≡ on + suc r = omega arith in
    let f : has 10 10 (part d (at + on) (suc r)) ≡ true = rw (part-cons d (at + on) r c, e) in
    rw z (in-second d at on (suc r) f)

module _ (d : List ℕ) (start far n : ℕ) (was : List ℕ) (h : start + 7 * far + n ≤ length d) (f : Flagged d start far n (replicate 704 0) was) where
  by_bit : (j k w : ℕ) → k < 8 → SetFrom was j k w → has 10 10 (part d (start + (k * far + j)) w) ≡ true
  by_bit j k w c s = go (ltb (j + s.on) n) refl
    where
      go : (b : Bool) → ltb (j + s.on) n ≡ b → has 10 10 (part d (start + (k * far + j)) w) ≡ true
      go true t =
          let a = ltb-true (j + s.on) n t in
          let m = in-eighth k far c in
          let z : start + (j + s.on) + k * far ≡ start + (k * far + j) + s.on = omega arith in
          let e : eqb (get_or d (start + (j + s.on) + k * far) 0) 10 ≡ true = sym ((f.new (j + s.on) a).told k c) ∙ s.set in
          here d (start + (k * far + j)) s.on w s.below (omega arith) (rw z at (eqb-true (get_or d (start + (j + s.on) + k * far) 0) 10 e))
      go false t =
          let a = ltb-false (j + s.on) n t in
          let z : get_or was (j + s.on) 0 ≡ 0 = f.old (j + s.on) (omega arith) ∙ zeros 704 (j + s.on) in
          absurd (false≢true (sym (no-bit k) ∙ (rw z at s.set)))

  pub in-each : (l : List ℕ) (w by : ℕ) → 0 < far → Near was w l → AllSet l far by → InEach d start (w + by) (8 * far)
  in-each l w by p s a = record { fed = λ x c. go x c }
    where
      go : (x : ℕ) → x < 8 * far → has 10 10 (part d (start + x) (w + by)) ≡ true
      go x c =
          let k = x / far in
          let j = x % far in
          let e : k * far + j ≡ x = div-add-mod' x far in
          let m : k < 8 = (div-lt_iff_lt-mul p).1 c in
          rw e at (by_bit j k (w + by) m (near-both was l w by j k s (a.all j k (mod-lt x p) m)))

-- and all of them may be passed
pub by-flagged : (d : List ℕ) (start n best far more h : ℕ) (m l : List ℕ) → start + n ≤ length d → best < more → 8 * far + more ≤ n → 0 < far → h ≤ best + 1
    → Flagged d start far (far + more) (replicate 704 0) m → Reached m 1 h l → AllSet l far (best + 1 - h) → Passed d start n best (8 * far)
by-flagged d start n best far more h m l c g e p k f r a =
    let z : h + (best + 1 - h) ≡ best + 1 = omega arith in
    let w = in-each d start far (far + more) m (omega arith) f l h (best + 1 - h) p (r.near m (near-one m)) a in
    by-windows d start n best c (best + 1) (8 * far) (rw z at w) (omega arith) (omega arith)
