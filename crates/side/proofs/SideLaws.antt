-- Laws of parts side by side: the two halves of a list in turn. Assumes nothing.
use mathlib.Core.Path.{◌≡◌, ◌∙◌}
use mathlib.Core.List.{List}
use Prim.Native.Nat.{ℕ, zero, suc, ◌+◌, ◌*◌, ◌/◌, ◌%◌, ◌<◌}
use native.Mathlib.Omega.{arith}
use lib.ListN.{length, get_or}
use Rattle.side.specs.Side.{Laid, Shuffled, SideBySide}

-- a shuffle brings the last bit of an index to the front
turned : (d l : List ℕ) → Shuffled d 64 l → (i b : ℕ) → i < 64 → b < 2 → get_or l (2 * i + b) 0 ≡ get_or d (64 * b + i) 0
turned d l f i zero h c = let x : 2 * i + 0 ≡ 2 * i = omega arith in let y : 64 * 0 + i ≡ i = omega arith in rw (x, y) (f.even i h)
turned d l f i (suc zero) h c = f.odd i h
turned d l f i (suc (suc b)) h c = absurd (omega arith)

turned-to : (d l : List ℕ) → Shuffled d 64 l → (x i b y : ℕ) → x ≡ 2 * i + b → 64 * b + i ≡ y → i < 64 → b < 2 → get_or l x 0 ≡ get_or d y 0
turned-to d l f x i b y p q h c = rw (p, ← q) (turned d l f i b h c)

-- four shuffles bring the last four bits of an index to the front
four-turned : (a b c d e : List ℕ) → Shuffled a 64 b → Shuffled b 64 c → Shuffled c 64 d → Shuffled d 64 e → (j p q r s : ℕ) → j < 8 → p < 2 → q < 2 → r < 2 → s < 2
    → get_or e (16 * j + 8 * p + 4 * q + 2 * r + s) 0 ≡ get_or a (64 * p + 32 * q + 16 * r + 8 * s + j) 0
four-turned a b c d e f g h i j p q r s m kp kq kr ks =
    turned-to d e i (16 * j + 8 * p + 4 * q + 2 * r + s) (8 * j + 4 * p + 2 * q + r) s (64 * s + 8 * j + 4 * p + 2 * q + r) (omega arith) (omega arith) (omega arith) ks
    ∙ turned-to c d h _ (32 * s + 4 * j + 2 * p + q) r (64 * r + 32 * s + 4 * j + 2 * p + q) (omega arith) (omega arith) (omega arith) kr
    ∙ turned-to b c g _ (32 * r + 16 * s + 2 * j + p) q (64 * q + 32 * r + 16 * s + 2 * j + p) (omega arith) (omega arith) (omega arith) kq
    ∙ turned-to a b f _ (32 * q + 16 * r + 8 * s + j) p _ (omega arith) (omega arith) (omega arith) kp

pub by-shuffles : (t : List ℕ) (start far : ℕ) (a b c d e : List ℕ) → Laid t start far 16 a → Shuffled a 64 b → Shuffled b 64 c → Shuffled c 64 d → Shuffled d 64 e → length e ≡ 128 → SideBySide t start far e
by-shuffles t start far a b c d e l f g h i o = record { long = o; told = λ j k m n. told j k m n }
  where
    told : (j k : ℕ) → j < 8 → k < 16 → get_or e (16 * j + k) 0 ≡ get_or t (start + k * far + j) 0
    told j k m n =
        let p = k / 2 / 2 / 2 in
        let q = k / 2 / 2 % 2 in
        let r = k / 2 % 2 in
        let s = k % 2 in
        let x : 16 * j + k ≡ 16 * j + 8 * p + 4 * q + 2 * r + s = omega arith in
        let y : 64 * p + 32 * q + 16 * r + 8 * s + j ≡ 8 * k + j = omega arith in
        let z = four-turned a b c d e f g h i j p q r s m (omega arith) (omega arith) (omega arith) (omega arith) in
        rw x (rw y at z) ∙ l.told k j n m
