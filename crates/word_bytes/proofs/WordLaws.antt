-- A word and its four bytes: each read back from the other. Assumes nothing.
use mathlib.Core.Path.{◌≡◌, ◌∙◌}
use mathlib.Core.List.{List, [], ◌∷◌}
use Prim.Native.Nat.{ℕ, ◌+◌, ◌*◌, ◌/◌, ◌%◌, ◌≤◌, ◌<◌}
use native.Mathlib.Nat.{add-zero, div-div-eq-div-mul}
use native.Mathlib.Omega.{arith}
use lib.Dec.{lit<}
use lib.ListN.{length, take, drop, get_or}
use lib.Seq.{get_or-take, get_or-drop}
use Rattle.rules.specs.Words.{word_at, word_bytes}
use Rattle.ascii.proofs.PartLaws.{part-cons}

-- ---- a word is that of its four bytes

part-byte : (l : List ℕ) (at i : ℕ) → i < 4 → get_or (take 4 (drop at l)) i 0 ≡ get_or l (at + i) 0
part-byte l at i h = get_or-take 4 (drop at l) i 0 h ∙ get_or-drop at l i 0

pub word-part : (l : List ℕ) (at : ℕ) → word_at l at ≡ word_at (take 4 (drop at l)) 0
unfolding word_at
word-part l at = rw (part-byte l at 0 (lit< tt), part-byte l at 1 (lit< tt), part-byte l at 2 (lit< tt), part-byte l at 3 (lit< tt), add-zero)

pub word_back : (w : ℕ) → w < 4294967296 → word_at (word_bytes w) 0 ≡ w
unfolding word_at
word_back w h = rw (← div-div-eq-div-mul w 65536 256, ← div-div-eq-div-mul w 256 256) (omega arith)

-- ---- four bytes are those of their word

pub part-four : (l : List ℕ) (at : ℕ) → at + 4 ≤ length l → (get_or l at 0 ∷ get_or l (at + 1) 0 ∷ get_or l (at + 2) 0 ∷ get_or l (at + 3) 0 ∷ []) ≡ take 4 (drop at l)
part-four l at h =
    let e₂ : at + 1 + 1 ≡ at + 2 = omega arith in
    let e₃ : at + 2 + 1 ≡ at + 3 = omega arith in
    rw (part-cons l at 3 (omega arith), part-cons l (at + 1) 2 (omega arith), e₂, part-cons l (at + 2) 1 (omega arith), e₃, part-cons l (at + 3) 0 (omega arith))

-- every number of the list is a byte
abbrev pub Small : List ℕ → Type 0
Small l = (i : ℕ) → get_or l i 0 < 256

module _ (l : List ℕ) (small : Small l) (at : ℕ) where
  pub word_small : word_at l at < 4294967296
  unfolding word_at
  word_small = omega (arith, small at, small (at + 1), small (at + 2), small (at + 3))

  pub bytes_back : at + 4 ≤ length l → word_bytes (word_at l at) ≡ take 4 (drop at l)
  unfolding word_at
  bytes_back h = rw (← part-four l at h) (four (get_or l at 0) (get_or l (at + 1) 0) (get_or l (at + 2) 0) (get_or l (at + 3) 0) (small at) (small (at + 1)) (small (at + 2)) (small (at + 3)))
    where
      four : (a b c d : ℕ) → a < 256 → b < 256 → c < 256 → d < 256 → word_bytes (a + b * 256 + c * 65536 + d * 16777216) ≡ a ∷ b ∷ c ∷ d ∷ []
      four a b c d ha hb hc hd =
          let w = a + b * 256 + c * 65536 + d * 16777216 in
          let e₀ : w % 256 ≡ a = omega arith in
          let q₁ : w / 256 ≡ b + c * 256 + d * 65536 = omega arith in
          let q₂ : w / 65536 ≡ c + d * 256 = omega arith in
          let q₃ : w / 16777216 ≡ d = omega arith in
          let e₁ : (b + c * 256 + d * 65536) % 256 ≡ b = omega arith in
          let e₂ : (c + d * 256) % 256 ≡ c = omega arith in
          let e₃ : d % 256 ≡ d = omega arith in rw (e₀, q₁, q₂, q₃, e₁, e₂, e₃)
