-- Marks on numbers under 32,768, 32 to a word; and for each word how far the runs go that start in it.
use Rattle.std.specs.Prelude.{if◌then◌else◌, ◌≡◌, Bool, ◌||◌, List, ℕ, zero, suc, ◌+◌, ◌*◌, ◌/◌, ◌%◌, ◌^◌, ◌<◌, max, eqb, ltb, length, get_or}

-- bit i of a word
unfoldable pub bit_at : ℕ → ℕ → Bool
bit_at w i = eqb (w / 2 ^ i % 2) 1

-- the bit of number j
abbrev pub bit_of : List ℕ → ℕ → Bool
bit_of bits j = bit_at (get_or bits (j / 32) 0) (j % 32)

-- the furthest end of a run that starts in the first k words
unfoldable pub reach : List ℕ → ℕ → ℕ
reach far zero = 0
reach far (suc k) = max (reach far k) (get_or far k 0)

-- number j is marked: by its bit, or by a run that comes from an earlier word
abbrev pub marked : List ℕ → List ℕ → ℕ → Bool
marked bits far j = bit_of bits j || ltb j (reach far (j / 32))

-- how many of the first j numbers are so
unfoldable pub count_of : (ℕ → Bool) → ℕ → ℕ
count_of p zero = 0
count_of p (suc j) = count_of p j + (if p j then 1 else 0)

-- 1,024 words each
pub record Long (bits far : List ℕ) : Type 0 where
  pub bits_long : length bits ≡ 1024
  pub far_long : length far ≡ 1024

-- before each word of bits, how many marks stand
pub record Counted (bits before : List ℕ) : Type 0 where
  pub long : Long bits before
  pub counts : (k : ℕ) → k < 1024 → get_or before k 0 ≡ count_of (bit_of bits) (32 * k)
