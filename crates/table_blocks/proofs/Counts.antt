-- What is counted up to a token, a token at a time. Assumes nothing.
use mathlib.Core.Path.{◌≡◌, refl, sym}
use mathlib.Core.Bool.{Bool, true, false, ◌||◌}
use Prim.Native.Nat.{ℕ, zero, suc, ◌+◌, ◌-◌, ◌*◌, ◌≤◌, ◌<◌}
use native.Mathlib.Numerals.{add-one}
use native.Mathlib.Omega.{arith}
use lib.Dec.{ltb}
use lib.ListN.{length}
use borrow.Author.Tests.{lt-ltb, le-ltb}
use Rattle.std.specs.Prelude.{if◌then◌else◌}
use Rattle.rules.specs.Tokens.{Token}
use Rattle.rules.specs.InlineBlock.{level_after}
use Rattle.rules.specs.declared.Part.{Part}
use Rattle.rules.specs.declared.Part.TheVariants as part
use Rattle.table_blocks.specs.Sums.{part_at, depth, size, count}
use Rattle.table_blocks.specs.Rows.{Short}

module _ (f : ℕ → Token) where
  pub depth-step : (j : ℕ) → depth f (j + 1) ≡ level_after (part_at f j) (depth f j)
  unfolding depth
  depth-step j = rw add-one

  pub size_step : (j : ℕ) → size f (j + 1) ≡ size f j + length (f j).value
  unfolding size
  size_step j = rw add-one

  level-le : (p : Part) (d j : ℕ) → d ≤ j → level_after p d ≤ suc j
  level-le part.Top d j h = omega arith
  level-le part.Newline d j h = omega arith
  level-le part.Open d j h = omega arith
  level-le part.Close d j h = omega arith
  level-le part.Comment d j h = omega arith
  level-le part.Rest d j h = omega arith

  pub depth_le : (j : ℕ) → depth f j ≤ j
  unfolding depth
  depth_le zero = omega arith
  depth_le (suc j) = level-le (part_at f j) (depth f j) j (depth_le j)

  pub size-up : (j k : ℕ) → size f j ≤ size f (j + k)
  unfolding size
  size-up j zero = let e : j + 0 ≡ j = omega arith in rw e (omega arith)
  size-up j (suc k) = let e : j + suc k ≡ suc (j + k) = omega arith in let h = size-up j k in rw e (omega arith)

  pub size-le : (j m : ℕ) → j ≤ m → size f j ≤ size f m
  size-le j m h = let e : m ≡ j + (m - j) = omega arith in rw e (size-up j (m - j))

  size-most : (j : ℕ) → ((k : ℕ) → k < j → length (f k).value ≤ 65536) → size f j ≤ 65536 * j
  unfolding size
  size-most zero h = omega arith
  size-most (suc j) h = let a = size-most j (λ k l. h k (omega arith)) in let b = h j (omega arith) in omega arith

  pub size_small : (n : ℕ) → Short f n → size f n ≤ 67108864
  size_small n s = let a = size-most n s.short in let b = s.few in omega arith

module _ (g : ℕ → Bool) where
  pub count-step : (j : ℕ) → count g (j + 1) ≡ count g j + (if g j then 1 else 0)
  unfolding count
  count-step j = rw add-one

  one-le : (b : Bool) → (if b then 1 else 0) ≤ 1
  one-le true = omega arith
  one-le false = omega arith

  count-up : (j k : ℕ) → count g j ≤ count g (j + k)
  unfolding count
  count-up j zero = let e : j + 0 ≡ j = omega arith in rw e (omega arith)
  count-up j (suc k) = let e : j + suc k ≡ suc (j + k) = omega arith in let h = count-up j k in rw e (omega arith)

  pub count-le : (j m : ℕ) → j ≤ m → count g j ≤ count g m
  count-le j m h = let e : m ≡ j + (m - j) = omega arith in rw e (count-up j (m - j))

  pub count_most : (j : ℕ) → count g j ≤ j
  unfolding count
  count_most zero = omega arith
  count_most (suc j) = let a = count_most j in let b = one-le (g j) in omega arith

  pub found_none : (b : Bool) (j : ℕ) → b ≡ (b || ltb (count g j) (count g j))
  found_none true j = refl
  found_none false j = sym (le-ltb (count g j) (count g j) (omega arith))

  found-by : (b h : Bool) (c d m : ℕ) → d ≡ c + (if h then 1 else 0) → d ≤ m → ((b || h) || ltb d m) ≡ (b || ltb c m)
  found-by true h c d m e l = refl
  found-by false true c d m e l = sym (lt-ltb c m (omega arith))
  found-by false false c d m e l = let k : d ≡ c = omega arith in rw k

  -- one found at j, or behind it
  pub found-on : (b : Bool) (j m : ℕ) → j + 1 ≤ m → ((b || g j) || ltb (count g (j + 1)) (count g m)) ≡ (b || ltb (count g j) (count g m))
  found-on b j m h = found-by b (g j) (count g j) (count g (j + 1)) (count g m) (count-step j) (count-le (j + 1) m h)
