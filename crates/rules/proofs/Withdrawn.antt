-- Wish 12: a sheet whose word 7 is 1 is refused with 14 by every layout call, whatever it is lent; any other that passes checks 1 to 4 is laid out as before. Assumes nothing.
use Rattle.std.specs.Prelude.{Ok}
use mathlib.Core.Path.{◌≡◌}
use mathlib.Core.List.{List}
use Prim.Native.Nat.{ℕ}
use native.Mathlib.Omega.{arith}
use borrow.Author.Tests.{eq-eqb, ne_eqb, le-ltb}
use Rattle.rules.specs.declared.Counts.{Counts}
use Rattle.rules.specs.Words.{word_at}
use Rattle.rules.specs.Checks.{checked}
use Rattle.rules.specs.Sheet.{env_of, tokens_of}
use Rattle.rules.specs.Answer.{refusal, format, is_withdrawn, answer_as, answer}
use Rattle.rules.specs.Rows.{to_lay_out, is_short, listed_as, listed}

module _ (s : List ℕ) (c : Counts) (sound : checked s ≡ Ok c) where
  module _ (one : word_at s 28 ≡ 1) where
    pub plain-refused : (room : ℕ) → answer s room ≡ refusal 14 28
    unfolding answer answer_as is_withdrawn
    plain-refused room = rw (sound, eq-eqb (word_at s 28) 1 one)

    -- though the list has not a word
    pub listed-refused : (room k : ℕ) → listed s room k ≡ refusal 14 28
    unfolding listed listed_as is_short to_lay_out answer_as is_withdrawn
    listed-refused room k = rw (sound, eq-eqb (word_at s 28) 1 one, le-ltb k 0 (omega arith))

  pub as_before : (word_at s 28 ≡ 1 → ⊥) → (room : ℕ) → answer s room ≡ format (env_of s c room) (tokens_of s c)
  unfolding answer answer_as is_withdrawn
  as_before other room = rw (sound, ne_eqb (word_at s 28) 1 other)
