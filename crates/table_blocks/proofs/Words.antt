-- Two numbers in a word, and rows that are written and read again. Assumes nothing.
use mathlib.Core.Path.{◌≡◌, refl}
use mathlib.Core.List.{List}
use Prim.Native.Nat.{ℕ, ◌+◌, ◌*◌, ◌/◌, ◌%◌, ◌≤◌, ◌<◌}
use native.Mathlib.Omega.{arith}
use lib.ListN.{length}
use Rattle.table.specs.Table.{word_of, with_words}
use Rattle.table.proofs.Words.{put_is}
use Rattle.table_blocks.specs.declared.Step.{Step}
use Rattle.table_blocks.specs.declared.Top.{Top}
use Rattle.table_blocks.specs.declared.Counted.{Counted}
use Rattle.table_blocks.specs.declared.Onward.{Onward}
use Rattle.table_blocks.specs.Rows.{step_words, step_in, top_words, top_in, counted_words, counted_in, onward_words, onward_in}

pub high-of : (w a b : ℕ) → w ≡ a * 65536 + b → b < 65536 → w / 65536 ≡ a
high-of w a b e h = omega arith

pub low_of : (w a b : ℕ) → w ≡ a * 65536 + b → b < 65536 → w % 65536 ≡ b
low_of w a b e h = omega arith

module _ (t u : List ℕ) (i : ℕ) (r : 6 * i + 6 ≤ length t) where
  pub step_back : (s : Step) → u ≡ with_words t i 2 (step_words s) → s.resume ≤ 1024 → step_in u i ≡ s
  step_back s e h =
      let here = (put_is t u i 2 (step_words s) e).here (omega arith) in
      let w2 = here 0 2 refl (omega arith) in
      let w3 = here 1 3 refl (omega arith) in
      rw (w2, high-of (word_of u i 3) s.last s.resume w3 (omega arith), low_of (word_of u i 3) s.last s.resume w3 (omega arith))

  pub top_back : (w : Top) → u ≡ with_words t i 0 (top_words w) → w.after ≤ 1024 → w.step.resume ≤ 1024 → top_in u i ≡ w
  top_back w e h k =
      let here = (put_is t u i 0 (top_words w) e).here (omega arith) in
      let w0 = here 0 0 refl (omega arith) in
      let w1 = here 1 1 refl (omega arith) in
      let w2 = here 2 2 refl (omega arith) in
      let w3 = here 3 3 refl (omega arith) in
      rw
      (w0, high-of (word_of u i 1) w.next w.after w1 (omega arith), low_of (word_of u i 1) w.next w.after w1 (omega arith), w2, high-of (word_of u i 3) w.step.last w.step.resume w3 (omega arith), low_of (word_of u i 3) w.step.last w.step.resume w3 (omega arith))

  pub counted_back : (c : Counted) → u ≡ with_words t i 0 (counted_words c) → c.forbidden ≤ 1024 → counted_in u i ≡ c
  counted_back c e h =
      let here = (put_is t u i 0 (counted_words c) e).here (omega arith) in
      let w0 = here 0 0 refl (omega arith) in
      let w1 = here 1 1 refl (omega arith) in
      rw (w0, high-of (word_of u i 1) c.newlines c.forbidden w1 (omega arith), low_of (word_of u i 1) c.newlines c.forbidden w1 (omega arith))

  pub onward_back : (o : Onward) → u ≡ with_words t i 4 (onward_words o) → o.depth ≤ 1024 → onward_in u i ≡ o
  onward_back o e h =
      let here = (put_is t u i 4 (onward_words o) e).here (omega arith) in
      let w4 = here 0 4 refl (omega arith) in
      let w5 = here 1 5 refl (omega arith) in
      rw (high-of (word_of u i 4) o.top o.depth w4 (omega arith), low_of (word_of u i 4) o.top o.depth w4 (omega arith), w5)
