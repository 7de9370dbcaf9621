-- The rows from one sheet to another, written into the first, give the second. Assumes nothing.
use mathlib.Core.Bool.{Bool, true, false}
use mathlib.Core.Path.{◌≡◌, refl, ap, sym, ◌∙◌}
use mathlib.Core.List.{List, [], ◌∷◌, ◌++◌, append_assoc, append-nil}
use Prim.Native.Nat.{ℕ, zero, suc, ◌+◌, ◌*◌, ◌≤◌, ◌<◌}
use native.Mathlib.Nat.{add-zero}
use native.Mathlib.Omega.{arith}
use lib.Dec.{eqb}
use lib.ListN.{length, take, drop, get_or, take-append-drop, drop_of_length-le}
use lib.Seq.{take_at, take_all, take-add, drop-drop, drop-cons, drop-append-add, length-take-le}
use borrow.Author.Tests.{lt-ltb, le-ltb, eqb-true}
use Rattle.rules.specs.declared.Counts.{Counts}
use Rattle.std.specs.Prelude.{if◌then◌else◌}
use Rattle.rules.specs.Words.{word_at, word_bytes, body_at}
use Rattle.rules.specs.Compacted.{word_count}
use Rattle.word_bytes.proofs.WordLaws.{Small, bytes_back}
use Rattle.mended.specs.Mended.{Change, change, word_changes, byte_changes, changes, written_at, done}

pub done-append : (base : ℕ) (xs ys : List Change) (s : List ℕ) → done base (xs ++ ys) s ≡ done base ys (done base xs s)
unfolding done
done-append base [] ys s = refl
done-append base (x ∷ xs) ys s = done-append base xs ys (written_at base x.at x.new s)

module _ (s t : List ℕ) (small-s : Small s) (small-t : Small t) (same : length s ≡ length t) where
  -- the first n bytes of t, and s after them
  joined : ℕ → List ℕ
  joined n = take n t ++ drop n s

  module _ (at : ℕ) (h : at ≤ length t) where
    take-joined : take at (joined at) ≡ take at t
    unfolding joined
    take-joined = take_at (take at t) (drop at s) at (length-take-le at t h)

    drop-joined : (m : ℕ) → drop (at + m) (joined at) ≡ drop (at + m) s
    unfolding joined
    drop-joined m = rw (length-take-le at t h) at (drop-append-add (take at t) (drop at s) m) ∙ drop-drop m at s

    -- m bytes of t written there, and m bytes that are the same
    wrote : (m : ℕ) → take at (joined at) ++ take m (drop at t) ++ drop (at + m) (joined at) ≡ joined (at + m)
    unfolding joined
    wrote m = rw (drop-joined m, take-joined, take-add at m t)

    left : (m : ℕ) → take m (drop at s) ≡ take m (drop at t) → joined at ≡ joined (at + m)
    unfolding joined
    left m e = rw (take-add at m t, ← e, append_assoc (take at t) (take m (drop at s)) (drop (at + m) s), ← drop-drop m at s, take-append-drop m (drop at s))

  -- ---- a word, and a byte

  change-done : (base at x y : ℕ) (u : List ℕ) (b : Bool) → eqb x y ≡ b → done base (change at x y) u ≡ (if b then u else written_at base at y u)
  unfolding done
  change-done base at x y u true e = rw e
  change-done base at x y u false e = rw e

  module _ (base at : ℕ) where
    word-done : at < base → at + 4 ≤ length t → done base (change at (word_at s at) (word_at t at)) (joined at) ≡ joined (at + 4)
    unfolding written_at
    word-done l h = change-done base at (word_at s at) (word_at t at) (joined at) (eqb (word_at s at) (word_at t at)) refl ∙ by-test (eqb (word_at s at) (word_at t at)) refl
      where
        by-test : (b : Bool) → eqb (word_at s at) (word_at t at) ≡ b → (if b then joined at else written_at base at (word_at t at) (joined at)) ≡ joined (at + 4)
        by-test true e =
            left at (omega arith) 4 (sym (bytes_back s small-s at (omega arith)) ∙ ap word_bytes (eqb-true (word_at s at) (word_at t at) e) ∙ bytes_back t small-t at h)
        by-test false e = rw (lt-ltb at base l, bytes_back t small-t at h) (wrote at (omega arith) 4)

    byte-part : (l : List ℕ) → at < length l → take 1 (drop at l) ≡ get_or l at 0 ∷ []
    byte-part l h = rw (drop-cons l at 0 h)

    byte-done : base ≤ at → at < length t → done base (change at (get_or s at 0) (get_or t at 0)) (joined at) ≡ joined (at + 1)
    unfolding written_at
    byte-done l h = change-done base at (get_or s at 0) (get_or t at 0) (joined at) (eqb (get_or s at 0) (get_or t at 0)) refl ∙ by-test (eqb (get_or s at 0) (get_or t at 0)) refl
      where
        by-test : (b : Bool) → eqb (get_or s at 0) (get_or t at 0) ≡ b → (if b then joined at else written_at base at (get_or t at 0) (joined at)) ≡ joined (at + 1)
        by-test true e =
            left at (omega arith) 1 (byte-part s (omega arith) ∙ ap (λ (x : ℕ). x ∷ []) (eqb-true (get_or s at 0) (get_or t at 0) e) ∙ sym (byte-part t h))
        by-test false e = rw (le-ltb at base l, ← byte-part t h) (wrote at (omega arith) 1)

  -- ---- all of them

  words-done : (base k : ℕ) → 4 * k ≤ base → base ≤ length t → done base (word_changes s t k) s ≡ joined (4 * k)
  unfolding word_changes done joined
  words-done base zero l h = refl
  words-done base (suc k) l h =
      let e : 4 * suc k ≡ 4 * k + 4 = omega arith in
      done-append base (word_changes s t k) (change (4 * k) (word_at s (4 * k)) (word_at t (4 * k))) s
      ∙ ap (done base (change (4 * k) (word_at s (4 * k)) (word_at t (4 * k)))) (words-done base k (omega arith) h)
      ∙ word-done base (4 * k) (omega arith) (omega arith)
      ∙ ap joined (sym e)

  bytes-done : (base j : ℕ) → base + j ≤ length t → done base (byte_changes s t base j) (joined base) ≡ joined (base + j)
  unfolding byte_changes done
  bytes-done base zero h = ap joined (sym (add-zero base))
  bytes-done base (suc j) h =
      let e : base + suc j ≡ base + j + 1 = omega arith in
      done-append base (byte_changes s t base j) (change (base + j) (get_or s (base + j) 0) (get_or t (base + j) 0)) (joined base)
      ∙ ap (done base (change (base + j) (get_or s (base + j) 0) (get_or t (base + j) 0))) (bytes-done base j (omega arith))
      ∙ byte-done base (base + j) (omega arith) (omega arith)
      ∙ ap joined (sym e)

  pub done-is : (c : Counts) → length t ≡ body_at c + c.bytes → done (body_at c) (changes s t c) s ≡ t
  unfolding changes joined
  done-is c long =
      let base = body_at c in
      let e : 4 * word_count c ≡ base = omega arith in
      let past : length s ≤ base + c.bytes = omega arith in
      let first : done base (word_changes s t (word_count c)) s ≡ joined base = words-done base (word_count c) (omega arith) (omega arith) ∙ ap joined e in
      done-append base (word_changes s t (word_count c)) (byte_changes s t base c.bytes) s
      ∙ ap (done base (byte_changes s t base c.bytes)) first
      ∙ bytes-done base c.bytes (omega arith)
      ∙ rw (take_all (base + c.bytes) t (omega arith), drop_of_length-le s past) (append-nil t)
