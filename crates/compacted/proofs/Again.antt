-- Every body byte of the new sheet is covered, so compacting gives it back.
use mathlib.Core.Bool.{Bool, true, false, ◌&&◌, ◌||◌}
use mathlib.Core.Path.{◌≡◌, refl, ◌∙◌}
use mathlib.Core.List.{List}
use Prim.Native.Nat.{ℕ, zero, suc, ◌+◌, ◌-◌, ◌*◌, ◌%◌, ◌≤◌, ◌<◌}
use native.Mathlib.Omega.{arith}
use lib.Dec.{eqb, leb, ltb}
use lib.Seq.{take-length}
use borrow.Author.Tests.{leb-true, ltb-true, le-leb, lt-ltb, ne_eqb}
use Rattle.rules.specs.declared.Counts.{Counts}
use Rattle.std.specs.Prelude.{if◌then◌else◌}
use Rattle.rules.specs.Words.{place_at, body_at}
use Rattle.rules.specs.Compacted.{word_count, starts_place, covers, covered_by, is_covered, kept_bytes, kept_before, new_start, new_bytes, moved_words, compacted}
use Rattle.checks.proofs.Passes.{and_left, and_right}
use Rattle.records.specs.Sheeted.{Sheeted}
use Rattle.compacted.proofs.Bytes.{new-part, length-compacted, body_new}
use Rattle.compacted.proofs.Places.{Start, start_is}
use Rattle.compacted.proofs.Kept.{kept-each, run_length, all-length, all-bytes}
use Rattle.compacted.proofs.Moved.{new_counts, long, starts-so, place_moves, bytes-covered, moved_in}

or_map : (a b a' b' : Bool) → (a ≡ true → a' ≡ true) → (b ≡ true → b' ≡ true) → a || b ≡ true → a' || b' ≡ true
or_map true b a' b' p q h = rw (p refl)
or_map false b true b' p q h = refl
or_map false b false b' p q h = q h

if-twice : (b : Bool) (x y : ℕ) → y ≡ (if b then 0 else x) → (if b then 0 else y) ≡ (if b then 0 else x)
if-twice true x y e = refl
if-twice false x y e = e

-- two sheets are compacted alike
same-compacted : (s t : List ℕ) (c k : Counts) → moved_words t k (word_count k) ≡ moved_words s c (word_count c) → kept_bytes t k k.bytes ≡ kept_bytes s c c.bytes → compacted t k ≡ compacted s c
unfolding compacted
same-compacted s t c k p q = rw (p, q)

module _ (s : List ℕ) (c : Counts) (h : Sheeted s c) where
  -- ---- what covers a byte covers it where it goes

  module _ (at j : ℕ) (st : Start s c at) (co : covers (place_at s at) j ≡ true) where
    covers-so : covers (place_at (compacted s c) at) (kept_before s c j) ≡ true
    covers-so =
        let p = place_at s at in
        let l = leb-true p.start j (and_left (leb p.start j) (ltb j (p.start + p.len)) co) in
        let u = ltb-true j (p.start + p.len) (and_right (leb p.start j) (ltb j (p.start + p.len)) co) in
        let o : p.start + (j - p.start) ≡ j = omega arith in
        let r = rw o at (run_length s c p.start (j - p.start) (λ i k. bytes-covered s c h at st i (omega arith))) in
        rw (place_moves s c h at st, ne_eqb p.len 0 (λ z. omega arith), le-leb (kept_before s c p.start) (kept_before s c j) (omega arith), lt-ltb (kept_before s c j) (kept_before s c p.start + p.len) (omega arith))

  covered-so : (n j : ℕ) → 4 * n ≤ body_at c → covered_by s c n j ≡ true → covered_by (compacted s c) (new_counts s c) n (kept_before s c j) ≡ true
  unfolding covered_by
  covered-so zero j l e = e
  covered-so (suc n) j l e =
      let t = compacted s c in
      let k = new_counts s c in
      let a = starts_place s c (4 * n) in
      let b = covers (place_at s (4 * n)) j in
      or_map (covered_by s c n j) (a && b) (covered_by t k n (kept_before s c j)) (starts_place t k (4 * n) && covers (place_at t (4 * n)) (kept_before s c j)) (covered-so n j (omega arith))
      (λ g.
      let st = and_left a b g in
      rw (starts-so s c h (4 * n), st, covers-so (4 * n) j (start_is s c (4 * n) (omega arith) st) (and_right a b g)))
      e

  pub all-covered : (m : ℕ) → m < kept_before s c c.bytes → is_covered (compacted s c) (new_counts s c) m ≡ true
  all-covered = kept-each s c (λ m. is_covered (compacted s c) (new_counts s c) m ≡ true) c.bytes (λ j l e. covered-so (word_count c) j (omega arith) e)

  -- ---- so all are kept where they are

  kept_at : (x : ℕ) → x ≤ kept_before s c c.bytes → kept_before (compacted s c) (new_counts s c) x ≡ x
  kept_at x l = all-length (compacted s c) (new_counts s c) x (λ m k. all-covered m (omega arith))

  kept_again : kept_bytes (compacted s c) (new_counts s c) (kept_before s c c.bytes) ≡ kept_bytes s c c.bytes
  kept_again =
      all-bytes (compacted s c) (new_counts s c) (kept_before s c c.bytes) all-covered (omega (arith, length-compacted s c (long s c h)))
      ∙ rw (body_new s c (long s c h) 0) (take-length (kept_bytes s c c.bytes))

  -- ---- and each word is written again

  start-again : (at : ℕ) → Start s c at → new_start (compacted s c) (new_counts s c) (place_at (compacted s c) at) ≡ new_start s c (place_at s at)
  start-again at st =
      let p = place_at s at in
      let x = new_start s c p in
      let k = kept_at x (omega (arith, moved_in s c h at st)) in
      rw (place_moves s c h at st) (if-twice (eqb p.len 0) (kept_before s c p.start) (kept_before (compacted s c) (new_counts s c) x) k)

  word-again : (at : ℕ) (a b : Bool) → eqb at 12 ≡ a → starts_place s c at ≡ b → at % 4 ≡ 0 → at < body_at c → new_bytes (compacted s c) (new_counts s c) at ≡ new_bytes s c at
  unfolding new_bytes
  word-again at true b ea eb m l = rw (ea, kept_again)
  word-again at false true ea eb m l = rw (ea, starts-so s c h at, eb, start-again at (start_is s c at l eb))
  word-again at false false ea eb m l = let p = new-part s c (long s c h) at m l in rw (ea, starts-so s c h at, eb) (rw (ea, eb) at p)

  words-again : (n : ℕ) → 4 * n ≤ body_at c → moved_words (compacted s c) (new_counts s c) n ≡ moved_words s c n
  unfolding moved_words
  words-again zero l = refl
  words-again (suc n) l = rw (words-again n (omega arith), word-again (4 * n) (eqb (4 * n) 12) (starts_place s c (4 * n)) refl refl (omega arith) (omega arith))

  pub compacted-again : compacted (compacted s c) (new_counts s c) ≡ compacted s c
  compacted-again = same-compacted s (compacted s c) c (new_counts s c) (words-again (word_count c) (omega arith)) kept_again
