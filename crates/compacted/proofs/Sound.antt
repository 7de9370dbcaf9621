-- The new sheet passes checks 1 to 4.
use mathlib.Core.Bool.{Bool, true, false, ◌&&◌}
use mathlib.Core.Path.{◌≡◌, refl, ap, sym, ◌∙◌}
use mathlib.Core.List.{List}
use Prim.Native.Nat.{ℕ, ◌+◌, ◌*◌, ◌%◌, ◌≤◌, ◌<◌}
use native.Mathlib.Omega.{arith}
use lib.Dec.{eqb, leb}
use lib.ListN.{get_or}
use borrow.Author.Tests.{eqb-true, eqb-false, eq-eqb, le-leb, lt-ltb}
use Rattle.rules.specs.declared.Counts.{Counts}
use Rattle.rules.specs.declared.Place.{Place}
use Rattle.std.specs.Prelude.{if◌then◌else◌, None, ℕ, Ok}
use Rattle.rules.specs.Words.{word_at, place_at, counts_of, class_bits, kind_bits, upper_bits, tokens_at, params_at, keeps_at, body_at}
use Rattle.rules.specs.Checks.{sizes, head_words, token_words, param_words, words, in_body, token_places, param_places, keep_places, places, body_byte, body_bytes, checked_as, checked}
use Rattle.rules.specs.Compacted.{kept_bytes, kept_before, compacted}
use Rattle.records.specs.Sheeted.{Sheeted}
use Rattle.checks.proofs.Passes.{none_first}
use Rattle.compacted.proofs.Bytes.{length-compacted, byte-new}
use Rattle.compacted.proofs.Places.{Start, of-value, of-name, of-record}
use Rattle.compacted.proofs.Kept.{kept-le, kept_byte, kept-each}
use Rattle.compacted.proofs.Moved.{new_counts, long, counts-so, head-stays, packed_stays, key-stays, last-stays, moved_in, place_moves}

-- ---- tests that hold, and what passes by them

both : (a b : Bool) → a ≡ true → b ≡ true → a && b ≡ true
both a b p q = rw (p, q)

if-fits : (x k : ℕ) (a b : Bool) → (x ≡ k → a ≡ true) → ((x ≡ k → ⊥) → b ≡ true) → (if eqb x k then a else b) ≡ true
if-fits x k a b p q = go (eqb x k) refl
  where
    go : (e : Bool) → eqb x k ≡ e → (if e then a else b) ≡ true
    go true e = p (eqb-true x k e)
    go false e = q (eqb-false x k e)

module _ (s : List ℕ) (c : Counts) (h : Sheeted s c) where
  -- ---- check 1

  sizes-pass : sizes (compacted s c) ≡ None
  sizes-pass =
      let few = h.few in
      let b : kept_before s c c.bytes ≤ 32768 = omega (arith, kept-le s c c.bytes) in
      rw (
        counts-so s c h,
        length-compacted s c (long s c h),
        le-leb 48 (body_at c + kept_before s c c.bytes) (omega arith),
        le-leb c.tokens 1024 few.tokens,
        le-leb c.params 256 few.params,
        le-leb c.keeps 64 few.keeps,
        le-leb (kept_before s c c.bytes) 32768 b,
        eq-eqb (body_at c + kept_before s c c.bytes) (body_at c + kept_before s c c.bytes) refl,
      )

  -- ---- check 2

  head-pass : head_words (compacted s c) ≡ None
  unfolding head_words counts_of
  head-pass =
      let o = h.options in
      let stays : (at : ℕ) → at % 4 ≡ 0 → at < 48 → (at ≡ 12 → ⊥) → word_at (compacted s c) at ≡ word_at s at = head-stays s c h in
      let params : c.params ≡ word_at s 4 = ap (λ (k : Counts). k.params) h.counted in
      let none : word_at s 16 ≡ 0 → eqb (word_at s 4) 0 ≡ true = λ z. eq-eqb (word_at s 4) 0 (sym params ∙ h.mode.none_has z) in
      let mode = if-fits (word_at s 16) 0 (eqb (word_at s 4) 0) (leb (word_at s 16) 2) none (λ z. le-leb (word_at s 16) 2 h.mode.mode) in
      rw (
        stays 16 refl (omega arith) (λ e. omega arith),
        stays 4 refl (omega arith) (λ e. omega arith),
        stays 20 refl (omega arith) (λ e. omega arith),
        stays 24 refl (omega arith) (λ e. omega arith),
        stays 28 refl (omega arith) (λ e. omega arith),
        stays 32 refl (omega arith) (λ e. omega arith),
        mode,
        le-leb (word_at s 20) 256 o.indent,
        le-leb (word_at s 24) 2 o.casing,
        le-leb (word_at s 28) 2 o.inline,
        le-leb (word_at s 32) 255 o.lines,
      )

  module _ (i : ℕ) (l : i < c.tokens) where
    token-words-pass : token_words (compacted s c) (tokens_at + 20 * i) ≡ None
    unfolding token_words
    token-words-pass =
        let at = tokens_at + 20 * i in
        let w = h.words i l in
        let t = compacted s c in
        let class = class_bits (word_at s at) in
        rw (
          packed_stays s c h i l,
          last-stays s c h i l,
          both (leb (kind_bits (word_at s at)) 16) (eqb (upper_bits (word_at s at)) 0) (le-leb _ _ w.kind) (eq-eqb _ _ w.upper),
          if-fits class 0 (eqb (word_at t (at + 12)) 0) true (λ z. eq-eqb (word_at t (at + 12)) 0 (key-stays s c h i l (λ o. omega arith) ∙ w.absent z)) (λ z. refl),
          if-fits class 1 true (eqb (word_at s (at + 16)) 0) (λ z. refl) (λ z. eq-eqb (word_at s (at + 16)) 0 (w.unnamed z)),
        )

  -- a name where the mode has none
  nameless-so : (i : ℕ) → i < c.params → (word_at s 16 ≡ 2 → ⊥) → place_at (compacted s c) (params_at c + 16 * i) ≡ record { start = 0; len = 0 }
  nameless-so i l n = place_moves s c h (params_at c + 16 * i) (of-record (2 * i) (omega arith) (omega arith)) ∙ rw ((h.params.within i l).nameless n)

  param-words-pass : (i : ℕ) → i < c.params → param_words (compacted s c) (params_at c + 16 * i) ≡ None
  unfolding param_words place_at
  param-words-pass i l =
      let at = params_at c + 16 * i in
      let t = compacted s c in
      rw (
        head-stays s c h 16 refl (omega arith) (λ e. omega arith),
        if-fits (word_at s 16) 2 true (eqb (word_at t at) 0) (λ z. refl) (λ z. eq-eqb (word_at t at) 0 (ap (λ (p : Place). p.start) (nameless-so i l z))),
        if-fits (word_at s 16) 2 true (eqb (word_at t (at + 4)) 0) (λ z. refl) (λ z. eq-eqb (word_at t (at + 4)) 0 (ap (λ (p : Place). p.len) (nameless-so i l z))),
      )

  words_pass : words (compacted s c) (new_counts s c) ≡ None
  words_pass =
      rw (head-pass, none_first (token_words (compacted s c)) 20 tokens_at c.tokens token-words-pass)
      (none_first (param_words (compacted s c)) 16 (params_at c) c.params param-words-pass)

  -- ---- check 3

  place_pass : (at : ℕ) → Start s c at → in_body (place_at (compacted s c) at) (kept_before s c c.bytes) ≡ true
  place_pass at st = rw (place_moves s c h at st) (le-leb _ _ (moved_in s c h at st))

  token-places-pass : (i : ℕ) → i < c.tokens → token_places (compacted s c) (kept_before s c c.bytes) (tokens_at + 20 * i) ≡ None
  unfolding token_places
  token-places-pass i l =
      let at = tokens_at + 20 * i in
      let key = in_body (place_at (compacted s c) (at + 12)) (kept_before s c c.bytes) in
      rw (place_pass (at + 4) (of-value i l refl), packed_stays s c h i l, if-fits (class_bits (word_at s at)) 1 key true (λ e. place_pass (at + 12) (of-name i l refl e)) (λ e. refl))

  record-pass : (m at : ℕ) → m < 2 * c.params + c.keeps → at ≡ params_at c + 8 * m → in_body (place_at (compacted s c) at) (kept_before s c c.bytes) ≡ true
  record-pass m at l e = place_pass at (of-record m l e)

  param-places-pass : (i : ℕ) → i < c.params → param_places (compacted s c) (kept_before s c c.bytes) (params_at c + 16 * i) ≡ None
  unfolding param_places
  param-places-pass i l =
      let at = params_at c + 16 * i in
      rw (record-pass (2 * i) at (omega arith) (omega arith), record-pass (2 * i + 1) (at + 8) (omega arith) (omega arith))

  keep-places-pass : (i : ℕ) → i < c.keeps → keep_places (compacted s c) (kept_before s c c.bytes) (keeps_at c + 8 * i) ≡ None
  unfolding keep_places
  keep-places-pass i l = rw (record-pass (2 * c.params + i) (keeps_at c + 8 * i) (omega arith) (omega arith))

  places_pass : places (compacted s c) (new_counts s c) ≡ None
  places_pass =
      let t = compacted s c in
      let k = kept_before s c c.bytes in
      rw (none_first (token_places t k) 20 tokens_at c.tokens token-places-pass, none_first (param_places t k) 16 (params_at c) c.params param-places-pass)
      (none_first (keep_places t k) 8 (keeps_at c) c.keeps keep-places-pass)

  -- ---- check 4

  kept-ascii : (m : ℕ) → m < kept_before s c c.bytes → get_or (kept_bytes s c c.bytes) m 0 < 128
  kept-ascii = kept-each s c (λ m. get_or (kept_bytes s c c.bytes) m 0 < 128) c.bytes (λ j l e. rw (kept_byte s c j c.bytes l e) (h.ascii j l))

  byte-pass : (j : ℕ) → j < kept_before s c c.bytes → body_byte (compacted s c) (body_at c + 1 * j) ≡ None
  unfolding body_byte
  byte-pass j l =
      let o : body_at c + 1 * j ≡ body_at c + j = omega arith in
      rw (o, byte-new s c (long s c h) j, lt-ltb (get_or (kept_bytes s c c.bytes) j 0) 128 (kept-ascii j l))

  bytes_pass : body_bytes (compacted s c) (new_counts s c) ≡ None
  bytes_pass = none_first (body_byte (compacted s c)) 1 (body_at c) (kept_before s c c.bytes) byte-pass

  -- ---- all

  checked-so : checked_as (compacted s c) (new_counts s c) ≡ Ok (new_counts s c)
  unfolding checked_as
  checked-so = rw (words_pass, places_pass, bytes_pass)

  pub new-sound : checked (compacted s c) ≡ Ok (new_counts s c)
  unfolding checked
  new-sound = rw (sizes-pass, counts-so s c h) checked-so
