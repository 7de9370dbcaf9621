-- What each word and each place of a sound sheet is in the new sheet.
use mathlib.Core.Bool.{Bool, true, false}
use mathlib.Core.Path.{◌≡◌, refl, ◌∙◌}
use mathlib.Core.List.{List}
use Prim.Native.Nat.{ℕ, zero, suc, ◌+◌, ◌-◌, ◌*◌, ◌/◌, ◌%◌, ◌≤◌, ◌<◌}
use native.Mathlib.Omega.{arith}
use lib.Dec.{eqb, ltb}
use lib.ListN.{length, take, drop}
use borrow.Author.Tests.{eqb-true, ne_eqb, ltb-true, ltb-false, eqb-false}
use Rattle.rules.specs.declared.Counts.{Counts}
use Rattle.std.specs.Prelude.{if◌then◌else◌}
use Rattle.rules.specs.Words.{word_at, place_at, class_bits, key_of, token_from, counts_of, tokens_at, params_at, keeps_at, body_at}
use Rattle.rules.specs.Sheet.{body_part}
use Rattle.rules.specs.Compacted.{starts_in_token, starts_place, is_covered, kept_bytes, kept_before, new_start, compacted}
use Rattle.tokens.specs.Placed.{Inside}
use Rattle.records.specs.Sheeted.{Sheeted}
use Rattle.compacted.proofs.Bytes.{word-three, word-stays, word-moves, body_new}
use Rattle.compacted.proofs.Places.{Start, of-value, of-name, of-record, starts-head, starts-token, starts, len-stays, start-bounds, same-starts}
use Rattle.compacted.proofs.Kept.{place_covered, kept-le, kept-grows, start-le, run_length, run-part}

abbrev pub new_counts : List ℕ → Counts → Counts
new_counts s c = record { tokens = c.tokens; params = c.params; keeps = c.keeps; bytes = kept_before s c c.bytes }

odd : (r : ℕ) → r < 2 → (r ≡ 0 → ⊥) → r ≡ 1
odd zero l n = absurd (n refl)
odd (suc r) l n = omega arith

module _ (s : List ℕ) (c : Counts) (h : Sheeted s c) where
  pub long : body_at c ≤ length s
  long = omega (arith, h.long)

  -- ---- words that stay

  pub head-stays : (at : ℕ) → at % 4 ≡ 0 → at < 48 → (at ≡ 12 → ⊥) → word_at (compacted s c) at ≡ word_at s at
  head-stays at m l o = word-stays s c long at m (omega arith) o (starts-head s c at l)

  module _ (i : ℕ) (l : i < c.tokens) where
    token-stays : (at r : ℕ) → at ≡ tokens_at + 20 * i + r → r % 4 ≡ 0 → r < 20 → starts_in_token s at r ≡ false → word_at (compacted s c) at ≡ word_at s at
    token-stays at r e m k f = word-stays s c long at (omega arith) (omega arith) (λ o. omega arith) (starts-token s c at i r l e k ∙ f)

    pub packed_stays : word_at (compacted s c) (tokens_at + 20 * i) ≡ word_at s (tokens_at + 20 * i)
    packed_stays = token-stays (tokens_at + 20 * i) 0 (omega arith) refl (omega arith) refl

    pub key-stays : (class_bits (word_at s (tokens_at + 20 * i)) ≡ 1 → ⊥) → word_at (compacted s c) (tokens_at + 20 * i + 12) ≡ word_at s (tokens_at + 20 * i + 12)
    key-stays n =
        let o : tokens_at + 20 * i + 12 - 12 ≡ tokens_at + 20 * i = omega arith in
        token-stays (tokens_at + 20 * i + 12) 12 refl refl (omega arith) (rw o (ne_eqb (class_bits (word_at s (tokens_at + 20 * i))) 1 n))

    pub last-stays : word_at (compacted s c) (tokens_at + 20 * i + 16) ≡ word_at s (tokens_at + 20 * i + 16)
    last-stays = token-stays (tokens_at + 20 * i + 16) 16 refl refl (omega arith) refl

  pub starts-so : (at : ℕ) → starts_place (compacted s c) (new_counts s c) at ≡ starts_place s c at
  starts-so at = same-starts s (compacted s c) c (new_counts s c) refl packed_stays at

  pub counts-so : counts_of (compacted s c) ≡ new_counts s c
  unfolding counts_of
  counts-so =
      let few = h.few.bytes in
      let stays : (at : ℕ) → at % 4 ≡ 0 → at < 12 → word_at (compacted s c) at ≡ word_at s at = λ at m l. head-stays at m (omega arith) (λ o. omega arith) in
      cc (h.counted, stays 0 refl (omega arith), stays 4 refl (omega arith), stays 8 refl (omega arith), word-three s c long (omega (arith, kept-le s c c.bytes)))

  -- ---- places

  record-inside : (m : ℕ) (a b : Bool) → ltb m (2 * c.params) ≡ a → eqb (m % 2) 0 ≡ b → m < 2 * c.params + c.keeps → Inside s (body_at c) (place_at s (params_at c + 8 * m))
  record-inside m true true ea eb l =
      let u = ltb-true m (2 * c.params) ea in
      let z = eqb-true (m % 2) 0 eb in
      let o : params_at c + 16 * (m / 2) ≡ params_at c + 8 * m = omega arith in
      rw o at (h.params.within (m / 2) (omega arith)).name_in
  record-inside m true false ea eb l =
      let u = ltb-true m (2 * c.params) ea in
      let z : m % 2 ≡ 1 = odd (m % 2) (omega arith) (eqb-false (m % 2) 0 eb) in
      let o : params_at c + 16 * (m / 2) + 8 ≡ params_at c + 8 * m = omega arith in
      rw o at (h.params.within (m / 2) (omega arith)).value_in
  record-inside m false b ea eb l =
      let u = ltb-false m (2 * c.params) ea in
      let o : keeps_at c + 8 * (m - 2 * c.params) ≡ params_at c + 8 * m = omega arith in
      rw o at (h.keeps.within (m - 2 * c.params) (omega arith)).place_in

  pub inside : (at : ℕ) → Start s c at → Inside s (body_at c) (place_at s at)
  unfolding token_from key_of place_at
  inside at (of-value i l e) = rw e (h.tokens.within i l).value_in
  inside at (of-name i l e n) =
      let o : tokens_at + 20 * i + 12 + 4 ≡ tokens_at + 20 * i + 16 = omega arith in
      rw e ((h.tokens.within i l).name_in (place_at s (tokens_at + 20 * i + 12)) (rw (n, o)))
  inside at (of-record m l e) = rw e (record-inside m (ltb m (2 * c.params)) (eqb (m % 2) 0) refl refl l)

  module _ (at : ℕ) (st : Start s c at) where
    in_bytes : (place_at s at).start + (place_at s at).len ≤ c.bytes
    in_bytes = omega (arith, (inside at st).inside, h.long)

    pub place_moves : place_at (compacted s c) at ≡ record { start = new_start s c (place_at s at); len = (place_at s at).len }
    unfolding place_at
    place_moves =
        let b = start-bounds s c at st in
        let few = h.few.bytes in
        rw (
          word-moves s c long at b.whole (omega arith) (λ o. omega arith) (starts s c at st) (omega (arith, start-le s c (place_at s at), in_bytes)),
          word-stays s c long (at + 4) (omega arith) (omega arith) (λ o. omega arith) (len-stays s c at st),
        )

    pub bytes-covered : (i : ℕ) → i < (place_at s at).len → is_covered s c ((place_at s at).start + i) ≡ true
    bytes-covered i l = let b = start-bounds s c at st in place_covered s c at i b.whole (omega arith) (starts s c at st) l

    moved_by : (b : Bool) → eqb (place_at s at).len 0 ≡ b → (if b then 0 else kept_before s c (place_at s at).start) + (place_at s at).len ≤ kept_before s c c.bytes
    moved_by true e = omega (arith, eqb-true (place_at s at).len 0 e)
    moved_by false e =
        let p = place_at s at in
        omega (arith, run_length s c p.start p.len bytes-covered, kept-grows s c (p.start + p.len) c.bytes in_bytes)

    pub moved_in : new_start s c (place_at s at) + (place_at s at).len ≤ kept_before s c c.bytes
    moved_in = moved_by (eqb (place_at s at).len 0) refl

    part_by : (b : Bool) → eqb (place_at s at).len 0 ≡ b → take (place_at s at).len (drop (if b then 0 else kept_before s c (place_at s at).start) (kept_bytes s c c.bytes)) ≡ take (place_at s at).len (drop (body_at c + (place_at s at).start) s)
    part_by true e = rw (eqb-true (place_at s at).len 0 e)
    part_by false e = run-part s c (place_at s at).start (place_at s at).len c.bytes bytes-covered in_bytes (omega (arith, h.long))

    pub part-moves : body_part (compacted s c) (body_at c) (place_at (compacted s c) at) ≡ body_part s (body_at c) (place_at s at)
    unfolding body_part
    part-moves = rw (place_moves, body_new s c long (new_start s c (place_at s at))) (part_by (eqb (place_at s at).len 0) refl)
