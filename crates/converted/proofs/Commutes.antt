-- Compacting and converting commute. Assumes nothing.
use mathlib.Core.Bool.{Bool, true, false, ◌&&◌}
use mathlib.Core.Path.{◌≡◌, refl, ap, sym, ◌∙◌}
use mathlib.Core.List.{List}
use Prim.Native.Nat.{ℕ, zero, suc, ◌+◌, ◌-◌, ◌*◌, ◌/◌, ◌%◌, ◌≤◌, ◌<◌}
use native.Mathlib.Omega.{arith}
use lib.Dec.{eqb, ltb}
use lib.ListN.{length, take, drop, get_or, set, length-set}
use lib.Seq.{get_or-take, get_or-drop, get_or-set_same, get_or-set_other, ext_get_or}
use borrow.Author.Tests.{eqb-true, eqb-false, ltb-true, ltb-false}
use Rattle.rules.specs.declared.Counts.{Counts}
use Rattle.std.specs.Prelude.{if◌then◌else◌}
use Rattle.rules.specs.Words.{place_at, tokens_at, body_at}
use Rattle.rules.specs.Compacted.{word_count, starts_place, covers, covered_by, kept_bytes, new_bytes, compacted}
use Rattle.word_bytes.proofs.WordLaws.{part-four}
use Rattle.records.specs.Sheeted.{Sheeted}
use Rattle.compacted.proofs.Bytes.{new-part, length-compacted, byte-new}
use Rattle.compacted.proofs.Moved.{long, head-stays}
use Rattle.compacted.proofs.Places.{starts-head, same-starts}
use Rattle.rules.specs.Answer.{is_withdrawn}
use Rattle.converted.specs.Converted.{converted}
use Rattle.converted.proofs.Laws.{Alike, word_after, place_after, set-alike, in-sheet}

module _ (s t : List ℕ) (a : Alike s t) (c : Counts) where
  same-starts-at : (at : ℕ) → starts_place t c at ≡ starts_place s c at
  same-starts-at = same-starts s t c c refl (λ i l. word_after s t a (tokens_at + 20 * i) (omega arith))

  -- a word of the head starts no place; behind it the places are the same
  same-cover : (k j : ℕ) → starts_place t c (4 * k) && covers (place_at t (4 * k)) j ≡ starts_place s c (4 * k) && covers (place_at s (4 * k)) j
  same-cover k j = rw (same-starts-at (4 * k)) (by-test (ltb (4 * k) 48) refl)
    where
      by-test : (b : Bool) → ltb (4 * k) 48 ≡ b → starts_place s c (4 * k) && covers (place_at t (4 * k)) j ≡ starts_place s c (4 * k) && covers (place_at s (4 * k)) j
      by-test true e = rw (starts-head s c (4 * k) (ltb-true _ _ e))
      by-test false e = rw (place_after s t a (4 * k) (omega (arith, ltb-false (4 * k) 48 e)))

  same-covered : (k j : ℕ) → covered_by t c k j ≡ covered_by s c k j
  unfolding covered_by
  same-covered zero j = refl
  same-covered (suc k) j = rw (same-covered k j, same-cover k j)

  same_kept : (j : ℕ) → kept_bytes t c j ≡ kept_bytes s c j
  unfolding kept_bytes
  same_kept zero = refl
  same_kept (suc j) = rw (same_kept j, same-covered (word_count c) j, a.others (body_at c + j) (λ e. omega arith))

  -- ---- the words of the new sheet

  -- a word of the head stays, but for word 3
  head-new : (at : ℕ) → at < 48 → take 4 (drop at t) ≡ take 4 (drop at s) → new_bytes t c at ≡ new_bytes s c at
  unfolding new_bytes
  head-new at l e = rw (same_kept c.bytes, starts-head t c at l, starts-head s c at l, e)

  table-new : (at : ℕ) → 28 < at → take 4 (drop at t) ≡ take 4 (drop at s) → new_bytes t c at ≡ new_bytes s c at
  unfolding new_bytes
  table-new at l e = rw (same_kept c.bytes, same-starts-at at, place_after s t a at l, same_kept (place_at s at).start, e)

  module _ (long : body_at c ≤ length s) where
    part_same : (at : ℕ) → at + 4 ≤ length s → ((i : ℕ) → i < 4 → at + i ≡ 28 → ⊥) → take 4 (drop at t) ≡ take 4 (drop at s)
    part_same at h n =
        let o = a.others in
        let z : at + 0 ≡ at = omega arith in
        sym (part-four t at (omega (arith, a.longs)))
        ∙ rw (o at (λ e. n 0 (omega arith) (omega arith)), o (at + 1) (n 1 (omega arith)), o (at + 2) (n 2 (omega arith)), o (at + 3) (n 3 (omega arith)))
        (part-four s at h)

    -- every word but word 7
    new-same : (at : ℕ) (b : Bool) → ltb at 28 ≡ b → at % 4 ≡ 0 → (at ≡ 28 → ⊥) → at < body_at c → new_bytes t c at ≡ new_bytes s c at
    new-same at true e m n h = let l = ltb-true at 28 e in head-new at (omega arith) (part_same at (omega arith) (λ i u z. omega arith))
    new-same at false e m n h = let l = ltb-false at 28 e in table-new at (omega arith) (part_same at (omega arith) (λ i u z. omega arith))

-- ---- the bytes of the new sheet

byte_of : (l : List ℕ) (i : ℕ) → get_or (take 4 (drop (4 * (i / 4)) l)) (i % 4) 0 ≡ get_or l i 0
byte_of l i =
    let e : 4 * (i / 4) + i % 4 ≡ i = omega arith in
    get_or-take 4 (drop (4 * (i / 4)) l) (i % 4) 0 (omega arith) ∙ rw e at (get_or-drop (4 * (i / 4)) l (i % 4) 0)

module _ (s : List ℕ) (c : Counts) (long : body_at c ≤ length s) where
  byte-new-at : (i : ℕ) → i < body_at c → get_or (compacted s c) i 0 ≡ get_or (new_bytes s c (4 * (i / 4))) (i % 4) 0
  byte-new-at i h = sym (byte_of (compacted s c) i) ∙ ap (λ (l : List ℕ). get_or l (i % 4) 0) (new-part s c long (4 * (i / 4)) (omega arith) (omega arith))

  seven_stays : new_bytes s c 28 ≡ take 4 (drop 28 s)
  unfolding new_bytes
  seven_stays = rw (starts-head s c 28 (omega arith))

  -- word 7 stays
  byte-seven : (i : ℕ) → i / 4 ≡ 7 → get_or (compacted s c) i 0 ≡ get_or s i 0
  byte-seven i e =
      let o : 4 * (i / 4) ≡ 28 = omega arith in
      byte-new-at i (omega arith) ∙ rw (o, seven_stays, ← o) (byte_of s i)

module _ (s t : List ℕ) (a : Alike s t) (c : Counts) (long : body_at c ≤ length s) where
  long-too : body_at c ≤ length t
  long-too = omega (arith, a.longs)

  before-bodies : (i : ℕ) (b : Bool) → eqb (i / 4) 7 ≡ b → i < body_at c → (i ≡ 28 → ⊥) → get_or (compacted t c) i 0 ≡ get_or (compacted s c) i 0
  before-bodies i true e h n =
      let o = eqb-true (i / 4) 7 e in
      byte-seven t c long-too i o ∙ a.others i n ∙ sym (byte-seven s c long i o)
  before-bodies i false e h n =
      let o = eqb-false (i / 4) 7 e in
      let at = 4 * (i / 4) in
      byte-new-at t c long-too i h
      ∙ ap (λ (l : List ℕ). get_or l (i % 4) 0) (new-same s t a c long at (ltb at 28) refl (omega arith) (λ z. o (omega arith)) (omega arith))
      ∙ sym (byte-new-at s c long i h)

  byte-by : (i : ℕ) (b : Bool) → ltb i (body_at c) ≡ b → (i ≡ 28 → ⊥) → get_or (compacted t c) i 0 ≡ get_or (compacted s c) i 0
  byte-by i true e n = before-bodies i (eqb (i / 4) 7) refl (ltb-true i (body_at c) e) n
  byte-by i false e n =
      let l = ltb-false i (body_at c) e in
      let o : body_at c + (i - body_at c) ≡ i = omega arith in
      let at_body : (u : List ℕ) → body_at c ≤ length u → get_or (compacted u c) i 0 ≡ get_or (kept_bytes u c c.bytes) (i - body_at c) 0 = λ u h. rw o at (byte-new u c h (i - body_at c)) in
      at_body t long-too ∙ rw (same_kept s t a c c.bytes) (sym (at_body s long))

  pub compacted-alike : Alike (compacted s c) (compacted t c)
  compacted-alike =
      record {
        others = λ i n. byte-by i (ltb i (body_at c)) refl n;
        longs = length-compacted t c long-too ∙ rw (same_kept s t a c c.bytes) (sym (length-compacted s c long));
      }

-- ---- a sheet that differs from another in byte 28 alone, where it has 2

set_so : (s t : List ℕ) → Alike s t → 28 < length s → get_or t 28 0 ≡ 2 → t ≡ set s 28 2
set_so s t a h e = ext_get_or 0 t (set s 28 2) (a.longs ∙ sym (length-set s 28 2)) (λ i l. by-test i (eqb i 28) refl)
  where
    by-test : (i : ℕ) (b : Bool) → eqb i 28 ≡ b → get_or t i 0 ≡ get_or (set s 28 2) i 0
    by-test i true z = rw (eqb-true i 28 z) (e ∙ sym (get_or-set_same s 28 2 0 h))
    by-test i false z = a.others i (eqb-false i 28 z) ∙ sym (get_or-set_other s 28 i 2 0 (eqb-false i 28 z))

module _ (s : List ℕ) (c : Counts) (h : Sheeted s c) where
  -- word 7 is withdrawn in both or in neither
  same_test : is_withdrawn (compacted s c) ≡ is_withdrawn s
  unfolding is_withdrawn
  same_test = rw (head-stays s c h 28 refl (omega arith) (λ e. omega arith))

  by-test : (b : Bool) → is_withdrawn s ≡ b → compacted (if b then set s 28 2 else s) c ≡ (if b then set (compacted s c) 28 2 else compacted s c)
  by-test true e =
      let t = set s 28 2 in
      let l = long s c h in
      set_so (compacted s c) (compacted t c) (compacted-alike s t (set-alike s) c l) (omega (arith, length-compacted s c l))
      (byte-seven t c (long-too s t (set-alike s) c l) 28 refl ∙ get_or-set_same s 28 2 0 (in-sheet s e))
  by-test false e = refl

  pub commute : compacted (converted s) c ≡ converted (compacted s c)
  unfolding converted
  commute = rw same_test (by-test (is_withdrawn s) refl)
