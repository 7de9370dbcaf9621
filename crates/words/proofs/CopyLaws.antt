-- Laws of a reserved word that is written straight to the text. Assumes nothing.
use mathlib.Core.Path.{◌≡◌, refl, sym, ap, ◌∙◌}
use mathlib.Core.Bool.{Bool, true, false}
use mathlib.Core.List.{List, [], ◌∷◌, ◌++◌, append_assoc, append-nil}
use Prim.Native.Nat.{ℕ, ◌+◌, ◌-◌, ◌≤◌, ◌<◌}
use native.Mathlib.Nat.{add-zero}
use native.Mathlib.Omega.{arith}
use lib.Dec.{ltb}
use lib.ListN.{length, set, get_or, length-append}
use lib.Seq.{drop-drop}
use Rattle.rules.specs.declared.Case.{Case}
use Rattle.rules.specs.Text.{is_white, byte_in_case, in_case}
use Rattle.ascii.specs.Part.{part}
use Rattle.ascii.proofs.PartLaws.{part-cons}
use Rattle.text.specs.Put.{put}
use Rattle.text.proofs.PutLaws.{put-nil, put-snoc, take_put, drop-put, by-none}
use Rattle.words.specs.declared.Joined.{Joined}
use Rattle.words.specs.Words.{Written, spaced, piece, gap_after, fresh, piece_at, Joins, all_white}
use Rattle.words.proofs.CaseLaws.{case_white, cased-more}
use Rattle.words.proofs.JoinLaws.{piece-black, gap-black, piece-more, white-piece, white-gap, black-piece, black-gap}

-- ---- a byte with its gap

put_one : (d : List ℕ) (at b : ℕ) → at < length d → set d at b ≡ put d at (b ∷ [])
put_one d at b h =
    let s = put-snoc d at [] b (omega arith) in
    cc (put-nil d at, add-zero at)

module _ (d : List ℕ) (at : ℕ) (gap : Bool) (b : ℕ) (h : at + length (spaced gap b) ≤ length d) where
  pub by-gap : gap ≡ true → Written d at (spaced gap b) (set (set d at 32) (at + 1) b) (at + 2)
  by-gap e =
      let l : at + 2 ≤ length d = rw e at h in
      let f = ap (λ (t : List ℕ). set t (at + 1) b) (put_one d at 32 (omega arith)) in
      rw e (record { bytes = f ∙ put-snoc d at (32 ∷ []) b (omega arith); ends = refl })

  pub by-no-gap : gap ≡ false → Written d at (spaced gap b) (set d at b) (at + 1)
  by-no-gap e =
      let l : at + 1 ≤ length d = rw e at h in
      rw e (record { bytes = put_one d at b (omega arith); ends = refl })

-- ---- one part after another

-- one list written behind another
put-put : (d : List ℕ) (at : ℕ) (p q : List ℕ) → at ≤ length d → put (put d at p) (at + length p) q ≡ put d at (p ++ q)
unfolding put
put-put d at p q h =
    let e : at + length (p ++ q) ≡ at + length p + length q = simp length-append (omega arith) in
    rw (take_put d at p h, ← drop-drop (length q) (at + length p) (put d at p), drop-put d at p h, drop-drop, e) (simp append_assoc)

abbrev pub so_far : ℕ → Bool → Joined
so_far end gap = record { end = end; gap = gap }

-- a word is not longer for less of it
shorter : (at : ℕ) (j : Joined) (v w : List ℕ) → at ≤ j.end → length (piece_at at j v) ≤ length (piece_at at j (v ++ w))
shorter at j v w h =
    let e = ap length (piece-more at w j.end j.gap v h).0 ∙ length-append (piece_at at j v) _ in
    omega arith

module _ (at : ℕ) (d : List ℕ) (j : Joined) (v t : List ℕ) (k : Joined) (h : at ≤ j.end) (p : Joins at d j v t k) (w : List ℕ) where
  next : piece_at at j (v ++ w) ≡ piece_at at j v ++ piece_at at k w
  next = rw (p.wrote.ends, p.gap) (piece-more at w j.end j.gap v h).0

  longer : length (piece_at at j (v ++ w)) ≡ length (piece_at at j v) + length (piece_at at k w)
  longer = ap length next ∙ length-append (piece_at at j v) (piece_at at k w)

  joins-more : (t' : List ℕ) (l : Joined) → j.end ≤ length d → Joins at t k w t' l → Joins at d j (v ++ w) t' l
  joins-more t' l r q =
      let e = p.wrote.ends in
      let f = q.wrote.ends in
      let m = longer in
      let b : t' ≡ put (put d j.end (piece_at at j v)) (j.end + length (piece_at at j v)) (piece_at at k w) =
      q.wrote.bytes ∙ rw (p.wrote.bytes, e) in
      record {
        wrote = record { bytes = b ∙ put-put d j.end (piece_at at j v) (piece_at at k w) r ∙ ap (put d j.end) (sym next); ends = omega arith };
        gap = q.gap ∙ sym ((piece-more at w j.end j.gap v h).1 ∙ rw (p.wrote.ends, p.gap));
      }

-- ---- what a part writes

module _ (at : ℕ) (t : List ℕ) (j : Joined) (v : List ℕ) where
  pub joins-white : all_white true v ≡ true → 1 ≤ length v → Joins at t j v t (so_far j.end (ltb at j.end))
  joins-white h l =
      let e = white-piece (ltb at j.end) j.gap v h in
      record {
        wrote = record { bytes = by-none t j.end ∙ ap (put t j.end) (sym e); ends = let n = ap length e in omega arith };
        gap = sym (white-gap (ltb at j.end) j.gap v h l);
      }

  pub joins-black : all_white false v ≡ true → j.gap ≡ false → (t' : List ℕ) → t' ≡ put t j.end v → Joins at t j v t' (so_far (j.end + length v) false)
  joins-black h g t' q =
      let e : piece_at at j v ≡ v = ap (λ (b : Bool). piece (ltb at j.end) b v) g ∙ black-piece (ltb at j.end) v h in
      record {
        wrote = record { bytes = q ∙ ap (put t j.end) (sym e); ends = let n = ap length e in omega arith };
        gap = sym (ap (λ (b : Bool). gap_after (ltb at j.end) b v) g ∙ black-gap (ltb at j.end) v h);
      }

-- ---- the loops: i bytes of n are joined

pub by-none-joined : (at : ℕ) (d : List ℕ) (j : Joined) (s : List ℕ) (start : ℕ) (c : Case) → Joins at d j (in_case c (part s start 0)) d j
by-none-joined at d j s start c = record { wrote = record { bytes = by-none d j.end; ends = omega arith }; gap = refl }

pub by-from : (at : ℕ) (d v t : List ℕ) (k : Joined) → Joins at d (fresh at) v t k → at ≤ k.end
by-from at d v t k p = let e = p.wrote.ends in omega arith

pub by-all-joined : (at : ℕ) (d : List ℕ) (j : Joined) (s : List ℕ) (start n i : ℕ) (c : Case) (t : List ℕ) (k : Joined) → i ≤ n → n ≤ i
    → Joins at d j (in_case c (part s start i)) t k → Joins at d j (in_case c (part s start n)) t k
by-all-joined at d j s start n i c t k h g p = let e : i ≡ n = omega arith in rw e at p

module _ (at : ℕ) (d : List ℕ) (j : Joined) (s : List ℕ) (start n : ℕ) (c : Case) (h : at ≤ j.end)
    (r : j.end + length (piece_at at j (in_case c (part s start n))) ≤ length d) where
  pub by-part-room : (i : ℕ) → i ≤ n → j.end + length (piece_at at j (in_case c (part s start i))) ≤ length d
  by-part-room i b =
      let m : n ≡ i + (n - i) = omega arith in
      let e = ap (λ (o : ℕ). length (piece_at at j (in_case c (part s start o)))) m ∙ ap (λ (v : List ℕ). length (piece_at at j v)) (cased-more c s start i (n - i)) in
      let l = shorter at j (in_case c (part s start i)) (in_case c (part s (start + i) (n - i))) h in
      omega arith

  module _ (i : ℕ) (t : List ℕ) (end : ℕ) (gap : Bool) (p : Joins at d j (in_case c (part s start i)) t (so_far end gap)) where
    pub by-more : (m : ℕ) (t' : List ℕ) (l : Joined) → Joins at t (so_far end gap) (in_case c (part s (start + i) m)) t' l → Joins at d j (in_case c (part s start (i + m))) t' l
    by-more m t' l q = rw (cased-more c s start i m) (joins-more at d j (in_case c (part s start i)) t (so_far end gap) h p (in_case c (part s (start + i) m)) t' l (omega arith) q)

    pub by-room : (m : ℕ) → i + m ≤ n → length t ≡ length d → end + length (piece_at at (so_far end gap) (in_case c (part s (start + i) m))) ≤ length t
    by-room m b e =
        let l = by-part-room (i + m) b in
        let f = ap (λ (v : List ℕ). length (piece_at at j v)) (cased-more c s start i m) ∙ longer at d j (in_case c (part s start i)) t (so_far end gap) h p (in_case c (part s (start + i) m)) in
        let g = p.wrote.ends in
        omega arith

    -- a byte
    module _ (b : Bool) (o : start + n ≤ length s) (a : i < n) (f : b ≡ is_white (get_or s (start + i) 0)) where
      one : in_case c (part s (start + i) 1) ≡ byte_in_case c (get_or s (start + i) 0) ∷ []
      one = ap (in_case c) (part-cons s (start + i) 0 (omega arith))

      white : (w : Bool) → b ≡ w → is_white (byte_in_case c (get_or s (start + i) 0)) ≡ w
      white w e = case_white c (get_or s (start + i) 0) ∙ sym f ∙ e

      pub by-white : b ≡ true → Joins at d j (in_case c (part s start (i + 1))) t (so_far end (ltb at end))
      by-white e = by-more 1 t _ (rw one (joins-white at t (so_far end gap) (byte_in_case c (get_or s (start + i) 0) ∷ []) (rw (white true e)) (omega arith)))

      module _ (y : ℕ) (e : b ≡ false) (g : y ≡ byte_in_case c (get_or s (start + i) 0)) where
        black : piece_at at (so_far end gap) (in_case c (part s (start + i) 1)) ≡ spaced gap y
        black =
            ap (piece_at at (so_far end gap)) one ∙ piece-black (ltb at end) gap (byte_in_case c (get_or s (start + i) 0)) [] (white false e) ∙ rw g (append-nil (spaced gap (byte_in_case c (get_or s (start + i) 0))))

        pub by-byte-room : length t ≡ length d → end + length (spaced gap y) ≤ length t
        by-byte-room q = let l = by-room 1 (omega arith) q in let m = ap length black in omega arith

        pub by-black : (t' : List ℕ) (end' : ℕ) → Written t end (spaced gap y) t' end' → Joins at d j (in_case c (part s start (i + 1))) t' (so_far end' false)
        by-black t' end' q =
            by-more 1 t' _ (record {
              wrote = rw black q;
              gap = sym (ap (gap_after (ltb at end) gap) one ∙ gap-black (ltb at end) gap (byte_in_case c (get_or s (start + i) 0)) [] (white false e));
            })
