-- Laws of `put`: the one place where lists are cut and joined. Assumes nothing.
use mathlib.Core.Path.{◌≡◌, sym, ap, ◌∙◌}
use mathlib.Core.List.{List, [], ◌∷◌, ◌++◌, append_assoc, append-nil}
use Prim.Native.Nat.{ℕ, zero, suc, ◌+◌, ◌-◌, ◌≤◌, ◌<◌}
use native.Mathlib.Nat.{add-zero}
use native.Mathlib.Omega.{arith}
use lib.ListN.{length, take, drop, set, get_or, replicate, length-append, length-take, length-drop, length-replicate, replicate-append-replicate, take-append-drop}
use lib.Seq.{length-take-le, take_at, drop_at, set_at, drop-cons, get_or-drop, take-take}
use Rattle.ascii.specs.Part.{part}
use Rattle.ascii.proofs.PartLaws.{length_part, part-suc, drop-take}
use Rattle.text.specs.Put.{put}

module _ (d : List ℕ) (at : ℕ) where
  pub put-nil : put d at [] ≡ d
  unfolding put
  put-nil = simp (add-zero, append-nil, take-append-drop)

  module _ (p : List ℕ) where
    head-length : at ≤ length d → length (take at d ++ p) ≡ at + length p
    head-length h = simp (length-append, length-take-le)

    pub length-put : at + length p ≤ length d → length (put d at p) ≡ length d
    unfolding put
    length-put h = simp (length-append, length-take, length-drop) (omega arith)

    pub take_put : at ≤ length d → take (at + length p) (put d at p) ≡ take at d ++ p
    unfolding put
    take_put h = take_at (take at d ++ p) (drop (at + length p) d) (at + length p) (head-length h)

    pub take-put-at : at ≤ length d → take at (put d at p) ≡ take at d
    unfolding put
    take-put-at k = rw append_assoc (take_at (take at d) (p ++ drop (at + length p) d) at (length-take-le at d k))

    pub drop-put-at : at ≤ length d → drop at (put d at p) ≡ p ++ drop (at + length p) d
    unfolding put
    drop-put-at k = rw append_assoc (drop_at (take at d) (p ++ drop (at + length p) d) at (length-take-le at d k))

    pub drop-put : at ≤ length d → drop (at + length p) (put d at p) ≡ drop (at + length p) d
    unfolding put
    drop-put h = drop_at (take at d ++ p) (drop (at + length p) d) (at + length p) (head-length h)

    -- a byte past what was written
    pub get_or-put : (k : ℕ) → at ≤ length d → get_or (put d at p) (at + length p + k) 0 ≡ get_or d (at + length p + k) 0
    get_or-put k h = sym (get_or-drop (at + length p) (put d at p) k 0) ∙ ap (λ (l : List ℕ). get_or l k 0) (drop-put h) ∙ get_or-drop (at + length p) d k 0

    -- one more byte
    pub put-snoc : (b : ℕ) → at + length p < length d → set (put d at p) (at + length p) b ≡ put d at (p ++ (b ∷ []))
    unfolding put
    put-snoc b h =
        let k : at ≤ length d = omega arith in
        let e : at + length (p ++ (b ∷ [])) ≡ suc (at + length p) = simp length-append (omega arith) in
        rw (e, drop-cons d (at + length p) 0)
        (set_at (take at d ++ p) _ _ b (at + length p) (head-length k) ∙ simp append_assoc)

module _ (d : List ℕ) (n : ℕ) (q : List ℕ) (w : n ≤ length d) where
  -- what stands before what was written
  pub part-put : (at k : ℕ) → at + k ≡ n → part (put d n q) at k ≡ part d at k
  part-put at k e =
      let j : n - at ≡ k = omega arith in
      rw j at (sym (drop-take at n (put d n q)) ∙ ap (drop at) (take-put-at d n q w) ∙ drop-take at n d)

  -- what is written just before it
  pub put-before : (at : ℕ) (p : List ℕ) → at + length p ≡ n → put (put d n q) at p ≡ put d at (p ++ q)
  unfolding put
  put-before at p e =
      let h : at ≤ n = omega arith in
      let t : take at (put d n q) ≡ take at d = sym (take-take at n (put d n q) h) ∙ ap (take at) (take-put-at d n q w) ∙ take-take at n d h in
      let l : at + length (p ++ q) ≡ n + length q = rw length-append (omega arith) in
      let s : drop (at + length p) (put d n q) ≡ q ++ drop (n + length q) d = rw e (drop-put-at d n q w) in
      rw (t, s, l) (sym (append_assoc (take at d ++ p) q (drop (n + length q) d)) ∙ ap (λ (v : List ℕ). v ++ drop (n + length q) d) (append_assoc (take at d) p q))

pub drop-replicate : (k n b : ℕ) → drop k (replicate n b) ≡ replicate (n - k) b
drop-replicate zero n b = let e : n - 0 ≡ n = omega arith in rw e
drop-replicate (suc k) zero b = let e : 0 - suc k ≡ 0 = omega arith in rw e
drop-replicate (suc k) (suc n) b = let e : suc n - suc k ≡ n - k = omega arith in rw e (drop-replicate k n b)

-- ---- the two loops, turn by turn

pub by-none : (d : List ℕ) (at : ℕ) → d ≡ put d at []
by-none d at = sym (put-nil d at)

pub by-fill : (d t : List ℕ) (at b n i : ℕ) → at + n ≤ length d → i < n → t ≡ put d at (replicate i b) → set t (at + i) b ≡ put d at (replicate (i + 1) b)
by-fill d t at b n i h k e =
    let l = length-replicate i b in
    let f = put-snoc d at (replicate i b) b (omega arith) in
    cc (replicate-append-replicate i 1 b)

pub by_copy : (d t s : List ℕ) (at start n i : ℕ) → at + n ≤ length d → start + n ≤ length s → i < n → t ≡ put d at (part s start i)
    → set t (at + i) (get_or s (start + i) 0) ≡ put d at (part s start (i + 1))
by_copy d t s at start n i h p k e =
    let l = length_part s start i (omega arith) in
    let f = put-snoc d at (part s start i) (get_or s (start + i) 0) (omega arith) in
    cc (part-suc s start i (omega arith))

module _ (d t : List ℕ) (at n i : ℕ) (h : i ≤ n) (k : n ≤ i) where
  pub by-filled : (b : ℕ) → t ≡ put d at (replicate i b) → t ≡ put d at (replicate n b)
  by-filled b e = let j : i ≡ n = omega arith in cc

  pub by-copied : (s : List ℕ) (start : ℕ) → t ≡ put d at (part s start i) → t ≡ put d at (part s start n)
  by-copied s start e = let j : i ≡ n = omega arith in cc
