-- Laws of `clip`, `add` and `trim`, over plain variables. Assumes nothing.
use mathlib.Core.Path.{◌≡◌, refl, sym, ap, ◌∙◌}
use mathlib.Core.Bool.{Bool, true, false}
use Rattle.std.specs.Prelude.{None, Some, if◌then◌else◌}
use mathlib.Core.List.{List, [], ◌∷◌, ◌++◌, map, append_assoc}
use Prim.Native.Nat.{ℕ, suc, ◌+◌, ◌-◌, ◌*◌, ◌≤◌, ◌<◌, min}
use native.Mathlib.Omega.{arith}
use lib.Dec.{eqb}
use lib.ListN.{length, set, replicate, length-append}
use lib.Seq.{set_at}
use borrow.Author.Tests.{eqb-true}
use Rattle.rules.specs.Base.{◌▹◌}
use Rattle.rules.specs.Rows.{Row, between, clip, shift, entry_word, row_words, rows_words}
use Rattle.rows.specs.declared.Span.{Span}
use Rattle.rows.specs.Listing.{start_at, len_at, with_span, entry_of, row_of, row_at, rows_in, listing, InOrder, Words, Listed}
use Rattle.rows.proofs.ReadLaws.{length-rows, length-in}
use Rattle.rows.proofs.Order.{order-before, clip-same, clips_same}
use Rattle.rows.proofs.WalkLaws.{set-append-add, moved, span-put, due, Left, walk_begins, one_more, start_is, len_is, walk-on}

-- ---- clip

module _ (d₀ : List ℕ) (count low : ℕ) where
  pub record Clipping (d : List ℕ) (i : ℕ) : Type 0 where
    pub left : Left (clip low) d₀ count d i
    pub order : InOrder (rows_in i d₀)

  pub clip_begins : Listed d₀ count → Clipping d₀ count
  clip_begins l = record { left = walk_begins (clip low) d₀ count l.listed; order = l.order }

  -- the rows that are left are as they shall be
  done : (d : List ℕ) (i : ℕ) → Left (clip low) d₀ count d i → map (clip low) (rows_in i d₀) ≡ rows_in i d₀ → d ≡ due (clip low) d₀ count
  done d i l m = l.here ∙ sym (l.whole ∙ ap (λ (rs : List Row). rows_words rs ++ l.rest) m)

  module _ (d : List ℕ) (i at : ℕ) (c : Clipping d i) (h : 0 < i) (ea : at ≡ 5 * (i - 1)) (s : Span) (es : s.start ≡ start_at d at) (el : s.len ≡ len_at d at) where
    abbrev here : Row
    here = row_at d₀ (5 * (i - 1))

    start-here : s.start ≡ here.start
    start-here = es ∙ start_is (clip low) d₀ count d i at c.left h ea

    len-here : s.len ≡ here.len
    len-here = el ∙ len_is (clip low) d₀ count d i at c.left h ea

    in_order : InOrder (here ∷ rows_in (i - 1) d₀)
    in_order = rw (one_more (clip low) d₀ count d i at c.left h ea) at c.order

    -- those before a row that starts at or below end there
    before_same : s.start ≤ low → map (clip low) (rows_in (i - 1) d₀) ≡ rows_in (i - 1) d₀
    unfolding InOrder
    before_same e = let x = start-here in clips_same low here.start (rows_in (i - 1) d₀) in_order (omega arith)

    pub clip_stops : s.start ≤ low → s.len ≤ low - s.start → d ≡ due (clip low) d₀ count
    clip_stops b e =
        let x = start-here in
        let y = len-here in
        let k : here.start + here.len ≤ low = omega arith in
        let o = one_more (clip low) d₀ count d i at c.left h ea in
        let m : map (clip low) (here ∷ rows_in (i - 1) d₀) ≡ here ∷ rows_in (i - 1) d₀ = rw (clip-same low here k, before_same b) in
        done d i c.left (ap (map (clip low)) o ∙ m ∙ sym o)

    clipped : (start : ℕ) → low < s.start + s.len → start ≡ min low s.start → clip low here ≡ moved here start (low - start)
    unfolding clip between
    clipped start k e =
        let x = start-here in
        let y = len-here in
        let p : min low here.start ≡ start = omega arith in
        let q : min low (here.start + here.len) ≡ low = omega arith in rw (p, q)

    clip-on : (start n : ℕ) (d' : List ℕ) → low < s.start + s.len → start ≡ min low s.start → n ≡ low - start → d' ≡ with_span d at start n → length d' ≡ length d → Clipping d' (i - 1)
    clip-on start n d' k e en w l = record {
      left = walk-on (clip low) d₀ count d i at c.left h ea d' start (low - start) (rw en at w) (clipped start k e) l;
      order = order-before here (rows_in (i - 1) d₀) in_order;
    }

    -- a row that starts past the cut has none of its bytes left
    pub clip_empties : (d' : List ℕ) → low < s.start → d' ≡ with_span d at low 0 → length d' ≡ length d → Clipping d' (i - 1)
    clip_empties d' k w l = clip-on low 0 d' (omega arith) (omega arith) (omega arith) w l

    -- the row that the cut goes through is the last that changes
    pub clip_cuts : (d' : List ℕ) → s.start ≤ low → low - s.start < s.len → d' ≡ with_span d at s.start (low - s.start) → length d' ≡ length d → d' ≡ due (clip low) d₀ count
    clip_cuts d' b k w l = done d' (i - 1) (clip-on s.start (low - s.start) d' (omega arith) (omega arith) refl w l).left (before_same b)

-- ---- add

five : (r : Row) → length (row_words r) ≡ 5
unfolding row_words
five r = refl

word_back : (w : ℕ) → entry_word (entry_of w) ≡ w
unfolding entry_word entry_of
word_back w = by-test (eqb w 4294967295) refl
  where
    by-test : (b : Bool) → eqb w 4294967295 ≡ b → entry_word (if b then None else Some w) ≡ w
    by-test true e = sym (eqb-true w 4294967295 e)
    by-test false e = refl

module _ (A rest : List ℕ) (at token entry start len : ℕ) (ea : at ≡ length A) where
  abbrev empty : Row
  empty = row_of token entry 0 0

  two-put : set (set (A ++ 0 ∷ 0 ∷ 0 ∷ 0 ∷ 0 ∷ rest) at token) (at + 1) entry ≡ A ++ (row_words empty ++ rest)
  unfolding row_words row_of
  two-put =
      ap (λ (x : List ℕ). set x (at + 1) entry) (set_at A 0 (0 ∷ 0 ∷ 0 ∷ 0 ∷ rest) token at (sym ea))
      ∙ ap (λ (k : ℕ). set (A ++ token ∷ 0 ∷ 0 ∷ 0 ∷ 0 ∷ rest) (k + 1) entry) ea
      ∙ set-append-add A (token ∷ 0 ∷ 0 ∷ 0 ∷ 0 ∷ rest) 1 entry
      ∙ ap (λ (w : ℕ). A ++ token ∷ w ∷ 0 ∷ 0 ∷ 0 ∷ rest) (sym (word_back entry))

  -- five words that were zero, written
  five-put : with_span (set (set (A ++ 0 ∷ 0 ∷ 0 ∷ 0 ∷ 0 ∷ rest) at token) (at + 1) entry) at start len ≡ A ++ (row_words (row_of token entry start len) ++ rest)
  unfolding row_of
  five-put = ap (λ (x : List ℕ). with_span x at start len) two-put ∙ span-put A rest empty at ea start len

module _ (d d' : List ℕ) (count token entry start len : ℕ) (w : Words d count) (l : 5 * count + 5 ≤ length d) where
  abbrev there : List ℕ
  there = rows_words (rows_in count d)

  there-is : length there ≡ 5 * count
  there-is = length-rows (rows_in count d) ∙ ap (λ (k : ℕ). 5 * k) (length-in count d)

  zeros : replicate {A = ℕ} (length d - length there) 0 ≡ 0 ∷ 0 ∷ 0 ∷ 0 ∷ 0 ∷ replicate (length d - length there - 5) 0
  zeros =
      let e = there-is in
      let n : length d - length there ≡ suc (suc (suc (suc (suc (length d - length there - 5))))) = omega arith in
      ap (λ (k : ℕ). replicate {A = ℕ} k 0) n

  pub row_added : d' ≡ with_span (set (set d (5 * count) token) (5 * count + 1) entry) (5 * count) start len → d' ≡ listing (length d) (row_of token entry start len ∷ rows_in count d)
  unfolding listing rows_words
  row_added e =
      let r = row_of token entry start len in
      let m : length (there ++ row_words r) ≡ length there + 5 = length-append there (row_words r) ∙ ap (λ (k : ℕ). length there + k) (five r) in
      let g : length d - length there - 5 ≡ length d - length (there ++ row_words r) = omega arith in
      e
      ∙ ap (λ (x : List ℕ). with_span (set (set x (5 * count) token) (5 * count + 1) entry) (5 * count) start len) (w.words ∙ ap (λ (z : List ℕ). there ++ z) zeros)
      ∙ five-put there (replicate (length d - length there - 5) 0) (5 * count) token entry start len (sym there-is)
      ∙ ap (λ (k : ℕ). there ++ (row_words r ++ replicate k 0)) g
      ∙ sym (append_assoc there (row_words r) (replicate (length d - length (there ++ row_words r)) 0))

-- ---- trim

abbrev pub trims : ℕ → ℕ → Row → Row
trims end lead q = q ▹ clip end ▹ shift lead

sum_back : (n a l : ℕ) → min n a + (min n (a + l) - min n a) ≡ min n (a + l)
sum_back n a l = omega arith

module _ (d₀ : List ℕ) (count end lead : ℕ) where
  pub trim_begins : Words d₀ count → Left (trims end lead) d₀ count d₀ count
  trim_begins w = walk_begins (trims end lead) d₀ count w

  module _ (d : List ℕ) (i at : ℕ) (l : Left (trims end lead) d₀ count d i) (h : 0 < i) (ea : at ≡ 5 * (i - 1)) (s : Span) (es : s.start ≡ start_at d at) (el : s.len ≡ len_at d at) where
    abbrev it : Row
    it = row_at d₀ (5 * (i - 1))

    cut_short : (start len : ℕ) → start ≡ min end s.start - lead → len ≡ min end (s.start + s.len) - lead - (min end s.start - lead) → trims end lead it ≡ moved it start len
    unfolding clip shift between
    cut_short start len e f =
        let x : s.start ≡ it.start = es ∙ start_is (trims end lead) d₀ count d i at l h ea in
        let y : s.len ≡ it.len = el ∙ len_is (trims end lead) d₀ count d i at l h ea in
        let p : start ≡ min end it.start - lead = rw x at e in
        let q : len ≡ min end (it.start + it.len) - lead - (min end it.start - lead) = rw (x, y) at f in rw (sum_back end it.start it.len, ← q, ← p)

    pub trim_on : (start len : ℕ) (d' : List ℕ) → start ≡ min end s.start - lead → len ≡ min end (s.start + s.len) - lead - (min end s.start - lead) → d' ≡ with_span d at start len → length d' ≡ length d
        → Left (trims end lead) d₀ count d' (i - 1)
    trim_on start len d' e f w n = walk-on (trims end lead) d₀ count d i at l h ea d' start len w (cut_short start len e f) n

-- where nothing goes from the start a row is clipped alone
unshifted : (r : Row) → shift 0 r ≡ r
unfolding shift between
unshifted r =
    let a : r.start - 0 ≡ r.start = omega arith in
    let b : r.start + r.len - 0 - (r.start - 0) ≡ r.len = omega arith in
    ap (λ (n : ℕ). mk n (r.start + r.len - 0 - (r.start - 0))) a ∙ ap (mk r.start) b
  where
    mk : ℕ → ℕ → Row
    mk start len = record { token = r.token; entry = r.entry; start = start; len = len }

clipped-alone : (end : ℕ) (rs : List Row) → map (trims end 0) rs ≡ map (clip end) rs
clipped-alone end [] = refl
clipped-alone end (r ∷ rs) = ap (λ (q : Row). q ∷ map (trims end 0) rs) (unshifted (clip end r)) ∙ ap (λ (qs : List Row). clip end r ∷ qs) (clipped-alone end rs)

pub trim_alone : (end lead : ℕ) (rs : List Row) → lead ≡ 0 → map (trims end lead) rs ≡ map (clip end) rs
trim_alone end lead rs z = rw z (clipped-alone end rs)
