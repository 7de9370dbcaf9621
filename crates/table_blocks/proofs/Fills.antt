-- What is counted from a token on, the rows that it gives, and the table at its begin and end. Assumes nothing.
use mathlib.Core.Path.{◌≡◌, refl, ◌∙◌}
use mathlib.Core.Bool.{Bool, true, false}
use mathlib.Core.Logic.{⊎_elim}
use mathlib.Core.List.{List}
use Prim.Native.Nat.{ℕ, ◌+◌, ◌-◌, ◌*◌, ◌≤◌, ◌<◌, min}
use native.Mathlib.Omega.{arith}
use lib.Dec.{ltb}
use lib.ListN.{length}
use borrow.Author.Tests.{ltb-true, ltb-false, lt-ltb, le-ltb}
use Rattle.rules.specs.declared.Part.TheVariants as part
use Rattle.std.specs.Prelude.{if◌then◌else◌}
use Rattle.std.specs.Int.{from_bool}
use Rattle.rules.specs.Sheet.{list_of, token_of}
use Rattle.rules.specs.Tokens.{Token}
use Rattle.rules.specs.InlineBlock.{level_after, build_info}
use Rattle.around.specs.Readable.{Readable}
use Rattle.around.proofs.Lists.{tokens-step, readable_length}
use Rattle.table.specs.Table.{with_words, facts_word, Blocks}
use Rattle.table.proofs.Words.{put_is}
use Rattle.table_blocks.specs.declared.Counted.{Counted}
use Rattle.table_blocks.specs.declared.Onward.{Onward}
use Rattle.table_blocks.specs.Sums.{part_at, depth, size, count, newline_at, forbidden_at}
use Rattle.table_blocks.specs.First.{First, close_to}
use Rattle.table_blocks.specs.Spans.{span_from}
use Rattle.table_blocks.specs.Rows.{Short, CountedFrom, CloseRow, onward_words, onward_in, Rows, EndedAt}
use Rattle.table_blocks.proofs.Firsts.{less-or, first-none}
use Rattle.table_blocks.proofs.Counts.{depth-step, depth_le, size_step, size-le, size_small, count-step, count_most}
use Rattle.table_blocks.proofs.Block.{block_facts}
use Rattle.table_blocks.proofs.Words.{onward_back}
use Rattle.table_blocks.proofs.Tables.{level_at}

pub short-of : (s : List ℕ) (base n : ℕ) → Readable s base n → Short (token_of s base) n
short-of s base n r = record { few = r.placed.few; short = λ k h. readable_length s base n k (length (token_of s base k).value) r h refl }

-- the first place from j on, from itself on
pub first-self : {g : ℕ → Bool} {j n m : ℕ} → First g j n m → First g m n m
first-self q = record { past = omega arith; up_to = q.up_to; none = λ k a b. absurd (omega arith); here = q.here }

module _ (f : ℕ → Token) (n : ℕ) where
  -- ---- from the left

  pub record Depths (j : ℕ) (t : List ℕ) (level : ℕ) : Type 0 where
    pub up_to : j ≤ n
    pub long : 6 * n ≤ length t
    pub level_is : level ≡ depth f j
    pub rows : (d : ℕ) → d < j → onward_in t d ≡ record { top = n; depth = depth f d; close = n }

  pub depths_begin : (t : List ℕ) → 6 * n ≤ length t → Depths 0 t 0
  unfolding depth
  depths_begin t h = record { up_to = omega arith; long = h; level_is = refl; rows = λ d l. absurd (omega arith) }

  module _ (j : ℕ) (t : List ℕ) (level : ℕ) (q : Depths j t level) (s : Short f n) where
    pub level-small : level ≤ 1024
    level-small = let a = depth_le f j in let b = q.up_to in let c = s.few in let d = q.level_is in omega arith

    pub depths_on : (u : List ℕ) (level' : ℕ) → j < n → u ≡ with_words t j 4 (onward_words (record { top = n; depth = level; close = n })) → level' ≡ level_after (part_at f j) level → Depths (j + 1) u level'
    depths_on u level' h eu e =
        let o : Onward = record { top = n; depth = level; close = n } in
        let p = put_is t u j 4 (onward_words o) eu in
        let l = p.long in
        let m = q.long in
        let back = onward_back t u j (omega arith) o eu level-small in
        record {
          up_to = omega arith;
          long = omega arith;
          level_is = e ∙ rw (q.level_is, depth-step f j);
          rows = λ d k.
              ⊎_elim (λ x. rw (p.others (6 * d + 4) (λ y. omega arith), p.others (6 * d + 5) (λ y. omega arith)) (q.rows d x))
              (λ x. let z : d ≡ j = omega arith in rw z (back ∙ rw q.level_is)) (less-or d j);
        }

    pub depths_end : n ≤ j → Rows f n n t
    depths_end h = record {
      written = record { short = s; long = q.long; rows = λ k a b. absurd (omega arith) };
      levels = λ d l. level_at f n (q.rows d (omega arith)) (record { tops = first-none _ n; depth_is = refl; closes = first-none _ n });
    }

  -- ---- what is counted

  pub bool-le : (x : ℕ) (b : Bool) → x ≡ from_bool b → x ≤ 1
  bool-le x true e = omega arith
  bool-le x false e = omega arith

  one-if : (b : Bool) → from_bool b ≡ (if b then 1 else 0)
  one-if true = refl
  one-if false = refl

  module _ (j : ℕ) (s : Counted) (h : j < n) (q : CountedFrom f n (j + 1) s) where
    pub counted-on : (l x y : ℕ) → l ≡ length (f j).value → x ≡ from_bool (newline_at f j) → y ≡ from_bool (forbidden_at f j) → CountedFrom f n j (record { length = s.length + l; newlines = s.newlines + x; forbidden = s.forbidden + y })
    counted-on l x y el ex ey =
        let a = size_step f j in
        let b = count-step (newline_at f) j in
        let c = count-step (forbidden_at f) j in
        let d = q.length_is in
        let e = q.newlines_is in
        let g = q.forbidden_is in
        let p : x ≡ (if newline_at f j then 1 else 0) = ex ∙ one-if (newline_at f j) in
        let r : y ≡ (if forbidden_at f j then 1 else 0) = ey ∙ one-if (forbidden_at f j) in
        record { up_to = omega arith; length_is = omega arith; newlines_is = omega arith; forbidden_is = omega arith }

  module _ (j : ℕ) (s : Counted) (r : Short f n) (q : CountedFrom f n j s) where
    pub length-small : s.length ≤ 67108864
    length-small = let a = size_small f n r in let b = q.length_is in omega arith

    pub newlines_small : s.newlines ≤ 1024
    newlines_small = let a = count_most (newline_at f) n in let b = q.newlines_is in let c = r.few in omega arith

    pub forbidden-small : s.forbidden ≤ 1024
    forbidden-small = let a = count_most (forbidden_at f) n in let b = q.forbidden_is in let c = r.few in omega arith

    -- ---- the row of a close

    pub close_row : (l : ℕ) → l + size f (j + 1) ≡ size f n → CloseRow f n j (record { length = l; newlines = s.newlines; forbidden = s.forbidden })
    close_row l e = record { length_is = e; newlines_is = q.newlines_is; forbidden_is = q.forbidden_is }

  -- ---- the row of an opening bracket

  ltb-swap : (a b x y : ℕ) → a + y ≡ b + x → ltb x y ≡ ltb a b
  ltb-swap a b x y e = by-test (ltb a b) refl
    where
      by-test : (c : Bool) → ltb a b ≡ c → ltb x y ≡ c
      by-test true h = let l = ltb-true a b h in lt-ltb x y (omega arith)
      by-test false h = let l = ltb-false a b h in le-ltb x y (omega arith)

  module _ (i m : ℕ) (s : Counted) (e : Counted) (o : part_at f i ≡ part.Open) (h : i < n) (q : First (close_to f (depth f i)) (i + 1) n m) (c : CountedFrom f n i s) (g : EndedAt f n m e) where
    pub block_long : e.length ≤ s.length
    block_long =
        let u = q.past in
        let a = size-le f i (min (m + 1) n) (omega arith) in
        let b = c.length_is in
        let d = g.length_is in omega arith

    pub open_length : s.length - e.length ≡ (build_info (list_of f i (n - i))).length
    open_length =
        let r = block_facts f n i m o h q in
        let l = r.length_is in
        let b = c.length_is in
        let d = g.length_is in omega arith

    pub open_facts : (span w : ℕ) → span ≡ span_from f (i + 1) m 0 → w ≡ span * 4 + (if ltb e.forbidden s.forbidden then 2 else 0) + (if ltb e.newlines s.newlines then 1 else 0) → w ≡ facts_word (build_info (list_of f i (n - i)))
    open_facts span w es ew =
        let r = block_facts f n i m o h q in
        let cf = c.forbidden_is in
        let gf = g.forbidden_is in
        let cn = c.newlines_is in
        let gn = g.newlines_is in
        let x = ltb-swap e.forbidden s.forbidden (count (forbidden_at f) i) (count (forbidden_at f) m) (omega arith) in
        let y = ltb-swap e.newlines s.newlines (count (newline_at f) i) (count (newline_at f) m) (omega arith) in
        ew ∙ rw (r.span_is, r.forbidden_is, r.reserved_is, x, y, es)

-- ---- the table when all tokens are taken

pub all_blocks : (s : List ℕ) (base n : ℕ) (t : List ℕ) → Rows (token_of s base) n 0 t → Blocks s base n t
all_blocks s base n t q = record {
  blocks = λ i h k.
      let r = (q.written.rows i (omega arith) h).opens (rw k) in
      let e = tokens-step s base i n h in record { length = rw e at r.length; facts = rw e at r.facts };
}
