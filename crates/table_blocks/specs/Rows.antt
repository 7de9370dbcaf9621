-- The rows of the table while it is filled: what the words of each token are.
use Rattle.std.specs.Prelude.{◌≡◌, true, List, [], ◌∷◌, Option, None, Some, ℕ, ◌+◌, ◌-◌, ◌*◌, ◌/◌, ◌%◌, ◌≤◌, ◌<◌, max, min, length}
use Rattle.rules.specs.declared.Part.TheVariants as part
use Rattle.rules.specs.Sheet.{list_of}
use Rattle.rules.specs.Tokens.{Token}
use Rattle.rules.specs.InlineBlock.{build_info}
use Rattle.table.specs.Table.{word_of, BuiltAs}
use Rattle.table_blocks.specs.declared.Counted.{Counted}
use Rattle.table_blocks.specs.declared.Onward.{Onward}
use Rattle.table_blocks.specs.declared.Step.{Step}
use Rattle.table_blocks.specs.declared.Top.{Top}
use Rattle.table_blocks.specs.Sums.{part_at, depth, size, count, newline_at, forbidden_at}
use Rattle.table_blocks.specs.First.{First, top_at, top_of, close_to}
use Rattle.table_blocks.specs.Spans.{span_from}

-- the tokens are few, and their values short: no sum wraps
pub record Short (f : ℕ → Token) (n : ℕ) : Type 0 where
  pub few : n ≤ 1024
  pub short : (k : ℕ) → k < n → length (f k).value ≤ 65536

-- what is counted from token j on
pub record CountedFrom (f : ℕ → Token) (n j : ℕ) (s : Counted) : Type 0 where
  pub up_to : j ≤ n
  pub length_is : s.length + size f j ≡ size f n
  pub newlines_is : s.newlines + count (newline_at f) j ≡ count (newline_at f) n
  pub forbidden_is : s.forbidden + count (forbidden_at f) j ≡ count (forbidden_at f) n

-- a part of the chain of top-level words: before every cut behind its last word, walking from t is walking from the word where it resumes
pub record Segment (f : ℕ → Token) (n t : ℕ) (s : Step) : Type 0 where
  pub ahead : t < s.last
  pub onward : s.last < s.resume
  pub up_to : s.resume ≤ n
  pub word : s.resume < n → top_at f s.resume ≡ true
  pub small : s.best ≤ 67108864
  pub walks : (e b : ℕ) → s.last < e → e ≤ n → span_from f t e b ≡ span_from f s.resume e (max b s.best)

-- ---- the words of a row, two numbers in some of them

abbrev pub step_words : Step → List ℕ
step_words s = s.best ∷ (s.last * 65536 + s.resume) ∷ []

abbrev pub step_in : List ℕ → ℕ → Step
step_in t k = record { best = word_of t k 2; last = word_of t k 3 / 65536; resume = word_of t k 3 % 65536 }

abbrev pub top_words : Top → List ℕ
top_words w = w.length ∷ (w.next * 65536 + w.after) ∷ step_words w.step

abbrev pub top_in : List ℕ → ℕ → Top
top_in t k = record { length = word_of t k 0; next = word_of t k 1 / 65536; after = word_of t k 1 % 65536; step = step_in t k }

abbrev pub counted_words : Counted → List ℕ
counted_words e = e.length ∷ (e.newlines * 65536 + e.forbidden) ∷ []

abbrev pub counted_in : List ℕ → ℕ → Counted
counted_in t k = record { length = word_of t k 0; newlines = word_of t k 1 / 65536; forbidden = word_of t k 1 % 65536 }

abbrev pub onward_words : Onward → List ℕ
onward_words o = (o.top * 65536 + o.depth) ∷ o.close ∷ []

abbrev pub onward_in : List ℕ → ℕ → Onward
onward_in t d = record { top = word_of t d 4 / 65536; depth = word_of t d 4 % 65536; close = word_of t d 5 }

-- ---- what they are

-- a top-level word: the length after it, the next of its depth, the next of any, and a segment
pub record TopRow (f : ℕ → Token) (n t : ℕ) (w : Top) : Type 0 where
  pub length_is : w.length + size f (t + 1) ≡ size f n
  pub next_is : First (top_of f (depth f t)) (t + 1) n w.next
  pub after_is : First (top_at f) (t + 1) n w.after
  pub segment : w.step.last < n → Segment f n t w.step

-- a close: the length after it, and the newline words and forbidden tokens from it on
pub record CloseRow (f : ℕ → Token) (n k : ℕ) (e : Counted) : Type 0 where
  pub length_is : e.length + size f (k + 1) ≡ size f n
  pub newlines_is : e.newlines + count (newline_at f) k ≡ count (newline_at f) n
  pub forbidden_is : e.forbidden + count (forbidden_at f) k ≡ count (forbidden_at f) n

-- an opening bracket has the facts of its block
pub record Row (f : ℕ → Token) (n k : ℕ) (t : List ℕ) : Type 0 where
  pub top : part_at f k ≡ part.Top → TopRow f n k (top_in t k)
  pub close : part_at f k ≡ part.Close → CloseRow f n k (counted_in t k)
  pub opens : part_at f k ≡ part.Open → BuiltAs t k (build_info (list_of f k (n - k)))

-- the row of the depth d: the first top-level word from j on with this depth, the first close that leaves it; and beside them the depth before token d
pub record Level (f : ℕ → Token) (n j d : ℕ) (o : Onward) : Type 0 where
  pub tops : First (top_of f d) j n o.top
  pub depth_is : o.depth ≡ depth f d
  pub closes : First (close_to f d) j n o.close

-- the words of the tokens from j on
pub record Written (f : ℕ → Token) (n j : ℕ) (t : List ℕ) : Type 0 where
  pub short : Short f n
  pub long : 6 * n ≤ length t
  pub rows : (k : ℕ) → j ≤ k → k < n → Row f n k t

-- the table when token j is reached: these, and every row's levels
pub record Rows (f : ℕ → Token) (n j : ℕ) (t : List ℕ) : Type 0 where
  pub written : Written f n j t
  pub levels : (d : ℕ) → d < n → Level f n j d (onward_in t d)

-- ---- the chain of top-level words up to the cut e

-- a step of a walk: a segment that ends before the cut; or none, where nothing more is found
abbrev pub Stepped : (ℕ → Token) → ℕ → ℕ → ℕ → Option Step → Type 0
Stepped f n t e None = (b : ℕ) → span_from f t e b ≡ b
Stepped f n t e (Some s) = Segment f n t s × (s.last < e)

-- the walk from t: all that was walked is one segment, whose span is the longest; or there was no step
abbrev pub Walked : (ℕ → Token) → ℕ → ℕ → ℕ → Option Step → Type 0
Walked f n t e None = span_from f t e 0 ≡ 0
Walked f n t e (Some s) = Segment f n t s × (s.best ≡ span_from f t e 0)

-- what is counted from the end of a block on: m is its close, whose length is the block's
pub record EndedAt (f : ℕ → Token) (n m : ℕ) (s : Counted) : Type 0 where
  pub length_is : s.length + size f (min (m + 1) n) ≡ size f n
  pub newlines_is : s.newlines + count (newline_at f) m ≡ count (newline_at f) n
  pub forbidden_is : s.forbidden + count (forbidden_at f) m ≡ count (forbidden_at f) n
