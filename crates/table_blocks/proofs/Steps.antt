-- Steps and segments of the chain of top-level words, and the walk over them. Assumes nothing.
use mathlib.Core.Path.{◌≡◌, refl, sym, ◌∙◌}
use mathlib.Core.Bool.{Bool, true, false, ◌&&◌}
use mathlib.Core.List.{List}
use Prim.Native.Nat.{ℕ, ◌+◌, ◌-◌, ◌≤◌, ◌<◌, max}
use native.Mathlib.Omega.{arith}
use Rattle.rules.specs.declared.Part.{Part}
use Rattle.rules.specs.declared.Part.TheVariants as part
use Rattle.rules.specs.Tokens.{Token}
use Rattle.rules.specs.InlineBlock.{is_top}
use Rattle.table_blocks.specs.declared.Step.{Step}
use Rattle.table_blocks.specs.declared.Top.{Top}
use Rattle.table_blocks.specs.Sums.{part_at, depth, size}
use Rattle.table_blocks.specs.First.{First, top_at, top_of}
use Rattle.table_blocks.specs.Spans.{span_from}
use Rattle.table_blocks.specs.Rows.{Segment, top_in, TopRow, Written}
use Rattle.table_blocks.proofs.Firsts.{true_false}
use Rattle.table_blocks.proofs.Counts.{size-le, size_small}
use Rattle.table_blocks.proofs.Chain.{span-past, span-after, span-stuck, span-pair}

pub top_part : (p : Part) → is_top p ≡ true → p ≡ part.Top
top_part part.Top h = refl
top_part part.Newline h = absurd (true_false h refl)
top_part part.Open h = absurd (true_false h refl)
top_part part.Close h = absurd (true_false h refl)
top_part part.Comment h = absurd (true_false h refl)
top_part part.Rest h = absurd (true_false h refl)

and_left : (a b : Bool) → (a && b) ≡ true → a ≡ true
and_left true b h = refl
and_left false b h = h

module _ (f : ℕ → Token) (n : ℕ) where
  pub written_on : {j k : ℕ} {t : List ℕ} → j ≤ k → Written f n j t → Written f n k t
  written_on l w = record { short = w.short; long = w.long; rows = λ i a b. w.rows i (omega arith) b }

  -- the row of a top-level word
  pub top-row : {j : ℕ} (t : List ℕ) (k : ℕ) → Written f n j t → j ≤ k → k < n → top_at f k ≡ true → TopRow f n k (top_in t k)
  top-row t k w l h o = (w.rows k l h).top (top_part (part_at f k) o)

  module _ (t u length : ℕ) (a : List ℕ) (w : Written f n (t + 1) a) (h : u < n) (l : length + size f (t + 1) ≡ size f n) (o : top_at f t ≡ true) (q : First (top_of f (depth f t)) (t + 1) n u) (v : Top) (ev : v ≡ top_in a u) where
    row : TopRow f n u v
    row = let p = q.past in rw ev (top-row a u w p h (and_left (top_at f u) _ (q.here h)))

    pub resumes : v.after ≤ n
    resumes = row.after_is.up_to

    pub shorter : v.length ≤ length
    shorter =
        let e = row.length_is in
        let p = q.past in
        let m = size-le f (t + 1) (u + 1) (omega arith) in omega arith

    pub one-segment : Segment f n t (record { best = length - v.length; last = u; resume = v.after })
    one-segment =
        let e = row.length_is in
        let p = q.past in
        let r = row.after_is in
        let y = r.past in
        let m = size-le f (t + 1) (u + 1) (omega arith) in
        let x = size-le f (u + 1) n (omega arith) in
        let z = size_small f n w.short in
        let g : length - v.length ≡ size f (u + 1) - size f (t + 1) = omega arith in
        record {
          ahead = omega arith;
          onward = omega arith;
          up_to = r.up_to;
          word = r.here;
          small = omega arith;
          walks = λ e b c d. rw g (span-pair f n e b d t u o q (omega arith) c ∙ span-after f n e (max b (size f (u + 1) - size f (t + 1))) d (u + 1) v.after (omega arith) r);
        }

  -- ---- a step before the cut e

  module _ (t e : ℕ) (a : List ℕ) (w : Written f n t a) (h : t < e) (l : e ≤ n) (o : top_at f t ≡ true) (v : Top) (ev : v ≡ top_in a t) where
    pub here : TopRow f n t v
    here = rw ev (top-row a t w (omega arith) (omega arith) o)

    pub step-segment : v.step.last < e → Segment f n t v.step × (v.step.last < e)
    step-segment c = (here.segment (omega arith), c)

    pub step-stuck : e ≤ v.next → (b : ℕ) → span_from f t e b ≡ b
    step-stuck c b = span-stuck f n e b l t v.next o here.next_is h c

  -- ---- the walk from t to the cut e: s is walked

  module _ (t e : ℕ) (s : Step) (w : Segment f n t s × (s.last < e)) (l : e ≤ n) where
    so-far : span_from f t e 0 ≡ span_from f s.resume e s.best
    so-far = let z : max 0 s.best ≡ s.best = omega arith in rw z at (w.0.walks e 0 w.1 l)

    pub walk-ends : e ≤ s.resume → Segment f n t s × (s.best ≡ span_from f t e 0)
    walk-ends c = (w.0, sym (so-far ∙ span-past f s.resume e s.best c))
