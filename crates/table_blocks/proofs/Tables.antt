-- The table, a row at a time: what is written of a row leaves the others as they are. Assumes nothing.
use mathlib.Core.Path.{◌≡◌, refl, ap, ◌∙◌}
use mathlib.Core.Bool.{Bool, true, false, and-false}
use mathlib.Core.Logic.{◌⊎◌, ⊎_elim}
use mathlib.Core.List.{List, [], ◌∷◌}
use Prim.Native.Nat.{ℕ, ◌+◌, ◌-◌, ◌*◌, ◌≤◌, ◌<◌}
use native.Mathlib.Omega.{arith}
use lib.ListN.{length}
use borrow.Author.Tests.{eq-eqb, ne_eqb}
use Rattle.rules.specs.declared.Part.{Part}
use Rattle.rules.specs.declared.Part.TheVariants as part
use Rattle.rules.specs.Tokens.{Token}
use Rattle.rules.specs.Sheet.{list_of}
use Rattle.rules.specs.InlineBlock.{is_top, build_info}
use Rattle.stacks.proofs.StackLaws.{same_or}
use Rattle.table.specs.Table.{word_of, with_words, facts_word}
use Rattle.table.proofs.Words.{Put, put_is}
use Rattle.table_blocks.specs.declared.Step.{Step}
use Rattle.table_blocks.specs.declared.Top.{Top}
use Rattle.table_blocks.specs.declared.Counted.{Counted}
use Rattle.table_blocks.specs.declared.Onward.{Onward}
use Rattle.table_blocks.specs.Sums.{part_at, depth}
use Rattle.table_blocks.specs.First.{First, is_close, top_at, top_of, close_to}
use Rattle.table_blocks.specs.Rows.{Short, Segment, step_words, top_words, counted_words, onward_words, onward_in, TopRow, CloseRow, Row, Level, Written, Rows}
use Rattle.table_blocks.proofs.Firsts.{true_false, less-or, first-skip, first-hit}
use Rattle.table_blocks.proofs.Counts.{depth_le}
use Rattle.table_blocks.proofs.Words.{step_back, top_back, counted_back, onward_back}
use Rattle.table_blocks.proofs.Steps.{top-row}

abbrev pub is_open : Part → Bool
is_open part.Top = false
is_open part.Newline = false
is_open part.Open = true
is_open part.Close = false
is_open part.Comment = false
is_open part.Rest = false

-- words from the k-th on of row i are written: the words of other rows stay
elsewhere : {t u : List ℕ} {i k : ℕ} {ws : List ℕ} → Put t u i k ws → k + length ws ≤ 6 → (j c : ℕ) → (j ≡ i → ⊥) → c < 6 → word_of u j c ≡ word_of t j c
elsewhere {i = i} {k = k} p h j c n l = p.others (6 * j + c) (λ g. omega arith)

module _ (f : ℕ → Token) (n : ℕ) where
  row_same : (k : ℕ) (t u : List ℕ) → ((c : ℕ) → c < 4 → word_of u k c ≡ word_of t k c) → Row f n k t → Row f n k u
  row_same k t u e r =
      let e0 = e 0 (omega arith) in
      let e1 = e 1 (omega arith) in
      record {
        top = λ p. rw (e0, e1, e 2 (omega arith), e 3 (omega arith)) (r.top p);
        close = λ p. rw (e0, e1) (r.close p);
        opens = λ p. let b = r.opens p in record { length = e0 ∙ b.length; facts = e1 ∙ b.facts };
      }

  level_same : (j d : ℕ) (t u : List ℕ) → word_of u d 4 ≡ word_of t d 4 → word_of u d 5 ≡ word_of t d 5 → Level f n j d (onward_in t d) → Level f n j d (onward_in u d)
  level_same j d t u e4 e5 l = rw (e4, e5) l

  pub level_at : {j d : ℕ} {o g : Onward} → o ≡ g → Level f n j d g → Level f n j d o
  level_at e l = rw e l

  pub level-skip : {j d : ℕ} {o : Onward} → top_of f d j ≡ false → close_to f d j ≡ false → Level f n (j + 1) d o → Level f n j d o
  level-skip {j} {d} {o} x y l = record { tops = first-skip (top_of f d) n j o.top x l.tops; depth_is = l.depth_is; closes = first-skip (close_to f d) n j o.close y l.closes }

  -- what a row says of a depth is few
  pub level-few : {j d : ℕ} {o : Onward} → Short f n → d < n → Level f n j d o → (o.top ≤ 1024) × (o.depth ≤ 1024) × (o.close ≤ 1024)
  level-few {j} {d} {o} s h l =
      let few = s.few in
      let a = depth_le f d in
      let x = l.tops.up_to in
      let y = l.depth_is in
      let z = l.closes.up_to in (omega arith, omega arith, omega arith)

  -- rows from the next token on, and this one's
  rows-with : {P : ℕ → Type 0} {j : ℕ} → P j → ((k : ℕ) → j + 1 ≤ k → P k) → (k : ℕ) → j ≤ k → P k
  rows-with {P} {j} h g k l = ⊎_elim (λ x. g k (omega arith)) (λ x. let e : j ≡ k = omega arith in rw (← e) h) (less-or j k)

  -- the rows from the next token on, of a token whose row is written anew from its first word on
  written-with : (j : ℕ) (t u : List ℕ) (ws : List ℕ) → length ws ≤ 4 → Put t u j 0 ws → Written f n (j + 1) t → (j < n → Row f n j u) → Written f n j u
  written-with j t u ws few p w r =
      let l = p.long in
      let m = w.long in
      record {
        short = w.short;
        long = omega arith;
        rows = rows-with {P = λ k. k < n → Row f n k u} r (λ k g i. row_same k t u (λ c b. elsewhere p (omega arith) k c (λ e. omega arith) (omega arith)) (w.rows k g i));
      }

  -- the words 4 and 5 of a row that is written so stay
  levels-stay : (j d m : ℕ) (t u : List ℕ) (ws : List ℕ) → length ws ≤ 4 → Put t u j 0 ws → Level f n m d (onward_in t d) → Level f n m d (onward_in u d)
  levels-stay j d m t u ws few p l = level_same m d t u (p.others (6 * d + 4) (λ e. omega arith)) (p.others (6 * d + 5) (λ e. omega arith)) l

  -- and the rows where the words 4 and 5 of one are written
  rows-stay : (j d : ℕ) (t u : List ℕ) (o : Onward) → Put t u d 4 (onward_words o) → Written f n j t → Written f n j u
  rows-stay j d t u o p w =
      let l = p.long in
      let m = w.long in
      record { short = w.short; long = omega arith; rows = λ k g i. row_same k t u (λ c b. p.others (6 * k + c) (λ e. omega arith)) (w.rows k g i) }

  -- ---- a token that has no row

  module _ (j : ℕ) (a : List ℕ) (q : Rows f n (j + 1) a) where
    plain : (p : Part) → (p ≡ part.Newline) ⊎ ((p ≡ part.Comment) ⊎ (p ≡ part.Rest)) → (is_top p ≡ false) × (is_close p ≡ false) × (is_open p ≡ false)
    plain p = ⊎_elim (λ e. rw e (refl, refl, refl)) (⊎_elim (λ e. rw e (refl, refl, refl)) (λ e. rw e (refl, refl, refl)))

    module _ (p : Part) (e : p ≡ part_at f j) (v : (p ≡ part.Newline) ⊎ ((p ≡ part.Comment) ⊎ (p ≡ part.Rest))) where
      no-top : is_top (part_at f j) ≡ false
      no-top = rw (← e) (plain p v).0

      no-close : is_close (part_at f j) ≡ false
      no-close = rw (← e) (plain p v).1

      pub rows-rest : Rows f n j a
      rows-rest =
          let z : is_open (part_at f j) ≡ false = rw (← e) (plain p v).2 in
          record {
            written = record {
              short = q.written.short;
              long = q.written.long;
              rows = rows-with {P = λ k. k < n → Row f n k a}
                  (λ h. record { top = λ g. absurd (true_false (ap is_top g) no-top); close = λ g. absurd (true_false (ap is_close g) no-close); opens = λ g. absurd (true_false (ap is_open g) z) })
                  (λ k l. q.written.rows k l);
            };
            levels = λ d h. level-skip (rw no-top) (rw no-close) (q.levels d h);
          }

      pub top-rest : (m : ℕ) → First (top_at f) (j + 1) n m → First (top_at f) j n m
      top-rest m r = first-skip (top_at f) n j m no-top r

    -- ---- an opening bracket

    pub rows-open : (z : List ℕ) (v w : ℕ) → j < n → part_at f j ≡ part.Open → z ≡ with_words a j 0 (v ∷ w ∷ []) → v ≡ (build_info (list_of f j (n - j))).length → w ≡ facts_word (build_info (list_of f j (n - j))) → Rows f n j z
    rows-open z v w h o e ev ew =
        let p = put_is a z j 0 (v ∷ w ∷ []) e in
        let m = q.written.long in
        let here = p.here (omega arith) in
        record {
          written = written-with j a z (v ∷ w ∷ []) (omega arith) p q.written
              (λ i. record {
                top = λ g. absurd (true_false (rw g) (ap is_top o));
                close = λ g. absurd (true_false (rw g) (ap is_close o));
                opens = λ g. record { length = here 0 0 refl (omega arith) ∙ ev; facts = here 1 1 refl (omega arith) ∙ ew };
              });
          levels = λ d i. level-skip (rw o) (rw o) (levels-stay j d (j + 1) a z (v ∷ w ∷ []) (omega arith) p (q.levels d i));
        }

    -- ---- a close

    module _ (b : List ℕ) (c : Counted) (h : j < n) (o : part_at f j ≡ part.Close) (e : b ≡ with_words a j 0 (counted_words c)) (few : c.forbidden ≤ 1024) (r : CloseRow f n j c) where
      close-put : Put a b j 0 (counted_words c)
      close-put = put_is a b j 0 (counted_words c) e

      close-written : Written f n j b
      close-written =
          let m = q.written.long in
          let back = counted_back a b j (omega arith) c e few in
          written-with j a b (counted_words c) (omega arith) close-put q.written
          (λ i. record { top = λ g. absurd (true_false (rw g) (ap is_top o)); close = λ g. rw back r; opens = λ g. absurd (true_false (ap is_close o) (rw g)) })

      close-levels : (d : ℕ) → d < n → Level f n (j + 1) d (onward_in b d)
      close-levels d i = levels-stay j d (j + 1) a b (counted_words c) (omega arith) close-put (q.levels d i)

      not-to : (d : ℕ) → (depth f j ≡ d + 1 → ⊥) → close_to f d j ≡ false
      not-to d x = rw (ne_eqb (depth f j) (d + 1) x) (and-false (is_close (part_at f j)))

      -- a stray one: it leaves no depth
      pub rows-stray : depth f j ≤ 0 → Rows f n j b
      rows-stray x = record { written = close-written; levels = λ d i. level-skip (rw o) (not-to d (λ g. omega arith)) (close-levels d i) }

      pub close-few : (k : ℕ) (g : Onward) → k < n → g ≡ onward_in b k → (g.top ≤ 1024) × (g.depth ≤ 1024) × (g.close ≤ 1024)
      close-few k g kn eg = level-few q.written.short kn (level_at eg (close-levels k kn))

      pub rows-close : (z : List ℕ) (k : ℕ) (g : Onward) → depth f j ≡ k + 1 → k < n → g ≡ onward_in b k → z ≡ with_words b k 4 (onward_words (record g { close = j })) → Rows f n j z
      rows-close z k g x kn eg ez =
          let l = (close-few k g kn eg).1 in
          let p = put_is b z k 4 (onward_words (record g { close = j })) ez in
          let m = close-written.long in
          let back = onward_back b z k (omega arith) (record g { close = j }) ez l in
          record {
            written = rows-stay j k b z (record g { close = j }) p close-written;
            levels = λ d i.
                ⊎_elim
                (λ v.
                let u = close-levels k kn in
                let s : close_to f k j ≡ true = rw o (eq-eqb (depth f j) (k + 1) x) in
                rw v (level_at back
                (record { tops = first-skip (top_of f k) n j g.top (rw o) (rw eg u.tops); depth_is = rw eg u.depth_is; closes = first-hit (close_to f k) n j h s })))
                (λ v. level_same j d b z (elsewhere p (omega arith) d 4 v (omega arith)) (elsewhere p (omega arith) d 5 v (omega arith)) (level-skip (rw o) (not-to d (λ w. v (omega arith))) (close-levels d i)))
                (same_or d k);
          }

    -- ---- a top-level word

    module _ (c z : List ℕ) (w : Top) (d : ℕ) (g : Onward) (h : j < n) (o : part_at f j ≡ part.Top) (ed : d ≡ depth f j) (dn : d < n) (eg : g ≡ onward_in a d) (ec : c ≡ with_words a j 0 (top_words w)) (ez : z ≡ with_words c d 4 (onward_words (record g { top = j }))) (r : TopRow f n j w) (l : (w.after ≤ 1024) × (w.step.resume ≤ 1024) × (g.depth ≤ 1024)) where
      top-put : Put a c j 0 (top_words w)
      top-put = put_is a c j 0 (top_words w) ec

      top-written : Written f n j c
      top-written =
          let m = q.written.long in
          let back = top_back a c j (omega arith) w ec l.0 l.1 in
          written-with j a c (top_words w) (omega arith) top-put q.written
          (λ i. record { top = λ e. rw back r; close = λ e. absurd (true_false (ap is_top o) (rw e)); opens = λ e. absurd (true_false (ap is_top o) (rw e)) })

      top-levels : (k : ℕ) → k < n → Level f n (j + 1) k (onward_in c k)
      top-levels k i = levels-stay j k (j + 1) a c (top_words w) (omega arith) top-put (q.levels k i)

      pub rows-top : Rows f n j z
      rows-top =
          let p = put_is c z d 4 (onward_words (record g { top = j })) ez in
          let m = top-written.long in
          let back = onward_back c z d (omega arith) (record g { top = j }) ez l.2 in
          record {
            written = rows-stay j d c z (record g { top = j }) p top-written;
            levels = λ k i.
                ⊎_elim
                (λ v.
                let u = q.levels d dn in
                let s : top_of f d j ≡ true = rw o (eq-eqb d (depth f j) ed) in
                rw v (level_at back
                (record { tops = first-hit (top_of f d) n j h s; depth_is = rw eg u.depth_is; closes = first-skip (close_to f d) n j g.close (rw o) (rw eg u.closes) })))
                (λ v. level_same j k c z (elsewhere p (omega arith) k 4 v (omega arith)) (elsewhere p (omega arith) k 5 v (omega arith))
                (level-skip (rw (ne_eqb k (depth f j) (λ x. v (omega arith))) (and-false (is_top (part_at f j)))) (rw o) (top-levels k i)))
                (same_or k d);
          }

  -- ---- another segment of a top-level word

  pub rows-segment : (j t : ℕ) (a z : List ℕ) (s : Step) → Rows f n j a → j ≤ t → t < n → top_at f t ≡ true → Segment f n t s → z ≡ with_words a t 2 (step_words s) → Rows f n j z
  rows-segment j t a z s q g i o sg ez =
      let p = put_is a z t 2 (step_words s) ez in
      let l = p.long in
      let m = q.written.long in
      let few = q.written.short.few in
      let up = sg.up_to in
      let back = step_back a z t (omega arith) s ez (omega arith) in
      let r = top-row f n a t q.written g i o in
      record {
        written = record {
          short = q.written.short;
          long = omega arith;
          rows = λ k u v.
              ⊎_elim
              (λ e. rw e
              (record {
                top = λ x. rw (p.others (6 * t + 0) (λ w. omega arith), p.others (6 * t + 1) (λ w. omega arith), back) (record { length_is = r.length_is; next_is = r.next_is; after_is = r.after_is; segment = λ w. sg });
                close = λ x. absurd (true_false o (rw x));
                opens = λ x. absurd (true_false o (rw x));
              }))
              (λ e. row_same k a z (λ c b. elsewhere p (omega arith) k c e (omega arith)) (q.written.rows k u v))
              (same_or k t);
        };
        levels = λ d u. level_same j d a z (p.others (6 * d + 4) (λ e. omega arith)) (p.others (6 * d + 5) (λ e. omega arith)) (q.levels d u);
      }
