-- Laws of narrow lanes: a row on, a lane on, and sixteen bytes of each part. Assumes nothing.
use mathlib.Core.Path.{◌≡◌, refl, sym, ap, ◌∙◌}
use mathlib.Core.List.{List, [], ◌∷◌, ◌++◌}
use Prim.Native.Nat.{ℕ, suc, ◌+◌, ◌-◌, ◌*◌, ◌%◌, ◌≤◌, ◌<◌, max}
use native.Mathlib.Omega.{arith}
use lib.Bits.{bit_and, and_mask}
use lib.ListN.{length, get_or, set}
use Rattle.rules.specs.Text.{line_feeds}
use Rattle.ascii.specs.Part.{part}
use Rattle.steps.specs.Steps.{code_of, on_by, feed_of, codes_of, Mapped, Coded, down, rows}
use Rattle.steps.proofs.ArrayLaws.{mapped_on}
use Rattle.steps.proofs.StepLaws.{feed_code, rows-part}
use Rattle.narrow.specs.declared.Lane.{Lane}
use Rattle.narrow.specs.Narrow.{lane_on, lane_at, Laned, NarrowOn}

-- ---- one lane

abbrev pub lane : ℕ → ℕ → ℕ → ℕ → Lane
lane a b c d = record { at = a; top = b; inner = c; feeds = d }

-- a lane that has gone on to column y by code x
abbrev pub to : Lane → ℕ → ℕ → Lane
to m y x = lane y (max y m.top) (max (y % 128) m.inner) (m.feeds + feed_of x)

abbrev pub next : Lane → ℕ → Lane
next m x = to m (on_by m.at x) x

-- a row more
pub row_on : (t : List ℕ) (k i : ℕ) (m r : Lane) (at top inner f : ℕ) → i < 8 → at ≡ on_by m.at (get_or t (16 * i + k) 0) → top ≡ max at m.top → inner ≡ max (bit_and at 127) m.inner
    → f ≡ feed_of (get_or t (16 * i + k) 0) → lane_on m (down t k i (8 - i)) ≡ r → lane_on (lane at top inner (m.feeds + f)) (down t k (i + 1) (8 - (i + 1))) ≡ r
row_on t k i m r at top inner f h ea et ei ef e =
    let n : 8 - i ≡ suc (8 - (i + 1)) = omega arith in
    let o = rw n at e in
    rw (ei, and_mask at 7, et, ef, ea) o

pub lane-both : (m : Lane) (v w : List ℕ) → lane_on m (v ++ w) ≡ lane_on (lane_on m v) w
lane-both m [] w = refl
lane-both m (x ∷ xs) w = lane-both (next m x) xs w

-- a lane counts the line feeds
pub lane-feeds : (m : Lane) (v : List ℕ) → (lane_on m (codes_of v)).feeds ≡ m.feeds + line_feeds v
lane-feeds m [] = omega arith
lane-feeds m (b ∷ bs) =
    let p = lane-feeds (next m (code_of b)) bs in
    let q = feed_code b (line_feeds bs) in
    p ∙ (omega arith) ∙ ap (λ (n : ℕ). m.feeds + n) q

-- ---- sixteen lanes

module _ (t u c h g f : List ℕ) where
  -- the next lane is still the old one
  same : (k : ℕ) (c' h' g' f' : List ℕ) → Laned t u k c h g f c' h' g' f' → (v : List ℕ) → lane_on (lane_at c' h' g' k) v ≡ lane_on (lane_at c h g k) v
  same k c' h' g' f' s v = rw (s.columns.old k (omega arith), s.largest.old k (omega arith), s.inner.old k (omega arith))

  pub laned_on : (k : ℕ) (c' h' g' f' : List ℕ) (half r : Lane) → k < length c → k < length h → k < length g → k < length f → Laned t u k c h g f c' h' g' f' → half ≡ lane_on (lane_at c' h' g' k) (down t k 0 8)
      → r ≡ lane_on half (down u k 0 8) → Laned t u (k + 1) c h g f (set c' k r.at) (set h' k r.top) (set g' k r.inner) (set f' k r.feeds)
  laned_on k c' h' g' f' half r lc lh lg lf s eh er =
      let e = er ∙ ap (λ (m : Lane). lane_on m (down u k 0 8)) (eh ∙ same k c' h' g' f' s (down t k 0 8)) ∙ sym (lane-both (lane_at c h g k) (down t k 0 8) (down u k 0 8)) in
      record {
        columns = mapped_on _ c k r.at c' lc s.columns (ap (λ (m : Lane). m.at) e);
        largest = mapped_on _ h k r.top h' lh s.largest (ap (λ (m : Lane). m.top) e);
        inner = mapped_on _ g k r.inner g' lg s.inner (ap (λ (m : Lane). m.inner) e);
        feeds = mapped_on _ f k r.feeds f' lf s.feeds (ap (λ (m : Lane). m.feeds) e);
      }

-- ---- sixteen bytes of each part

module _ (d t u : List ℕ) (start far : ℕ) (c h g f n c' h' g' f' n' : List ℕ) (r : start + 15 * far + 16 ≤ length d) (p : Coded d start far t) (q : Coded d (start + 8) far u) (s : Laned t u 16 c h g n c' h' g' n') (a : Mapped 16 (λ k x. x + get_or n' k 0) f f') where
  pub by_rows : NarrowOn d start far c h g f c' h' g' f'
  by_rows =
      record {
        columns_long = s.columns.long;
        largest_long = s.largest.long;
        inner_long = s.inner.long;
        feeds_long = a.long;
        column = λ k l. s.columns.new k l ∙ ap (λ (m : Lane). m.at) (told k l);
        largest = λ k l. s.largest.new k l ∙ ap (λ (m : Lane). m.top) (told k l);
        inner = λ k l. s.inner.new k l ∙ ap (λ (m : Lane). m.inner) (told k l);
        fed = λ k l. a.new k l ∙ ap (λ (x : ℕ). get_or f k 0 + x) (s.feeds.new k l ∙ ap (λ (m : Lane). m.feeds) (told k l) ∙ lane-feeds (lane_at c h g k) (part d (start + k * far) 16) ∙ (omega arith));
      }
    where
      told : (k : ℕ) → k < 16 → lane_on (lane_at c h g k) (rows t u k) ≡ lane_on (lane_at c h g k) (codes_of (part d (start + k * far) 16))
      told k l = ap (lane_on (lane_at c h g k)) (rows-part d t u start far k p q l r)
