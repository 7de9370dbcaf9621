-- Laws of the count of line feeds, and of whether a tab stands there. Assumes nothing.
use mathlib.Core.Path.{◌≡◌, refl, sym, ap, ◌∙◌}
use mathlib.Core.Bool.{Bool, true, false, ◌||◌}
use mathlib.Core.List.{List, [], ◌∷◌, ◌++◌}
use Prim.Native.Nat.{ℕ, suc, ◌+◌, ◌-◌, ◌≤◌, ◌<◌}
use native.Mathlib.Numerals.{add-one}
use native.Mathlib.Omega.{arith}
use mir.Val.{bool_byte as from_bool}
use lib.Dec.{eqb}
use lib.ListN.{length, take, get_or}
use lib.Seq.{length-take-le, take-add}
use Rattle.std.specs.Prelude.{if◌then◌else◌}
use Rattle.rules.specs.Text.{line_feeds, lines, width}
use Rattle.rules.proofs.Short.{feeds-few}
use Rattle.ascii.specs.Part.{part, has}
use Rattle.ascii.proofs.PartLaws.{length_part, part-suc, part-more}
use Rattle.ascii.proofs.FindLaws.{has_both}
use Rattle.columns.specs.declared.Measure.{Measure}
use Rattle.columns.specs.Measured.{measure}
use Rattle.parts.specs.declared.Counted.{Counted}
use Rattle.parts.specs.Parts.{counted_of}
use Rattle.parts.proofs.JoinLaws.{feeds-both}
use Rattle.lines.specs.declared.Size.{Size}
use Rattle.lines.specs.declared.Marks.{Marks}
use Rattle.lines.specs.Marked.{Marked}
use Rattle.lines.specs.Marked.{size_of}

-- ---- two parts

marked-both : (v w : List ℕ) (f g : ℕ) (s t : Bool) → Marked v (record { feeds = f; tab = s }) → Marked w (record { feeds = g; tab = t }) → Marked (v ++ w) (record { feeds = f + g; tab = s || t })
marked-both v w f g s t a b =
    record {
      counted = let e = feeds-both v w in let k = a.counted in let l = b.counted in omega arith;
      seen = rw (a.seen, b.seen) (sym (has_both 9 9 v w));
    }

-- ---- a byte, and a block

marked-byte : (x f : ℕ) → f ≡ from_bool (eqb x 10) → Marked (x ∷ []) (record { feeds = f; tab = eqb x 9 })
marked-byte x f e = record { counted = e ∙ one (eqb x 10); seen = go (eqb x 9) }
  where
    one : (b : Bool) → from_bool b ≡ (if b then 1 else 0)
    one true = refl
    one false = refl

    go : (b : Bool) → b ≡ ((b || b) || false)
    go true = refl
    go false = refl

pub by-mark : (d : List ℕ) (start i f g : ℕ) (t : Bool) → start + i < length d → Marked (part d start i) (record { feeds = f; tab = t })
    → g ≡ from_bool (eqb (get_or d (start + i) 0) 10) → Marked (part d start (i + 1)) (record { feeds = f + g; tab = t || eqb (get_or d (start + i) 0) 9 })
by-mark d start i f g t h m e =
    let x = get_or d (start + i) 0 in
    rw (part-suc d start i h) (marked-both (part d start i) (x ∷ []) f g t (eqb x 9) m (marked-byte x g e))

pub by_block : (d : List ℕ) (start i k f : ℕ) (t : Bool) (m : Marks) → Marked (part d start i) (record { feeds = f; tab = t }) → Marked (part d (start + i) k) m
    → Marked (part d start (i + k)) (record { feeds = f + m.feeds; tab = t || m.tab })
by_block d start i k f t m a b = rw (part-more d start i k) (marked-both (part d start i) (part d (start + i) k) f m.feeds t m.tab a b)

pub by_last_block : (d : List ℕ) (start n i f : ℕ) (t : Bool) (m : Marks) → i ≤ n → Marked (part d start i) (record { feeds = f; tab = t }) → Marked (part d (start + i) (n - i)) m
    → Marked (part d start n) (record { feeds = f + m.feeds; tab = t || m.tab })
by_last_block d start n i f t m h a b = let e : i + (n - i) ≡ n = omega arith in rw e at (by_block d start i (n - i) f t m a b)

-- ---- the size

lines-some : (v : List ℕ) → 0 < length v → lines v ≡ line_feeds v + 1
lines-some [] h = absurd (omega arith)
lines-some (x ∷ xs) h = sym (add-one _)

size : ℕ → ℕ → Size
size n w = record { lines = n; width = w }

-- the lines of i bytes, and those of k more
pub by-more-lines : (d : List ℕ) (i k n g : ℕ) → g ≡ line_feeds (part d i k) → n ≡ line_feeds (take i d) + 1 → n + g ≡ line_feeds (take (i + k) d) + 1
by-more-lines d i k n g c e =
    let f : line_feeds (take (i + k) d) ≡ line_feeds (take i d) + line_feeds (part d i k) = ap line_feeds (take-add i k d) ∙ feeds-both (take i d) (part d i k) in
    omega arith

pub by_size : (d : List ℕ) (len i n : ℕ) (m : Marks) (w : ℕ) → len ≤ length d → (len ≡ 0 → ⊥) → i ≤ len → n ≡ line_feeds (take i d) + 1 → Marked (part d i (len - i)) m → w ≡ width (take len d)
    → record { lines = n + m.feeds; width = w } ≡ size_of (take len d)
unfolding size
by_size d len i n m w h z c e k f =
    let l = length-take-le len d h in
    let s : 0 < length (take len d) = omega arith in
    let j : i + (len - i) ≡ len = omega arith in
    let g : n + m.feeds ≡ line_feeds (take len d) + 1 = rw j at (by-more-lines d i (len - i) n m.feeds k.counted e) in
    ap (λ (y : ℕ). size y w) (g ∙ sym (lines-some (take len d) s)) ∙ ap (size (lines (take len d))) f

-- ---- what sixteen parts say

module _ (d : List ℕ) (i k : ℕ) (m : Measure) (s : Counted) (e : s ≡ counted_of m (part d i k)) where
  pub by-parts-feeds : s.feeds ≡ line_feeds (part d i k)
  by-parts-feeds = ap (λ (r : Counted). r.feeds) e

  -- no more of them than bytes
  pub few-feeds : i + k ≤ length d → s.feeds ≤ k
  few-feeds h = let l = length_part d i k h in let f = feeds-few (part d i k) in let g = by-parts-feeds in omega arith

  pub by-parts-columns : s.columns ≡ measure m (part d i k)
  by-parts-columns = ap (λ (r : Counted). r.columns) e

-- ---- what the marks say

-- none of two kinds, and so neither
pub has_either : (a b : ℕ) (v : List ℕ) → has a a v ≡ false → has b b v ≡ false → has a b v ≡ false
has_either a b [] h k = refl
has_either a b (x ∷ xs) h k = go (eqb x a) (eqb x b) (has_either a b xs) h k
  where
    go : (p q : Bool) → (has a a xs ≡ false → has b b xs ≡ false → has a b xs ≡ false) → ((p || p) || has a a xs) ≡ false → ((q || q) || has b b xs) ≡ false → ((p || q) || has a b xs) ≡ false
    go true q f h k = h
    go false true f h k = k
    go false false f h k = f h k

no-feed : (v : List ℕ) → line_feeds v ≡ 0 → has 10 10 v ≡ false
no-feed [] h = refl
no-feed (x ∷ xs) h = go (eqb x 10) (no-feed xs) h
  where
    go : (b : Bool) → (line_feeds xs ≡ 0 → has 10 10 xs ≡ false) → (if b then suc (line_feeds xs) else line_feeds xs) ≡ 0 → ((b || b) || has 10 10 xs) ≡ false
    go true f h = absurd (omega arith)
    go false f h = f h

module _ (v : List ℕ) (m : Marks) (k : Marked v m) (t : m.tab ≡ false) where
  pub no_tab : has 9 9 v ≡ false
  no_tab = sym k.seen ∙ t

  pub no_mark : m.feeds ≡ 0 → has 9 10 v ≡ false
  no_mark f = has_either 9 10 v no_tab (no-feed v (sym k.counted ∙ f))
