-- Laws of a cut that goes many blanks at a time. Assumes nothing.
use mathlib.Core.Path.{◌≡◌, refl, sym, ap, ap₂, subst, ◌∙◌}
use mathlib.Core.Bool.{Bool, true, false}
use mathlib.Core.List.{List, [], ◌∷◌, ◌++◌, append_assoc}
use Prim.Native.Nat.{ℕ, zero, suc, ◌+◌, ◌-◌, ◌≤◌, ◌<◌}
use native.Mathlib.Nat.{add-zero}
use native.Mathlib.Numerals.{add-one}
use native.Mathlib.Omega.{arith}
use lib.ListN.{length, take, drop, set, get_or, replicate, length-replicate, replicate-append-replicate}
use lib.Seq.{set_split, get_or-take}
use Rattle.rules.specs.Base.{same}
use Rattle.rules.specs.Text.{Text, cut}
use Rattle.ascii.specs.Part.{part}
use Rattle.ascii.proofs.PartLaws.{part-cons, part-more}
use Rattle.ascii.proofs.RunLaws.{same_true}
use Rattle.text.specs.declared.Text.{Text as Code}
use Rattle.text.specs.Put.{put, Blanked}
use Rattle.text.specs.Held.{text_of, Held, Laid, cut_to, cut_bytes}
use Rattle.text.proofs.PutLaws.{put-nil, length-put, take-put-at, part-put, put-before}
use Rattle.text.proofs.CutLaws.{Cutting, cut-starts, cut-goes}

-- ---- eight more

pub none-blanked : (d : List ℕ) (n : ℕ) → Blanked d n n d
none-blanked d n = let e : n - n ≡ 0 = omega arith in record { within = omega arith; blanks = rw e refl; zeroed = rw e (sym (put-nil d n)) }

pub length-blanked : (d e : List ℕ) (r n : ℕ) → n ≤ length d → Blanked d r n e → length e ≡ length d
length-blanked d e r n l b =
    let w : r ≤ n = b.within in
    let z : length (replicate {A = ℕ} (n - r) 0) ≡ n - r = length-replicate (n - r) 0 in
    ap length b.zeroed ∙ length-put d r (replicate (n - r) 0) (omega arith)

pub more-blanked : (d e u : List ℕ) (r n k : ℕ) (x : Bool) → n ≤ length d → k ≤ r → Blanked d r n e → x ≡ same (part e (r - k) k) (replicate k 32) → x ≡ true → u ≡ put e (r - k) (replicate k 0) → Blanked d (r - k) n u
more-blanked d e u r n k x l h b s t o =
    let w : r ≤ n = b.within in
    let v : r ≤ length d = omega arith in
    let a : r - k + k ≡ r = omega arith in
    let m : n - (r - k) ≡ k + (n - r) = omega arith in
    let z : length (replicate {A = ℕ} k 0) ≡ k = length-replicate k 0 in
    let c : r - k + length (replicate {A = ℕ} k 0) ≡ r = omega arith in
    let f : part e (r - k) k ≡ replicate k 32 = same_true (part e (r - k) k) (replicate k 32) (sym s ∙ t) in
    let g : part d (r - k) k ≡ replicate k 32 = sym (part-put d r (replicate (n - r) 0) v (r - k) k a) ∙ ap (λ (y : List ℕ). part y (r - k) k) (sym b.zeroed) ∙ f in
    let p : part d (r - k + k) (n - r) ≡ replicate (n - r) 32 = rw a b.blanks in
    record {
      within = omega arith;
      blanks = rw m (part-more d (r - k) k (n - r) ∙ ap₂ (λ (i j : List ℕ). i ++ j) g p ∙ replicate-append-replicate k (n - r) 32);
      zeroed =
          o
          ∙ ap (λ (y : List ℕ). put y (r - k) (replicate k 0)) b.zeroed
          ∙ put-before d r (replicate (n - r) 0) v (r - k) (replicate k 0) c
          ∙ rw m (ap (put d (r - k)) (replicate-append-replicate k (n - r) 0));
    }

-- ---- a byte at a time they are the same cut

set-put : (d : List ℕ) (i b : ℕ) → i < length d → set d i b ≡ put d i (b ∷ [])
unfolding put
set-put d i b h = rw (set_split d i b h, add-one) (sym (append_assoc (take i d) (b ∷ []) (drop (suc i) d)))

module _ (d : List ℕ) (r : ℕ) (q : List ℕ) (h : suc r ≤ length d) where
  put-cons : (b : ℕ) → r < length (put d (suc r) q) → set (put d (suc r) q) r b ≡ put d r (b ∷ q)
  put-cons b k = set-put (put d (suc r) q) r b k ∙ put-before d (suc r) q h r (b ∷ []) (omega arith)

  get_or-before : get_or (put d (suc r) q) r 0 ≡ get_or d r 0
  get_or-before =
      let k : r < suc r = omega arith in
      sym (get_or-take (suc r) (put d (suc r) q) r 0 k) ∙ ap (λ (y : List ℕ). get_or y r 0) (take-put-at d (suc r) q h) ∙ get_or-take (suc r) d r 0 k

module _ (cap : ℕ) (w : Text) (p : ℕ → Bool) (g m f : ℕ) (d : List ℕ) (blank : p 32 ≡ true) where
  many-go : (k r : ℕ) → g ≤ r → part d r k ≡ replicate k 32 → Cutting cap w p (r + k) g m f d → Cutting cap w p r g m f (put d r (replicate k 0))
  many-go zero r h e c = rw (put-nil d r) (rw add-zero at c)
  many-go (suc k) r h e c =
      let i : r + suc k ≤ length d = c.held.within in
      let n : suc r ≤ length d = omega arith in
      let q : List ℕ = replicate k 0 in
      let s : r + suc k ≡ suc r + k = omega arith in
      let u : get_or d r 0 ∷ part d (r + 1) k ≡ 32 ∷ replicate k 32 = sym (part-cons d r k n) ∙ e in
      let y : get_or d r 0 ≡ 32 = ap (λ (l : List ℕ). get_or l 0 0) u in
      let z : part d (suc r) k ≡ replicate k 32 = rw add-one at (ap (drop 1) u) in
      let t : Cutting cap w p (suc r) g m f (put d (suc r) q) = many-go k (suc r) (omega arith) z (rw s at c) in
      let j : suc r ≤ length (put d (suc r) q) = t.held.within in
      let o : suc r - 1 ≡ r = omega arith in
      let x : true ≡ p (get_or (put d (suc r) q) (suc r - 1) 0) = rw (o, get_or-before d r q n, y) (sym blank) in
      let a : Cutting cap w p (suc r - 1) g m f (set (put d (suc r) q) (suc r - 1) 0) = cut-goes t true (omega arith) x refl in
      rw (← put-cons d r q n 0 j) (rw o at a)

blank_cut : (white : Bool) → cut_bytes white 32 ≡ true
blank_cut true = refl
blank_cut false = refl

pub eights-go : (white : Bool) (t : Code) (r : ℕ) (d e : List ℕ) → Held t d → (t.floor ≤ r) × Blanked d r t.len e
    → Cutting (length d) (cut (cut_bytes white) (text_of t d)) (cut_bytes white) r t.floor t.low t.fault e
eights-go white t r d e h b =
    let l : r ≤ t.len = b.1.within in
    let s : t.len ≡ r + (t.len - r) = omega arith in
    let c = cut-starts (cut_bytes white) t d h in
    rw b.1.zeroed (many-go _ _ (cut_bytes white) t.floor t.low t.fault d (blank_cut white) (t.len - r) r b.0 b.1.blanks (subst (λ (i : ℕ). Cutting (length d) (cut (cut_bytes white) (text_of t d)) (cut_bytes white) i t.floor t.low t.fault d) s c))

-- a cut that goes on from there, and what it comes to
module _ {cap : ℕ} {w : Text} {p : ℕ → Bool} {n g m f : ℕ} {d : List ℕ} (c : Cutting cap w p n g m f d) where
  pub goes_on : Cutting (length d) (cut p (text_of (cut_to n g m f) d)) p n g m f d
  goes_on = record { room = refl; held = c.held; left = refl }

  pub all-cut : (u : Code) (e : List ℕ) → Laid (length d) (cut p (text_of (cut_to n g m f) d)) u e → Laid cap w u e
  all-cut u e l = rw (← c.room, ← c.left) l
