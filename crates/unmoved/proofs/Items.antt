-- A working text as items, the last of them first: a byte that both sheets show, or the two values that they show of one entry. Assumes nothing.
use mathlib.Core.Path.{◌≡◌, refl, sym, ap, ◌∙◌}
use mathlib.Core.Bool.{Bool, true, false, not, false≢true}
use mathlib.Core.List.{List, [], ◌∷◌, ◌++◌, append_assoc, append-nil}
use Prim.Native.Nat.{ℕ, ◌+◌, ◌≤◌, min}
use native.Mathlib.Omega.{arith}
use lib.Dec.{eqb}
use borrow.Author.Tests.{eqb-true}
use lib.ListN.{length, length-append}
use Rattle.std.specs.Prelude.{if◌then◌else◌}
use Rattle.rules.specs.Text.{trim_cons, trim_end, last_or}
use Rattle.rules.specs.Due.{white}
use Rattle.unmoved.specs.Unmoved.{firm}

-- v is the first sheet's value, w the second's
pub data Item : Type 0 where
  byte : ℕ → Item
  hole : (v w : List ℕ) → firm v ≡ true → firm w ≡ true → Item

-- the first sheet's (true), or the second's
abbrev pub pick : Bool → List ℕ → List ℕ → List ℕ
pick true v w = v
pick false v w = w

abbrev pub bytes_on : Bool → Item → List ℕ
bytes_on i (byte c) = c ∷ []
bytes_on i (hole v w f g) = pick i v w

abbrev pub expand : Bool → List Item → List ℕ
expand i [] = []
expand i (x ∷ m) = expand i m ++ bytes_on i x

pub expand-append : (i : Bool) (a m : List Item) → expand i (a ++ m) ≡ expand i m ++ expand i a
expand-append i [] m = sym (append-nil (expand i m))
expand-append i (x ∷ a) m = rw (expand-append i a m) (append_assoc (expand i m) (expand i a) (bytes_on i x))

-- bytes behind the text
abbrev pub onto : List ℕ → List Item → List Item
onto [] m = m
onto (c ∷ cs) m = onto cs (byte c ∷ m)

pub expand-onto : (i : Bool) (cs : List ℕ) (m : List Item) → expand i (onto cs m) ≡ expand i m ++ cs
expand-onto i [] m = sym (append-nil (expand i m))
expand-onto i (c ∷ cs) m = expand-onto i cs (byte c ∷ m) ∙ append_assoc (expand i m) (c ∷ []) cs

pub onto-append : (cs : List ℕ) (a m : List Item) → onto cs a ++ m ≡ onto cs (a ++ m)
onto-append [] a m = refl
onto-append (c ∷ cs) a m = onto-append cs (byte c ∷ a) m

-- ---- a value has a last byte, which is not white

pub record Ends (v : List ℕ) : Type 0 where
  pub front : List ℕ
  pub last : ℕ
  pub whole : v ≡ front ++ last ∷ []
  pub shown : white last ≡ false

ends-from : (x : ℕ) (xs : List ℕ) → not (white (last_or x xs)) ≡ true → Ends (x ∷ xs)
ends-from x [] h = record { front = []; last = x; whole = refl; shown = off (white x) h }
  where
    off : (b : Bool) → not b ≡ true → b ≡ false
    off true e = sym e
    off false e = refl
ends-from x (y ∷ ys) h = let r = ends-from y ys h in record { front = x ∷ r.front; last = r.last; whole = ap (λ (l : List ℕ). x ∷ l) r.whole; shown = r.shown }

pub firm-ends : (v : List ℕ) → firm v ≡ true → Ends v
unfolding firm
firm-ends [] h = absurd (false≢true h)
firm-ends (x ∷ xs) h = ends-from x xs h

pub pick-firm : (i : Bool) (v w : List ℕ) → firm v ≡ true → firm w ≡ true → firm (pick i v w) ≡ true
pick-firm true v w f g = f
pick-firm false v w f g = g

last_snoc : (d c : ℕ) (a : List ℕ) → last_or d (a ++ c ∷ []) ≡ c
last_snoc d c [] = refl
last_snoc d c (x ∷ a) = last_snoc x c a

last-firm : (d : ℕ) (a v : List ℕ) (r : Ends v) → last_or d (a ++ v) ≡ r.last
last-firm d a v r = rw (r.whole, ← append_assoc a r.front (r.last ∷ [])) (last_snoc d r.last (a ++ r.front))

-- ---- cuts stop at a value

abbrev pub trim : (ℕ → Bool) → List Item → List Item
trim p [] = []
trim p (byte c ∷ m) = if p c then trim p m else byte c ∷ m
trim p (hole v w f g ∷ m) = hole v w f g ∷ m

trim_cons-snoc : (p : ℕ → Bool) (x c : ℕ) (a : List ℕ) → trim_cons p x (a ++ c ∷ []) ≡ x ∷ a ++ c ∷ []
trim_cons-snoc p x c [] = refl
trim_cons-snoc p x c (y ∷ a) = refl

trim_end-snoc : (p : ℕ → Bool) (c : ℕ) (a : List ℕ) → trim_end p (a ++ c ∷ []) ≡ if p c then trim_end p a else a ++ c ∷ []
trim_end-snoc p c [] = refl
trim_end-snoc p c (x ∷ a) = rw (trim_end-snoc p c a) (go (p c))
  where
    go : (b : Bool) → trim_cons p x (if b then trim_end p a else a ++ c ∷ []) ≡ if b then trim_cons p x (trim_end p a) else x ∷ a ++ c ∷ []
    go true = refl
    go false = trim_cons-snoc p x c a

module _ (p : ℕ → Bool) (w : (x : ℕ) → p x ≡ true → white x ≡ true) where
  kept-last : (c : ℕ) → white c ≡ false → p c ≡ false
  kept-last c h = go (p c) refl
    where
      go : (b : Bool) → p c ≡ b → b ≡ false
      go true e = sym (w c e) ∙ h
      go false e = refl

  trim_end-firm : (a v : List ℕ) → Ends v → trim_end p (a ++ v) ≡ a ++ v
  trim_end-firm a v r = rw (r.whole, ← append_assoc a r.front (r.last ∷ []), trim_end-snoc p r.last (a ++ r.front), kept-last r.last r.shown)

  pub expand-trim : (i : Bool) (m : List Item) → trim_end p (expand i m) ≡ expand i (trim p m)
  expand-trim i [] = refl
  expand-trim i (byte c ∷ m) = trim_end-snoc p c (expand i m) ∙ go (p c) (expand-trim i m)
    where
      go : (b : Bool) → trim_end p (expand i m) ≡ expand i (trim p m) → (if b then trim_end p (expand i m) else expand i m ++ c ∷ []) ≡ expand i (if b then trim p m else byte c ∷ m)
      go true ih = ih
      go false ih = refl
  expand-trim i (hole u v f g ∷ m) = trim_end-firm (expand i m) (pick i u v) (firm-ends (pick i u v) (pick-firm i u v f g))

-- ---- a line feed at the end is one that both sheets have

abbrev pub fed : List Item → Bool
fed [] = false
fed (byte c ∷ m) = eqb c 10
fed (hole v w f g ∷ m) = false

feed_white : (x : ℕ) → eqb x 10 ≡ true → white x ≡ true
feed_white x h = rw (eqb-true x 10 h)

pub last-fed : (i : Bool) (m : List Item) → eqb (last_or 0 (expand i m)) 10 ≡ fed m
last-fed i [] = refl
last-fed i (byte c ∷ m) = rw (last_snoc 0 c (expand i m))
last-fed i (hole v w f g ∷ m) =
    let r = firm-ends (pick i v w) (pick-firm i v w f g) in
    rw (last-firm 0 (expand i m) (pick i v w) r) (kept-last (λ x. eqb x 10) feed_white r.last r.shown)

-- ---- where the values stand

pub record Spot : Type 0 where
  pub start : ℕ
  pub len : ℕ

abbrev pub spots_of : Bool → List Item → List Spot
spots_of i [] = []
spots_of i (byte c ∷ m) = spots_of i m
spots_of i (hole v w f g ∷ m) = record { start = length (expand i m); len = length (pick i v w) } ∷ spots_of i m

pub spots-onto : (i : Bool) (cs : List ℕ) (m : List Item) → spots_of i (onto cs m) ≡ spots_of i m
spots-onto i [] m = refl
spots-onto i (c ∷ cs) m = spots-onto i cs (byte c ∷ m)

pub spots-trim : (p : ℕ → Bool) (i : Bool) (a m : List Item) → spots_of i (trim p a ++ m) ≡ spots_of i (a ++ m)
spots-trim p i [] m = refl
spots-trim p i (byte c ∷ a) m = go (p c) (spots-trim p i a m)
  where
    go : (b : Bool) → spots_of i (trim p a ++ m) ≡ spots_of i (a ++ m) → spots_of i ((if b then trim p a else byte c ∷ a) ++ m) ≡ spots_of i (a ++ m)
    go true ih = ih
    go false ih = refl
spots-trim p i (hole v w f g ∷ a) m = refl

-- none reaches past n
abbrev pub Within : ℕ → List Spot → Type 0
Within n [] = Unit {0}
Within n (h ∷ hs) = (h.start + h.len ≤ n) × Within n hs

pub within-up : (m n : ℕ) (hs : List Spot) → m ≤ n → Within m hs → Within n hs
within-up m n [] l h = tt
within-up m n (x ∷ hs) l h = let k = h.0 in (omega arith, within-up m n hs l h.1)

pub within-min : (m n : ℕ) (hs : List Spot) → Within m hs → Within n hs → Within (min m n) hs
within-min m n [] h k = tt
within-min m n (x ∷ hs) h k = let a = h.0 in let b = k.0 in (omega arith, within-min m n hs h.1 k.1)

pub within_all : (i : Bool) (m : List Item) → Within (length (expand i m)) (spots_of i m)
within_all i [] = tt
within_all i (byte c ∷ m) = within-up _ _ (spots_of i m) (simp length-append (omega arith)) (within_all i m)
within_all i (hole v w f g ∷ m) = (simp length-append (omega arith), within-up _ _ (spots_of i m) (simp length-append (omega arith)) (within_all i m))
