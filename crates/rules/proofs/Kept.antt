-- What a step on the text leaves of the bytes before it: all below the new low, and those above it were white. Assumes nothing.
use mathlib.Core.Path.{◌≡◌, refl, sym, ap, ◌∙◌}
use mathlib.Core.Bool.{Bool, true, false}
use mathlib.Core.List.{List, [], ◌∷◌, ◌++◌, append_assoc, append-nil}
use Prim.Native.Nat.{ℕ, ◌+◌, ◌-◌, ◌≤◌, min}
use native.Mathlib.Omega.{arith}
use lib.Dec.{leb}
use borrow.Author.Tests.{leb-true, leb-false}
use lib.ListN.{length, take, drop, take-append-drop, length-append}
use lib.Seq.{take-append_seam, take-append-le, take-append-add, take-take}
use Rattle.std.specs.Prelude.{if◌then◌else◌}
use Rattle.rules.specs.Text.{trim_cons, trim_end, Text, fits, refused, cut}
use Rattle.rules.specs.Due.{white, strip}
use Rattle.rules.proofs.Strip.{strip-append}

-- ---- lists of white bytes

nil_left : (a b : List ℕ) → a ++ b ≡ [] → a ≡ []
nil_left [] b e = refl
nil_left (x ∷ a) b e = absurd (let z : ◌≡◌ {A = ℕ} 0 1 = cc in omega arith)

nil_right : (a b : List ℕ) → a ++ b ≡ [] → b ≡ []
nil_right a b e = rw (nil_left a b e) at e

-- what comes before or after in a list of white bytes is white
pub white-take : (j : ℕ) (w : List ℕ) → strip w ≡ [] → strip (take j w) ≡ []
white-take j w e = nil_left (strip (take j w)) (strip (drop j w)) (sym (strip-append (take j w) (drop j w)) ∙ rw take-append-drop e)

pub white-drop : (j : ℕ) (w : List ℕ) → strip w ≡ [] → strip (drop j w) ≡ []
white-drop j w e = nil_right (strip (take j w)) (strip (drop j w)) (sym (strip-append (take j w) (drop j w)) ∙ rw take-append-drop e)

pub white-append : (v w : List ℕ) → strip v ≡ [] → strip w ≡ [] → strip (v ++ w) ≡ []
white-append v w e f = rw (strip-append, e, f)

-- ---- a trim takes white bytes

-- c is b without white bytes at its end
pub record Front (b c : List ℕ) : Type 0 where
  pub rest : List ℕ
  pub whole : c ++ rest ≡ b
  pub blank : strip rest ≡ []

pub trim_end-front : (p : ℕ → Bool) → ((x : ℕ) → p x ≡ true → white x ≡ true) → (l : List ℕ) → Front l (trim_end p l)
trim_end-front p w [] = record { rest = []; whole = refl; blank = refl }
trim_end-front p w (x ∷ xs) = go (trim_end p xs) (trim_end-front p w xs)
  where
    ends : (r : List ℕ) → r ≡ xs → strip r ≡ [] → (b : Bool) → p x ≡ b → Front (x ∷ xs) (if b then [] else x ∷ [])
    ends r e f true h = record { rest = x ∷ r; whole = rw e; blank = rw (w x h) f }
    ends r e f false h = record { rest = r; whole = rw e; blank = f }

    go : (t : List ℕ) → Front xs t → Front (x ∷ xs) (trim_cons p x t)
    go [] f = ends f.rest f.whole f.blank (p x) refl
    go (y ∷ ys) f = record { rest = f.rest; whole = ap (λ (l : List ℕ). x ∷ l) f.whole; blank = f.blank }

-- ---- below the low

-- of the first m bytes of b the first n stand in c too; those after them were white
pub record Under (m : ℕ) (b : List ℕ) (n : ℕ) (c : List ℕ) : Type 0 where
  pub lower : n ≤ m
  pub within : n ≤ length c
  pub same : take n c ≡ take n b
  pub blank : strip (take n b) ≡ strip (take m b)

-- from a text to the next
abbrev pub Kept : Text → Text → Type 0
Kept (fits k m b) (fits l n c) = m ≤ length b → Under m b n c
Kept (fits k m b) (refused n) = Unit {0}
Kept (refused n) (fits l m c) = ⊥
Kept (refused n) (refused m) = Unit {0}

pub take_below : (j n : ℕ) (b c : List ℕ) → j ≤ n → take n c ≡ take n b → take j c ≡ take j b
take_below j n b c h e = sym (take-take j n c h) ∙ rw e (take-take j n b h)

under-then : (m n o : ℕ) (b c d : List ℕ) → Under m b n c → Under n c o d → Under m b o d
under-then m n o b c d p q =
    let down : o ≤ n = q.lower in
    let low : take o c ≡ take o b = take_below o n b c down p.same in
    let first : o ≤ m = omega (arith, p.lower) in
    record { lower = first; within = q.within; same = q.same ∙ low; blank = rw (← low, q.blank, p.same) p.blank }

pub kept_then : (t u w : Text) → Kept t u → Kept u w → Kept t w
kept_then (fits i m a) (fits j n b) (fits k o c) p q = λ h. under-then m n o a b c (p h) (q (p h).within)
kept_then (fits i m a) (fits j n b) (refused k) p q = tt
kept_then (fits i m a) (refused k) (fits l o c) p q = absurd q
kept_then (fits i m a) (refused k) (refused l) p q = tt
kept_then (refused k) (fits j n b) w p q = absurd p
kept_then (refused k) (refused l) (fits j n b) p q = absurd q
kept_then (refused k) (refused l) (refused m) p q = tt

pub kept-nothing : (t : Text) → Kept t t
kept-nothing (fits k m b) = λ h. record { lower = omega arith; within = h; same = refl; blank = refl }
kept-nothing (refused n) = tt

-- a cut to c
under-front : (m : ℕ) (b c : List ℕ) → Front b c → m ≤ length b → Under m b (min m (length c)) c
under-front m b c f h =
    record {
      lower = omega arith;
      within = omega arith;
      same = rw (← f.whole) (sym (take-append-le (min m (length c)) c f.rest (omega arith)));
      blank = go (leb m (length c)) refl;
    }
  where
    low : take (length c) b ≡ c
    low = rw (← f.whole) (take-append_seam c f.rest)

    above : (j : ℕ) → strip (take (length c + j) b) ≡ strip c
    above j = rw (← f.whole, take-append-add c f.rest j, strip-append c (take j f.rest), white-take j f.rest f.blank) (append-nil (strip c))

    go : (t : Bool) → leb m (length c) ≡ t → strip (take (min m (length c)) b) ≡ strip (take m b)
    go true e = let l = leb-true m (length c) e in let q : min m (length c) ≡ m = omega arith in rw q
    go false e =
        let l = leb-false m (length c) e in
        let q : min m (length c) ≡ length c = omega arith in
        let n : m ≡ length c + (m - length c) = omega arith in
        rw (q, low) (sym (ap (λ (x : ℕ). strip (take x b)) n ∙ above (m - length c)))

-- all of the text is asked for
pub under-end : (b c : List ℕ) → Front b c → Under (length b) b (length c) c
under-end b c f =
    let n = simp length-append at (ap length f.whole) in
    let m : min (length b) (length c) ≡ length c = omega arith in
    rw m at (under-front (length b) b c f (omega arith))

pub kept-cut : (p : ℕ → Bool) → ((x : ℕ) → p x ≡ true → white x ≡ true) → (t : Text) → Kept t (cut p t)
kept-cut p w (fits k m b) = let f = trim_end-front p w (drop k b) in under-front m b (take k b ++ trim_end p (drop k b)) (record { rest = f.rest; whole = append_assoc (take k b) (trim_end p (drop k b)) f.rest ∙ rw f.whole (take-append-drop k b); blank = f.blank })
kept-cut p w (refused n) = tt

pub kept_append : (k m : ℕ) (b v : List ℕ) → Kept (fits k m b) (fits k m (b ++ v))
kept_append k m b v = λ h. record { lower = omega arith; within = simp length-append (omega arith); same = take-append-le m b v h; blank = refl }
