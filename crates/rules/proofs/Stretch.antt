-- What a cut and the trim leave of the bytes of a row. Assumes nothing.
use mathlib.Core.Path.{◌≡◌, refl, sym, ap, subst, ◌∙◌}
use mathlib.Core.Bool.{Bool, true, false}
use mathlib.Core.List.{List, [], ◌∷◌, ◌++◌, append_assoc, append-nil}
use Prim.Native.Nat.{ℕ, zero, suc, ◌+◌, ◌-◌, ◌≤◌, min}
use native.Mathlib.Nat.{zero-add, suc-add}
use native.Mathlib.Omega.{arith}
use lib.Dec.{leb}
use borrow.Author.Tests.{leb-true, leb-false}
use lib.ListN.{length, take, drop, take-append-drop, length-drop}
use lib.Seq.{length-take-le, take-append_seam, drop-append_seam, take-append-le, drop-append-le, take-append-add, drop-append-add, take-length, take-add, drop-drop, take-nil}
use Rattle.rules.specs.Due.{strip}
use Rattle.rules.specs.Rows.{Row, between, clip, shift}
use Rattle.rules.specs.Shown.{Shown, stretch, Survives, Points}
use Rattle.rules.proofs.Strip.{strip-append}
use Rattle.rules.proofs.Kept.{take_below, white-take, white-drop, white-append, Under}

-- ---- values that survive

pub survives_all : (v : List ℕ) → Survives v v
survives_all v = record { before = []; after = []; whole = sym (append-nil v); blank_before = refl; blank_after = refl }

-- white bytes at the end went; at the start; all were white
survives_end : (x w : List ℕ) → strip w ≡ [] → Survives x (x ++ w)
survives_end x w e = record { before = []; after = w; whole = refl; blank_before = refl; blank_after = e }

survives_start : (x w : List ℕ) → strip w ≡ [] → Survives x (w ++ x)
survives_start x w e = record { before = w; after = []; whole = sym (append-nil (w ++ x)); blank_before = e; blank_after = refl }

survives_none : (v : List ℕ) → strip v ≡ [] → Survives [] v
survives_none v e = survives_end [] v e

pub survives_then : (x y v : List ℕ) → Survives y v → Survives x y → Survives x v
survives_then x y v p q =
    record {
      before = p.before ++ q.before;
      after = q.after ++ p.after;
      whole = p.whole ∙ rw q.whole (simp append_assoc);
      blank_before = white-append p.before q.before p.blank_before q.blank_before;
      blank_after = white-append q.after p.after q.blank_after p.blank_after;
    }

-- as a stretch of the value: there is a number to count from
pub survives_from : (x v : List ℕ) → Survives x v → (k : ℕ) × (x ≡ take (length x) (drop k v))
survives_from x v p = (length p.before, sym (rw (p.whole, append_assoc p.before x p.after, drop-append_seam p.before (x ++ p.after)) (take-append_seam x p.after)))

-- without its white bytes it is the value
pub survives_strip : (x v : List ℕ) → Survives x v → strip x ≡ strip v
survives_strip x v p = sym (rw (p.whole, strip-append (p.before ++ x) p.after, strip-append p.before x, p.blank_before, p.blank_after) (append-nil (strip x)))

-- ---- a cut to n bytes

stretch-is : (a l : ℕ) (b : List ℕ) → take l (drop a b) ≡ drop a (take (a + l) b)
stretch-is zero l b = rw (zero-add l)
stretch-is (suc a) l [] = rw (suc-add a l) (take-nil l)
stretch-is (suc a) l (x ∷ b) = rw (suc-add a l) (stretch-is a l b)

-- the bytes from a on, l of them, are below n
below-same : (a l n : ℕ) (b c : List ℕ) → a + l ≤ n → take n c ≡ take n b → take l (drop a c) ≡ take l (drop a b)
below-same a l n b c h e = rw (stretch-is a l c, stretch-is a l b, take_below (a + l) n b c h e)

-- u of the l bytes are left
cut-survives : (a l u n : ℕ) (b c : List ℕ) → u ≤ l → a + u ≡ n → take n c ≡ take n b → strip (drop n b) ≡ [] → Survives (take u (drop a c)) (take l (drop a b))
cut-survives a l u n b c h k e w =
    let m : l ≡ u + (l - u) = omega arith in
    rw (below-same a u n b c (omega arith) e)
    (subst (Survives (take u (drop a b))) (sym (ap (λ (x : ℕ). take x (drop a b)) m ∙ take-add u (l - u) (drop a b)))
    (survives_end (take u (drop a b)) (take (l - u) (drop u (drop a b))) (white-take (l - u) (drop u (drop a b)) (rw (drop-drop u a b, k) w))))

append-self : (a x : List ℕ) → a ≡ a ++ x → x ≡ []
append-self [] x e = sym e
append-self (y ∷ a) x e = append-self a x (cc)

white-above : (n : ℕ) (b c : List ℕ) → Under (length b) b n c → strip (drop n b) ≡ []
white-above n b c u =
    append-self (strip (take n b)) (strip (drop n b)) (u.blank ∙ ap strip (take-length b ∙ sym (take-append-drop n b)) ∙ strip-append (take n b) (drop n b))

pub clip-survives : (n : ℕ) (b c : List ℕ) → Under (length b) b n c → (r : Row) → r.start + r.len ≤ length b → Survives (stretch c (clip n r)) (stretch b r)
unfolding clip between
clip-survives n b c u r h = go r.start r.len (leb (r.start + r.len) n) refl (leb r.start n) refl
  where
    go : (a l : ℕ) (f : Bool) → leb (a + l) n ≡ f → (g : Bool) → leb a n ≡ g → Survives (take (min n (a + l) - min n a) (drop (min n a) c)) (take l (drop a b))
    go a l true e g k =
        let low = leb-true (a + l) n e in
        let p : min n a ≡ a = omega arith in
        let q : min n (a + l) - a ≡ l = omega arith in
        rw (p, q, below-same a l n b c low u.same) (survives_all (take l (drop a b)))
    go a l false e true k =
        let high = leb-false (a + l) n e in
        let low = leb-true a n k in
        let p : min n a ≡ a = omega arith in
        let q : min n (a + l) - a ≡ n - a = omega arith in
        rw (p, q) (cut-survives a l (n - a) n b c (omega arith) (omega arith) u.same (white-above n b c u))
    go a l false e false k =
        let high = leb-false a n k in
        let q : min n (a + l) - min n a ≡ 0 = omega arith in
        let m : drop a b ≡ drop (a - n) (drop n b) = let d : a ≡ n + (a - n) = omega arith in ap (λ (x : ℕ). drop x b) d ∙ sym (drop-drop (a - n) n b) in
        rw (q, m) (survives_none (take l (drop (a - n) (drop n b))) (white-take l (drop (a - n) (drop n b)) (white-drop (a - n) (drop n b) (white-above n b c u))))

-- and of the bytes before it
pub clip-front : (n : ℕ) (b c : List ℕ) → Under (length b) b n c → (a : ℕ) → strip (take (min n a) c) ≡ strip (take a b)
clip-front n b c u a = go (leb a n) refl
  where
    go : (f : Bool) → leb a n ≡ f → strip (take (min n a) c) ≡ strip (take a b)
    go true e =
        let low = leb-true a n e in
        let p : min n a ≡ a = omega arith in
        rw (p, take_below a n b c low u.same)
    go false e =
        let high = leb-false a n e in
        let p : min n a ≡ n = omega arith in
        let m : a ≡ n + (a - n) = omega arith in
        let o : strip (take a b) ≡ strip (take n b) = ap (λ (x : ℕ). strip (take x b)) m ∙ rw (take-add n (a - n) b, strip-append (take n b) (take (a - n) (drop n b)), white-take (a - n) (drop n b) (white-above n b c u)) (append-nil (strip (take n b))) in
        rw (p, u.same, o)

-- ---- white bytes go from the start

pub shift-front : (p d : List ℕ) → strip p ≡ [] → (a : ℕ) → strip (take (a - length p) d) ≡ strip (take a (p ++ d))
shift-front p d w a = go (leb (length p) a) refl
  where
    go : (f : Bool) → leb (length p) a ≡ f → strip (take (a - length p) d) ≡ strip (take a (p ++ d))
    go true e =
        let low = leb-true (length p) a e in
        let m : a ≡ length p + (a - length p) = omega arith in
        sym (ap (λ (x : ℕ). strip (take x (p ++ d))) m ∙ rw (take-append-add p d (a - length p), strip-append p (take (a - length p) d), w))
    go false e =
        let high = leb-false (length p) a e in
        let z : a - length p ≡ 0 = omega arith in
        rw (z, take-append-le a p d (omega arith), white-take a p w)

pub shift-survives : (p d : List ℕ) → strip p ≡ [] → (r : Row) → Survives (stretch d (shift (length p) r)) (stretch (p ++ d) r)
unfolding shift between
shift-survives p d w r = go r.start r.len (leb (length p) r.start) refl (leb (length p) (r.start + r.len)) refl
  where
    go : (a l : ℕ) (f : Bool) → leb (length p) a ≡ f → (g : Bool) → leb (length p) (a + l) ≡ g
        → Survives (take (a + l - length p - (a - length p)) (drop (a - length p) d)) (take l (drop a (p ++ d)))
    go a l true e g k =
        let low = leb-true (length p) a e in
        let q : a + l - length p - (a - length p) ≡ l = omega arith in
        let m : a ≡ length p + (a - length p) = omega arith in
        let o : drop a (p ++ d) ≡ drop (a - length p) d = ap (λ (x : ℕ). drop x (p ++ d)) m ∙ drop-append-add p d (a - length p) in
        rw (q, o) (survives_all (take l (drop (a - length p) d)))
    go a l false e true k =
        let high = leb-false (length p) a e in
        let low = leb-true (length p) (a + l) k in
        let q : a + l - length p - (a - length p) ≡ a + l - length p = omega arith in
        let z : a - length p ≡ 0 = omega arith in
        let n : l ≡ length (drop a p) + (a + l - length p) = simp length-drop (omega arith) in
        let o : take l (drop a (p ++ d)) ≡ drop a p ++ take (a + l - length p) d = rw (drop-append-le a p d (omega arith)) (ap (λ (x : ℕ). take x (drop a p ++ d)) n ∙ take-append-add (drop a p) d (a + l - length p)) in
        rw (q, z, o) (survives_start (take (a + l - length p) d) (drop a p) (white-drop a p w))
    go a l false e false k =
        let high = leb-false (length p) (a + l) k in
        let q : a + l - length p - (a - length p) ≡ 0 = omega arith in
        let o : take l (drop a (p ++ d)) ≡ take l (drop a p) = rw (drop-append-le a p d (omega arith)) (take-append-le l (drop a p) d (simp length-drop (omega arith))) in
        rw (q, o) (survives_none (take l (drop a p)) (white-take l (drop a p) (white-drop a p w)))

-- ---- what a row says of the final text

module _ (due : ℕ → List ℕ) (b : List ℕ) (x : Shown) (r : Row) (p : Points due b (length b) x r) where
  -- its bytes are a stretch of the value, from a number k on
  pub points_from : (k : ℕ) × (take r.len (drop r.start b) ≡ take r.len (drop k x.value))
  points_from =
      let ends = p.ends in
      let n : length (stretch b r) ≡ r.len = length-take-le r.len (drop r.start b) (simp length-drop (omega arith)) in
      let f = survives_from (stretch b r) x.value p.bytes in
      (f.0, subst (λ (m : ℕ). stretch b r ≡ take m (drop f.0 x.value)) n f.1)

  -- and all of the value's bytes that are not white
  pub points_strip : strip (take r.len (drop r.start b)) ≡ strip x.value
  points_strip = survives_strip (stretch b r) x.value p.bytes
