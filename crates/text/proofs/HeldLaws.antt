-- Laws of the working text that every caller uses: what a buffer stands for, the one way to a `Laid`, and one call after another. Assumes nothing.
use mathlib.Core.Path.{◌≡◌, refl, sym, ap, ◌∙◌}
use mathlib.Core.Logic.{◌⊎◌, inl, inr, ⊎_elim}
use mathlib.Core.Bool.{Bool, true, false}
use mathlib.Core.List.{List, [], ◌++◌, append_assoc, append-nil}
use Prim.Native.Nat.{ℕ, ◌+◌, ◌-◌, ◌≤◌, ◌<◌}
use native.Mathlib.Nat.{sub-zero}
use native.Mathlib.Omega.{arith}
use lib.Dec.{leb, eqb}
use lib.ListN.{length, take, drop, replicate, length-append, take-append-drop}
use lib.Seq.{length-take-le}
use borrow.Author.Tests.{le-leb, lt-leb, leb-true, leb-false, eq-eqb, ne_eqb, eqb-true, eqb-false}
use Rattle.rules.specs.Text.{Text, fits, refused, append, mark}
use Rattle.text.specs.declared.Text.{Text as Code}
use Rattle.text.specs.Held.{text_of, Held, code_of, bytes_of, Laid, marked}

zero_or_by : (n : ℕ) (b : Bool) → eqb n 0 ≡ b → (n ≡ 0) ⊎ (n ≡ 0 → ⊥)
zero_or_by n true h = inl (eqb-true n 0 h)
zero_or_by n false h = inr (eqb-false n 0 h)

pub zero_or : (n : ℕ) → (n ≡ 0) ⊎ (n ≡ 0 → ⊥)
zero_or n = zero_or_by n (eqb n 0) refl

le_or_by : (a b : ℕ) (t : Bool) → leb a b ≡ t → (a ≤ b) ⊎ (b < a)
le_or_by a b true h = inl (leb-true a b h)
le_or_by a b false h = inr (leb-false a b h)

pub le_or : (a b : ℕ) → (a ≤ b) ⊎ (b < a)
le_or a b = le_or_by a b (leb a b) refl

module _ (t : Code) (d : List ℕ) where
  pub text-fits : t.fault ≡ 0 → text_of t d ≡ fits t.floor t.low (take t.len d)
  unfolding text_of
  text-fits h = simp (eq-eqb _ _ h)

  pub text-refused : (t.fault ≡ 0 → ⊥) → text_of t d ≡ refused t.fault
  unfolding text_of
  text-refused h = simp (ne_eqb _ _ h)

-- ---- exactness

code_same : (t u : Code) → t.len ≡ u.len → t.floor ≡ u.floor → t.low ≡ u.low → t.fault ≡ u.fault → t ≡ u
code_same t u e g l f =
    ap (λ (n : ℕ). mk n t.floor t.low t.fault) e ∙ ap (λ (n : ℕ). mk u.len n t.low t.fault) g
    ∙ ap (λ (n : ℕ). mk u.len u.floor n t.fault) l ∙ ap (λ (n : ℕ). mk u.len u.floor u.low n) f
  where
    mk : ℕ → ℕ → ℕ → ℕ → Code
    mk n m l k = record { len = n; floor = m; low = l; fault = k }

-- what lies within an empty text is 0
no_more : (n : ℕ) (t : Code) (d : List ℕ) → Held t d → (t.fault ≡ 0 → ⊥) → n ≤ t.len → n ≡ 0
no_more n t d h z l = let e = h.empty z in omega arith

-- a refused text is its fault
pub only-fault : (t : Code) (d : List ℕ) → Held t d → (t.fault ≡ 0 → ⊥) → t ≡ record { len = 0; floor = 0; low = 0; fault = t.fault }
only-fault t d h z = code_same t _ (h.empty z) (no_more _ t d h z h.floored) (no_more _ t d h z h.lowest) refl

exact-code : (t : Code) (d : List ℕ) → Held t d → t ≡ code_of (text_of t d)
unfolding code_of
exact-code t d h =
    ⊎_elim
    (λ (z : t.fault ≡ 0). rw (text-fits t d z) (code_same t _ (sym (length-take-le t.len d h.within)) refl refl z))
    (λ (z : t.fault ≡ 0 → ⊥). rw (text-refused t d z) (code_same t _ (h.empty z) (no_more _ t d h z h.floored) (no_more _ t d h z h.lowest) refl))
    (zero_or t.fault)

exact_bytes : (t : Code) (d : List ℕ) → Held t d → d ≡ bytes_of (length d) (text_of t d)
unfolding bytes_of
exact_bytes t d h =
    ⊎_elim
    (λ (z : t.fault ≡ 0). rw (text-fits t d z, length-take-le t.len d h.within, ← h.zeros) (sym (take-append-drop t.len d)))
    (λ (z : t.fault ≡ 0 → ⊥).
    let e : t.len ≡ 0 = h.empty z in
    let f : drop 0 d ≡ replicate (length d - 0) 0 = rw e at h.zeros in
    rw (text-refused t d z) (f ∙ rw sub-zero))
    (zero_or t.fault)

-- the one way to a `Laid`
pub laid : (cap : ℕ) (w : Text) (t : Code) (d : List ℕ) → length d ≡ cap → Held t d → text_of t d ≡ w → Laid cap w t d
laid cap w t d l h e =
    record {
      room = l;
      code = exact-code t d h ∙ ap code_of e;
      bytes = exact_bytes t d h ∙ cc;
      held = h;
      text = e;
    }

-- ---- a mark

module _ (t : Code) (d : List ℕ) (h : Held t d) where
  pub held-marked : Held (marked t) d
  held-marked = record { within = h.within; floored = h.floored; lowest = omega arith; zeros = h.zeros; empty = h.empty }

  pub text-marked : text_of (marked t) d ≡ mark (text_of t d)
  text-marked =
      ⊎_elim
      (λ (z : t.fault ≡ 0). rw (text-fits (marked t) d z, text-fits t d z, length-take-le t.len d h.within))
      (λ (z : t.fault ≡ 0 → ⊥). rw (text-refused (marked t) d z, text-refused t d z))
      (zero_or t.fault)

-- nothing is done
pub laid_same : (t : Code) (d : List ℕ) → Held t d → Laid (length d) (text_of t d) t d
laid_same t d h = laid (length d) (text_of t d) t d refl h refl

-- another name for the room, and for the text
pub relaid : {cap c : ℕ} {w v : Text} {t : Code} {d : List ℕ} → c ≡ cap → w ≡ v → Laid c w t d → Laid cap v t d
relaid {cap} {c} {w} {v} {t} {d} e f p =
    record { room = p.room ∙ e; code = p.code ∙ ap code_of f; bytes = p.bytes ∙ cc; held = p.held; text = p.text ∙ f }

-- ---- one call after another: g of what the call before left

pub laid_then : {cap c : ℕ} {w : Text} {t u : Code} {d r : List ℕ} (g : ℕ → Text → Text) → Laid cap w t d → c ≡ cap → Laid c (g c (text_of t d)) u r → Laid cap (g cap w) u r
laid_then {cap} {c} {w} {t} {u} {d} {r} g p e q = relaid e (ap (λ (n : ℕ). g n (text_of t d)) e ∙ ap (g cap) p.text) q

-- in the one buffer
pub onward : {cap : ℕ} {w : Text} {t u : Code} {d r : List ℕ} (g : ℕ → Text → Text) → Laid cap w t d → Laid (length d) (g (length d) (text_of t d)) u r → Laid cap (g cap w) u r
onward g p q = laid_then g p p.room q

-- ---- two appends are one, and none is nothing

pub append-append : (room : ℕ) (v w : List ℕ) (t : Text) → append room v (append room w t) ≡ append room (w ++ v) t
append-append room v w (refused n) = refl
append-append room v w (fits floor low b) =
    let l : length (w ++ v) ≡ length w + length v = length-append w v in
    let m : length (b ++ w) ≡ length b + length w = length-append b w in
    ⊎_elim
    (λ (h : length b + length w ≤ room).
    ⊎_elim
    (λ (k : length (b ++ w) + length v ≤ room).
    let f : length b + length (w ++ v) ≤ room = omega arith in
    simp (le-leb _ _ h, le-leb _ _ k, le-leb _ _ f, append_assoc))
    (λ (k : room < length (b ++ w) + length v).
    let f : room < length b + length (w ++ v) = omega arith in
    simp (le-leb _ _ h, lt-leb _ _ k, lt-leb _ _ f))
    (le_or (length (b ++ w) + length v) room))
    (λ (h : room < length b + length w).
    let f : room < length b + length (w ++ v) = omega arith in
    simp (lt-leb _ _ h, lt-leb _ _ f))
    (le_or (length b + length w) room)

pub append-none : (t : Code) (d : List ℕ) → Held t d → append (length d) [] (text_of t d) ≡ text_of t d
append-none t d h =
    ⊎_elim
    (λ (z : t.fault ≡ 0).
    let w = h.within in
    let l = length-take-le t.len d w in
    let k : length (take t.len d) + 0 ≤ length d = omega arith in
    rw (text-fits t d z, le-leb _ _ k, append-nil))
    (λ (z : t.fault ≡ 0 → ⊥). rw (text-refused t d z))
    (zero_or t.fault)

-- one append after another
pub appended : {cap : ℕ} {t u : Code} {d r : List ℕ} (p q : List ℕ) (w : Text) → Laid cap (append cap p w) t d
    → Laid (length d) (append (length d) q (text_of t d)) u r → Laid cap (append cap (p ++ q) w) u r
appended {cap} p q w k l = relaid refl (append-append cap q p w) (onward (λ n. append n q) k l)
