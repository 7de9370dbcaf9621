-- Laws of a line feed, one blank and a new line. Assumes nothing.
use mathlib.Core.Path.{◌≡◌, refl, sym, ap, ◌∙◌}
use mathlib.Core.Logic.{⊎_elim}
use mathlib.Core.Bool.{Bool, true, false}
use mathlib.Core.List.{List, [], ◌∷◌, ◌++◌}
use Prim.Native.Nat.{ℕ, suc, ◌-◌, ◌≤◌, ◌<◌}
use native.Mathlib.Omega.{arith}
use lib.Dec.{eqb}
use lib.ListN.{length, take, get_or}
use lib.Seq.{length-take-le, take-suc}
use Rattle.rules.specs.declared.Inline.{Inline}
use Rattle.rules.specs.declared.Inline.TheVariants as inline
use Rattle.rules.specs.Text.{Text, fits, append, line_feed, last_or, cut_blanks, hold, new_line, closing_line}
use Rattle.text.specs.declared.Text.{Text as Code}
use Rattle.text.specs.Held.{text_of, Held, Laid, held_whole}
use Rattle.text.proofs.HeldLaws.{zero_or, text-fits, text-refused, laid, relaid, onward}

-- ---- the last byte

last_snoc : (a : ℕ) (l : List ℕ) (x : ℕ) → last_or a (l ++ (x ∷ [])) ≡ x
last_snoc a [] x = refl
last_snoc a (y ∷ ys) x = last_snoc y ys x

pub by_last : (d : List ℕ) (n : ℕ) → (n ≡ 0 → ⊥) → n ≤ length d → eqb (get_or d (n - 1) 0) 10 ≡ eqb (last_or 0 (take n d)) 10
by_last d n z h =
    let k : n - 1 < length d = omega arith in
    let s : n ≡ suc (n - 1) = omega arith in
    let e : take n d ≡ take (n - 1) d ++ (get_or d (n - 1) 0 ∷ []) = ap (λ (m : ℕ). take m d) s ∙ take-suc d (n - 1) 0 k in
    rw (e, last_snoc)

pub by-empty : (d : List ℕ) (n : ℕ) → n ≡ 0 → false ≡ eqb (last_or 0 (take n d)) 10
by-empty d n z = rw z

-- ---- a line feed

module _ (t : Code) (d : List ℕ) (b : Bool) (e : b ≡ eqb (last_or 0 (take t.len d)) 10) where
  pub by-fed : Held t d → b ≡ true → Laid (length d) (line_feed (length d) (text_of t d)) (record { len = t.len; floor = t.floor; low = t.low; fault = t.fault }) d
  by-fed h k =
      laid _ _ t d refl h
      (⊎_elim
      (λ (q : t.fault ≡ 0). rw (text-fits t d q, ← e, k))
      (λ (q : t.fault ≡ 0 → ⊥). rw (text-refused t d q))
      (zero_or t.fault))

  pub by-feed : (u : Code) (r : List ℕ) → b ≡ false → Laid (length d) (append (length d) (10 ∷ []) (text_of t d)) u r → Laid (length d) (line_feed (length d) (text_of t d)) u r
  by-feed u r k p =
      relaid refl
      (⊎_elim
      (λ (q : t.fault ≡ 0). rw (text-fits t d q, ← e, k))
      (λ (q : t.fault ≡ 0 → ⊥). rw (text-refused t d q))
      (zero_or t.fault))
      p

-- ---- one blank, and a new line

pub by-blank : {cap : ℕ} (w : Text) {t u : Code} {d r : List ℕ} → Laid cap (cut_blanks w) t d → Laid (length d) (append (length d) (32 ∷ []) (text_of t d)) u r
    → Laid cap (append cap (32 ∷ []) (cut_blanks w)) u r
by-blank w p q = onward (λ n. append n (32 ∷ [])) p q

module _ {cap : ℕ} (w : Text) {u : Code} {r : List ℕ} (ind : List ℕ) (i : Bool) where
  pub by-line-in : i ≡ true → Laid cap (append cap (32 ∷ []) (cut_blanks w)) u r → Laid cap (new_line cap i ind w) u r
  unfolding new_line
  by-line-in h q = rw h q

  pub by-line-out : {t₁ t₂ : Code} {d₁ d₂ : List ℕ} → i ≡ false → Laid cap (cut_blanks w) t₁ d₁ → Laid (length d₁) (line_feed (length d₁) (text_of t₁ d₁)) t₂ d₂
      → Laid (length d₂) (append (length d₂) ind (text_of t₂ d₂)) u r → Laid cap (new_line cap i ind w) u r
  unfolding new_line
  by-line-out h p q v = rw h (onward (λ n. append n ind) (onward line_feed p q) v)

-- ---- a line that is held

pub by-hold : {cap : ℕ} (w : Text) {t u : Code} {d : List ℕ} → Laid cap w t d → u ≡ held_whole t → Laid cap (hold w) u d
by-hold {cap} w {t} {u} {d} p e =
    let h = p.held in
    rw e
    (laid cap (hold w) (held_whole t) d p.room (record { within = h.within; floored = omega arith; lowest = h.lowest; zeros = h.zeros; empty = h.empty })
    (⊎_elim
    (λ (q : t.fault ≡ 0). text-fits (held_whole t) d q ∙ ap (λ (n : ℕ). fits n t.low (take t.len d)) (sym (length-take-le t.len d h.within)) ∙ ap hold (sym (text-fits t d q) ∙ p.text))
    (λ (q : t.fault ≡ 0 → ⊥). text-refused (held_whole t) d q ∙ ap hold (sym (text-refused t d q) ∙ p.text))
    (zero_or t.fault)))

pub by-held-line : {cap : ℕ} (w : Text) {t₁ t₂ u : Code} {d₁ d₂ : List ℕ} → Laid cap (cut_blanks w) t₁ d₁ → Laid (length d₁) (line_feed (length d₁) (text_of t₁ d₁)) t₂ d₂ → u ≡ held_whole t₂
    → Laid cap (hold (line_feed cap (cut_blanks w))) u d₂
by-held-line {cap} w p q e = by-hold (line_feed cap (cut_blanks w)) (onward line_feed p q) e

module _ {cap : ℕ} (w : Text) {u : Code} {r : List ℕ} (ind : List ℕ) (i : Inline) where
  pub by-closed-out : i ≡ inline.Off → Laid cap (new_line cap false ind w) u r → Laid cap (closing_line cap i ind w) u r
  unfolding closing_line
  by-closed-out h q = rw h q

  pub by-closed-held : i ≡ inline.Comments → Laid cap (hold (line_feed cap (cut_blanks w))) u r → Laid cap (closing_line cap i ind w) u r
  unfolding closing_line
  by-closed-held h q = rw h q
