-- Laws of a block comment: every line but the first that starts with a blank has the indent and one blank instead. Assumes nothing.
use mathlib.Core.Path.{◌≡◌, refl, sym, ap, ◌∙◌}
use mathlib.Core.Bool.{Bool, true, false}
use mathlib.Core.List.{List, [], ◌∷◌, ◌++◌, append_assoc}
use Prim.Native.Nat.{ℕ, zero, suc, ◌+◌, ◌-◌, ◌≤◌, ◌<◌}
use native.Mathlib.Omega.{arith}
use lib.Dec.{eqb}
use lib.ListN.{length, take, drop, get_or, length-drop}
use lib.Seq.{drop-drop, take-take}
use borrow.Author.Tests.{eqb-true}
use Rattle.rules.specs.Text.{Text, is_blank, trim_start, lead_line, indent_comment, append}
use Rattle.ascii.specs.Part.{part, before}
use Rattle.ascii.proofs.PartLaws.{length_part, part-next, part_end, part-drop}
use Rattle.ascii.proofs.FindLaws.{before-next}
use Rattle.text.specs.declared.Text.{Text as Code}
use Rattle.text.specs.Held.{text_of, Held, Laid}
use Rattle.text.proofs.HeldLaws.{laid, appended, append-none}
use Rattle.text.proofs.WorkLaws.{Working, work_goes, work_ends}
use Rattle.words.specs.Words.{blanks, lead_of}

-- ---- the blanks at the start

module _ (s : List ℕ) (start n i : ℕ) (h : start + n ≤ length s) (e : i + blanks (drop i (part s start n)) ≡ blanks (part s start n)) where
  module _ (b : Bool) (c : i < n) (f : b ≡ is_blank (get_or s (start + i) 0)) where
    pub by-blank : b ≡ true → i + 1 + blanks (drop (i + 1) (part s start n)) ≡ blanks (part s start n)
    by-blank g =
        let k : blanks (drop i (part s start n)) ≡ suc (blanks (drop (i + 1) (part s start n))) = rw (part-next s start n i h c, ← f, g) in
        omega arith

    pub by-other : b ≡ false → i ≡ blanks (part s start n)
    by-other g =
        let k : blanks (drop i (part s start n)) ≡ 0 = rw (part-next s start n i h c, ← f, g) in
        omega arith

  pub by-blanks : n ≤ i → i ≡ blanks (part s start n)
  by-blanks c =
      let k : blanks (drop i (part s start n)) ≡ 0 = rw (part_end s start n i h c) in
      omega arith

-- ---- what stands in their place

pub by-no-lead : (t : Code) (d ind : List ℕ) (lead : ℕ) → Held t d → lead ≡ 0 → Laid (length d) (append (length d) (lead_of lead ind) (text_of t d)) (record { len = t.len; floor = t.floor; low = t.low; fault = t.fault }) d
unfolding lead_of
by-no-lead t d ind lead h z = laid _ _ t d refl h (rw z (sym (append-none t d h)))

lead-more : (lead : ℕ) (ind : List ℕ) → (lead ≡ 0 → ⊥) → lead_of lead ind ≡ ind ++ 32 ∷ []
unfolding lead_of
lead-more zero ind z = absurd (z refl)
lead-more (suc n) ind z = refl

pub by-lead : {cap : ℕ} {t u : Code} {d r : List ℕ} (w : Text) (ind : List ℕ) (lead : ℕ) → (lead ≡ 0 → ⊥) → Laid cap (append cap ind w) t d
    → Laid (length d) (append (length d) (32 ∷ []) (text_of t d)) u r → Laid cap (append cap (lead_of lead ind) w) u r
by-lead w ind lead z p q = rw (lead-more lead ind z) (appended ind (32 ∷ []) w p q)

pub by-feed : {cap : ℕ} {t u : Code} {d r : List ℕ} (w : Text) (ind : List ℕ) (lead : ℕ) → Laid cap (append cap (10 ∷ []) w) t d
    → Laid (length d) (append (length d) (lead_of lead ind) (text_of t d)) u r → Laid cap (append cap (10 ∷ lead_of lead ind) w) u r
by-feed w ind lead p q = appended (10 ∷ []) (lead_of lead ind) w p q

-- ---- the rule, a line at a time

module _ (ind : List ℕ) where
  blank-no-line : (y : ℕ) → is_blank y ≡ true → eqb y 10 ≡ false
  blank-no-line y h = go (eqb y 10) refl
    where
      go : (b : Bool) → eqb y 10 ≡ b → eqb y 10 ≡ false
      go false e = e
      go true e =
          let q : y ≡ 10 = eqb-true y 10 e in
          let f : is_blank 10 ≡ true = rw q at h in
          let z : ◌≡◌ {A = ℕ} 0 1 = cc in absurd (omega arith)

  comment-blank : (y : ℕ) (ys : List ℕ) → is_blank y ≡ true → indent_comment ind (y ∷ ys) ≡ y ∷ indent_comment ind ys
  comment-blank y ys h = rw (blank-no-line y h)

  skips : (v : List ℕ) → trim_start is_blank (indent_comment ind v) ≡ indent_comment ind (drop (blanks v) v)
  skips [] = refl
  skips (y ∷ ys) = go (is_blank y) refl (skips ys)
    where
      go : (b : Bool) → is_blank y ≡ b → trim_start is_blank (indent_comment ind ys) ≡ indent_comment ind (drop (blanks ys) ys)
          → trim_start is_blank (indent_comment ind (y ∷ ys)) ≡ indent_comment ind (drop (blanks (y ∷ ys)) (y ∷ ys))
      go true e f = ap (trim_start is_blank) (comment-blank y ys e) ∙ rw e f
      go false e f = rw e

  leads : (v : List ℕ) → lead_line ind (indent_comment ind v) ≡ lead_of (blanks v) ind ++ indent_comment ind (drop (blanks v) v)
  unfolding lead_of
  leads [] = refl
  leads (y ∷ ys) = go (is_blank y) refl
    where
      go : (b : Bool) → is_blank y ≡ b → lead_line ind (indent_comment ind (y ∷ ys)) ≡ lead_of (blanks (y ∷ ys)) ind ++ indent_comment ind (drop (blanks (y ∷ ys)) (y ∷ ys))
      go true e = ap (lead_line ind) (comment-blank y ys e) ∙ rw (e, skips ys) (sym (append_assoc ind (32 ∷ []) _))
      go false e = rw e

  -- a line as it is, and after its feed what stands for the blanks
  comment-run : (v : List ℕ) → indent_comment ind v ≡ take (before 10 v) v ++ indent_comment ind (drop (before 10 v) v)
  comment-run [] = refl
  comment-run (x ∷ xs) = go (eqb x 10) refl (comment-run xs)
    where
      go : (b : Bool) → eqb x 10 ≡ b → indent_comment ind xs ≡ take (before 10 xs) xs ++ indent_comment ind (drop (before 10 xs) xs)
          → indent_comment ind (x ∷ xs) ≡ take (before 10 (x ∷ xs)) (x ∷ xs) ++ indent_comment ind (drop (before 10 (x ∷ xs)) (x ∷ xs))
      go true e f = let k : before 10 (x ∷ xs) ≡ 0 = rw e in rw k
      go false e f = rw e (ap (λ (l : List ℕ). x ∷ l) f)

  comment-feed : (v : List ℕ) → indent_comment ind (10 ∷ v) ≡ (10 ∷ lead_of (blanks v) ind) ++ indent_comment ind (drop (blanks v) v)
  comment-feed v = ap (λ (l : List ℕ). 10 ∷ l) (leads v)

-- ---- the loop

module _ (cap : ℕ) (w : Text) (ind s : List ℕ) (start n i : ℕ) (t : Code) (d : List ℕ)
    (l : Working cap w (indent_comment ind (drop i (part s start n))) t d) (h : start + n ≤ length s) where
  module _ (r : ℕ) (t₁ : Code) (d₁ : List ℕ) (c : i < n) (e : r ≡ before 10 (part s (start + i) (n - i)))
      (p : Laid (length d) (append (length d) (part s (start + i) r) (text_of t d)) t₁ d₁) where
    run_is : r ≡ before 10 (drop i (part s start n))
    run_is = e ∙ ap (before 10) (sym (part-drop s start n i))

    -- after the line
    line : r ≤ n - i → Working cap w (indent_comment ind (drop (i + r) (part s start n))) t₁ d₁
    line g =
        let v = drop i (part s start n) in
        let a : part s (start + i) r ≡ take (before 10 v) v =
        sym (ap (λ (k : ℕ). take k v) (sym run_is) ∙ ap (take r) (part-drop s start n i) ∙ take-take r (n - i) (drop (start + i) s) g) in
        let b : indent_comment ind v ≡ part s (start + i) r ++ indent_comment ind (drop (i + r) (part s start n)) =
        comment-run ind v ∙ ap (λ (x : List ℕ). x ++ indent_comment ind (drop (before 10 v) v)) (sym a)
        ∙ ap (λ (k : ℕ). part s (start + i) r ++ indent_comment ind (drop k v)) (sym run_is) ∙ ap (λ (x : List ℕ). part s (start + i) r ++ indent_comment ind x) (drop-drop r i (part s start n)) in
        work_goes l (part s (start + i) r) _ b p

    pub by-last-line : r ≤ n - i → i + r ≡ n → Laid cap w t₁ d₁
    by-last-line g z = work_ends (line g) (rw (part_end s start n (i + r) h (omega arith)))

    pub by-comment : (lead : ℕ) (u : Code) (k : List ℕ) → r ≤ n - i → (i + r ≡ n → ⊥) → lead ≡ blanks (part s (start + (i + r + 1)) (n - (i + r + 1)))
        → Laid (length d₁) (append (length d₁) (10 ∷ lead_of lead ind) (text_of t₁ d₁)) u k → Working cap w (indent_comment ind (drop (i + r + 1 + lead) (part s start n))) u k
    by-comment lead u k g z f q =
        let v = drop i (part s start n) in
        let x = drop (i + r + 1) (part s start n) in
        let m = length_part s start n h in
        let y : length v ≡ n - i = length-drop i (part s start n) ∙ ap (λ (j : ℕ). j - i) m in
        let lt : r < length v = omega arith in
        let j : i + (r + 1) ≡ i + r + 1 = omega arith in
        let feed : drop (i + r) (part s start n) ≡ 10 ∷ x =
        sym (drop-drop r i (part s start n)) ∙ ap (λ (a : ℕ). drop a v) run_is ∙ before-next 10 v (rw run_is at lt) ∙ ap (λ (a : ℕ). 10 ∷ drop (a + 1) v) (sym run_is)
        ∙ ap (λ (a : List ℕ). 10 ∷ a) (drop-drop (r + 1) i (part s start n) ∙ ap (λ (a : ℕ). drop a (part s start n)) j) in
        let b : lead ≡ blanks x = f ∙ ap blanks (sym (part-drop s start n (i + r + 1))) in
        let a : indent_comment ind (drop (i + r) (part s start n)) ≡ (10 ∷ lead_of lead ind) ++ indent_comment ind (drop (i + r + 1 + lead) (part s start n)) =
        ap (indent_comment ind) feed ∙ comment-feed ind x ∙ ap (λ (a : ℕ). (10 ∷ lead_of a ind) ++ indent_comment ind (drop a x)) (sym b)
        ∙ ap (λ (a : List ℕ). (10 ∷ lead_of lead ind) ++ indent_comment ind a) (drop-drop lead (i + r + 1) (part s start n)) in
        work_goes (line g) (10 ∷ lead_of lead ind) _ a q

  pub by-comment-end : n ≤ i → Laid cap w t d
  by-comment-end c = work_ends l (rw (part_end s start n i h c))
