-- What a reader of `reach` may say of its result. Assumes nothing.
use Rattle.std.proofs.Common.{◌≡◌, refl, sym, ap, ◌∙◌, Bool, true, false, Option, None, Some, List, [], ◌∷◌, ℕ, suc, ◌-◌, ◌≤◌, eqb, length, drop, arith}
use Rattle.std.proofs.Math.Seq.{drop-cons}
use Rattle.std.proofs.lemmas.List.{length-drop}
use Rattle.std.specs.Prelude.{if◌then◌else◌}
use Rattle.rules.specs.Due.{white, strip}
use Rattle.foreign.specs.Foreign.{begins}
use Rattle.matching.specs.Read.{read_to}

-- ---- the reading, held against `begins`

-- a reading of v, rest being what is left of the text before it, white bytes taken out: whether it begins with v, and what is left then
abbrev pub ReadsAs : List ℕ → List ℕ → List ℕ → Option ℕ → Type 0
ReadsAs v rest text None = begins v rest ≡ false
ReadsAs v rest text (Some at) = (begins v rest ≡ true) × ((strip (drop at text) ≡ drop (length v) rest) × (at ≤ length text))

tail_drop : (text part : List ℕ) (at y : ℕ) → drop at text ≡ y ∷ part → (drop (suc at) text ≡ part) × (suc at ≤ length text)
tail_drop text part at y h =
    let k : length text - at ≡ suc (length part) = sym (length-drop at text) ∙ ap length h in
    let e = sym (drop-cons text at 0 (omega arith)) ∙ h in
    (cc, omega arith)

one_more : (x y : ℕ) (v rest text : List ℕ) (o : Option ℕ) → eqb x y ≡ true → ReadsAs v rest text o → ReadsAs (x ∷ v) (y ∷ rest) text o
unfolding begins
one_more x y v rest text None q r = rw q r
one_more x y v rest text (Some at) q r = (rw q r.0, r.1)

read_is : (v part text : List ℕ) (at : ℕ) → drop at text ≡ part → at ≤ length text → ReadsAs v (strip part) text (read_to v at part)
unfolding read_to begins
read_is [] part text at h l = (refl, (ap strip h, l))
read_is (x ∷ v) [] text at h l = refl
read_is (x ∷ v) (y ∷ part) text at h l =
    let t = tail_drop text part at y h in
    go (white y) (eqb x y) refl (read_is (x ∷ v) part text (suc at) t.0 t.1) (read_is v part text (suc at) t.0 t.1)
  where
    go : (w e : Bool) → eqb x y ≡ e → ReadsAs (x ∷ v) (strip part) text (read_to (x ∷ v) (suc at) part) → ReadsAs v (strip part) text (read_to v (suc at) part)
        → ReadsAs (x ∷ v) (if w then strip part else y ∷ strip part) text (if w then read_to (x ∷ v) (suc at) part else if e then read_to v (suc at) part else None)
    go true e q same next = same
    go false true q same next = one_more x y v (strip part) text (read_to v (suc at) part) q next
    go false false q same next = rw q

-- r reads v from a byte of the text on: it begins with v and so much is left, or it does not begin with v
module _ (v text : List ℕ) (from : ℕ) (l : from ≤ length text) (r : Option ℕ) (e : r ≡ read_to v from (drop from text)) where
  reads : ReadsAs v (strip (drop from text)) text r
  reads = rw e (read_is v (drop from text) text from refl l)

  pub reached-some : (at : ℕ) → r ≡ Some at → (begins v (strip (drop from text)) ≡ true) × ((strip (drop at text) ≡ drop (length v) (strip (drop from text))) × (at ≤ length text))
  reached-some at z = rw z at reads

  pub reached-none : r ≡ None → begins v (strip (drop from text)) ≡ false
  reached-none z = rw z at reads
