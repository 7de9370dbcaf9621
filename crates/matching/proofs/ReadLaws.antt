-- Laws of the reading, a byte at a time. Assumes nothing.
use Rattle.std.proofs.Common.{◌≡◌, refl, sym, ap, ◌∙◌, Bool, true, false, Option, Some, None, List, [], ◌∷◌, ◌++◌, ℕ, suc, ◌+◌, ◌≤◌, ◌<◌, eqb, length, drop, get_or, arith, add-one}
use Rattle.std.proofs.Math.ListN.{drop_of_length-le}
use Rattle.std.proofs.Math.Seq.{drop-cons}
use Rattle.std.proofs.lemmas.Bool.{eqb-true, eqb-false, eq-eqb, ne_eqb}
use Rattle.std.proofs.lemmas.Bool.Decides.{nat_tests}
use Rattle.rules.specs.declared.Case.{Case}
use Rattle.rules.specs.Base.{same}
use Rattle.rules.specs.Text.{is_white, byte_in_case, in_case}
use Rattle.rules.specs.Due.{white, strip}
use Rattle.rules.proofs.Strip.{white-true, strip-append}
use Rattle.matching.specs.Read.{read_to, Skipped, goes_on, Byte}

white-false : (x : ℕ) → is_white x ≡ false → white x ≡ false
white-false x h = grind (arith, nat_tests)

-- ---- past white bytes

-- only white bytes stand from a byte to another
pub record Passed (text : List ℕ) (from at : ℕ) : Type 0 where
  pub within : at ≤ length text
  pub left : strip (drop from text) ≡ strip (drop at text)
  pub read : (x : ℕ) (v : List ℕ) → read_to (x ∷ v) from (drop from text) ≡ read_to (x ∷ v) at (drop at text)

pub passed_none : (text : List ℕ) (from : ℕ) → from ≤ length text → Passed text from from
passed_none text from h = record { within = h; left = refl; read = λ x v. refl }

module _ (text : List ℕ) (from at : ℕ) (p : Passed text from at) where
  pub passed-one : at < length text → (b : Bool) → b ≡ is_white (get_or text at 0) → b ≡ true → Passed text from (at + 1)
  unfolding read_to
  passed-one l b h e =
      let w = white-true (get_or text at 0) (sym h ∙ e) in
      record {
        within = omega arith;
        left = p.left ∙ rw (drop-cons text at 0 l, w, add-one);
        read = λ x v. p.read x v ∙ rw (drop-cons text at 0 l, w, add-one);
      }

  pub skipped_here : at < length text → (b : Bool) → b ≡ is_white (get_or text at 0) → b ≡ false → Skipped text from at
  skipped_here l b h e = record { within = p.within; left = p.left; read = p.read; stops = λ k. white-false (get_or text at 0) (sym h ∙ e) }

  pub skipped_all : length text ≤ at → Skipped text from (length text)
  skipped_all l = let e : length text ≡ at = let k = p.within in omega arith in rw e (record { within = p.within; left = p.left; read = p.read; stops = λ k. absurd (omega arith) })

pub ruleset skips = (passed_none, skipped_here, skipped_all)

-- ---- nothing is left, or something

pub none_left : (text : List ℕ) (from at : ℕ) → Skipped text from at → eqb at (length text) ≡ same [] (strip (drop from text))
none_left text from at k = go (eqb at (length text)) refl
  where
    go : (b : Bool) → eqb at (length text) ≡ b → b ≡ same [] (strip (drop from text))
    go true e = let q : length text ≤ at = let z = eqb-true at (length text) e in omega arith in rw (k.left, drop_of_length-le text q)
    go false e =
        let l : at < length text = let q = k.within in let n = eqb-false at (length text) e in omega arith in
        rw (k.left, drop-cons text at 0 l, k.stops l)

-- ---- one byte

module _ (b : ℕ) (text : List ℕ) (from : ℕ) (w : Bool) (h : w ≡ is_white b) where
  pub byte-white : from ≤ length text → w ≡ true → Byte b text from (Some from)
  byte-white l e = record { within = λ at p. let q : from ≡ at = cc in omega arith; read = λ v. rw (white-true b (sym h ∙ e)) }

  module _ (e : w ≡ false) (at : ℕ) (k : Skipped text from at) where
    pub byte-lacks : length text ≤ at → Byte b text from None
    unfolding read_to
    byte-lacks z = record { within = λ p q. cc; read = λ v. rw (white-false b (sym h ∙ e), k.read b v, drop_of_length-le text z) }

    pub byte-differs : at < length text → (get_or text at 0 ≡ b → ⊥) → Byte b text from None
    unfolding read_to
    byte-differs l d = record { within = λ p q. cc; read = λ v. rw (white-false b (sym h ∙ e), k.read b v, drop-cons text at 0 l, k.stops l, ne_eqb b (get_or text at 0) (λ q. d (sym q))) }

    pub byte-found : at < length text → get_or text at 0 ≡ b → Byte b text from (Some (at + 1))
    unfolding read_to
    byte-found l d = record {
      within = λ p q. let r : at + 1 ≡ p = cc in omega arith;
      read = λ v. rw (white-false b (sym h ∙ e), k.read b v, drop-cons text at 0 l, k.stops l, eq-eqb b (get_or text at 0) (sym d), add-one);
    }

pub ruleset bytes_read = (byte-white, byte-lacks, byte-differs, byte-found)

-- ---- the bytes v, in a case

-- i of them are read, up to a byte of the text
pub record Reading (v : List ℕ) (k : Case) (text : List ℕ) (from at i : ℕ) : Type 0 where
  pub within : at ≤ length text
  pub left : read_to (strip (in_case k (drop i v))) at (drop at text) ≡ read_to (strip (in_case k v)) from (drop from text)

pub reading_none : (v : List ℕ) (k : Case) (text : List ℕ) (from : ℕ) → from ≤ length text → Reading v k text from from 0
reading_none v k text from l = record { within = l; left = refl }

module _ (v : List ℕ) (k : Case) (text : List ℕ) (from at i : ℕ) (m : Reading v k text from at i) where
  pub reading_done : length v ≤ i → Some at ≡ read_to (strip (in_case k v)) from (drop from text)
  unfolding read_to
  reading_done l = rw (← m.left, drop_of_length-le v l)

  module _ (l : i < length v) (b : ℕ) (e : b ≡ byte_in_case k (get_or v i 0)) (r : Option ℕ) (o : Byte b text at r) where
    next : read_to (strip (in_case k v)) from (drop from text) ≡ goes_on (strip (in_case k (drop (i + 1) v))) text r
    next =
        let split : strip (in_case k (drop i v)) ≡ strip (b ∷ []) ++ strip (in_case k (drop (i + 1) v)) = rw (drop-cons v i 0 l, ← e, add-one) (strip-append (b ∷ []) (in_case k (drop (suc i) v))) in
        sym m.left ∙ ap (λ (w : List ℕ). read_to w at (drop at text)) split ∙ o.read (strip (in_case k (drop (i + 1) v)))

    pub reading_on : (a : ℕ) → r ≡ Some a → Reading v k text from a (i + 1)
    reading_on a z = record { within = o.within a z; left = sym (rw z at next) }

    pub reading_fails : r ≡ None → None ≡ read_to (strip (in_case k v)) from (drop from text)
    reading_fails z = sym (rw z at next)

pub ruleset readings = (reading_none, reading_done, reading_on, reading_fails)
