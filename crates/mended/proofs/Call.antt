-- The call that mends: the sheet and the report that it leaves.
use mathlib.Core.Path.{◌≡◌, refl, ap, ◌∙◌}
use mathlib.Core.Bool.{Bool, true, false}
use mathlib.Core.List.{List, [], ◌∷◌, ◌++◌}
use Prim.Native.Nat.{ℕ, ◌-◌, ◌*◌}
use native.Mathlib.Nat.{sub-zero}
use native.Mathlib.Omega.{arith}
use lib.Dec.{ltb}
use lib.ListN.{length, replicate}
use lib.Seq.{drop_at}
use Rattle.rules.specs.declared.Counts.{Counts}
use Rattle.rules.specs.declared.Outcome.{Outcome}
use Rattle.std.specs.Prelude.{if◌then◌else◌, None, Option, Some, ℕ, Ok}
use Rattle.rules.specs.Words.{counts_of}
use Rattle.rules.specs.Checks.{sizes, checked}
use Rattle.word_bytes.proofs.WordLaws.{Small}
use Rattle.mended.specs.Mended.{mended, Change, changes, change_words, Mending, mends, refusal, mend_from, mend, mend_outcome, sheet_after, report_after}
use Rattle.mended.specs.Mends.{rows_in, GoodSheet, Mends}
use Rattle.mended.proofs.Laws.{small-mended}
use Rattle.mended.proofs.Theorem.{untouched-call, good-sheet}

-- ---- the report read back

rows_back : (rows : List Change) (rest : List ℕ) → rows_in (length rows) (change_words rows ++ rest) ≡ rows
unfolding rows_in change_words
rows_back [] rest = refl
rows_back (x ∷ xs) rest = ap (λ (l : List Change). x ∷ l) (rows_back xs rest)

pub length-rows : (rows : List Change) → length (change_words rows) ≡ 3 * length rows
unfolding change_words
length-rows [] = refl
length-rows (x ∷ xs) = omega (arith, length-rows xs)

-- ---- what the call gives

module _ (s : List ℕ) (small : Small s) where
  -- what is mended is good, its rows are what changed, and mending it again gives it back; a refusal has a number
  Says : Mending → Type 0
  Says (mends t rows) = GoodSheet s t rows × ((rows ≡ changes s t (counts_of s)) × ((n : ℕ) → mend t n ≡ mends t []))
  Says (refusal n) = n ≡ 0 → ⊥

  enough : sizes s ≡ None → (short : Bool) → Says (if short then refusal 13 else mends (mended s (counts_of s)) (changes s (mended s (counts_of s)) (counts_of s)))
  unfolding Says
  enough h true = λ z. omega arith
  enough h false =
      let g = good-sheet s small h in
      (g, (refl, untouched-call (mended s (counts_of s)) (small-mended s (counts_of s)) (counts_of s) g.sound))

  says : (k : ℕ) (o : Option ℕ) → sizes s ≡ o → Says (mend_from s k o)
  unfolding Says mend_from
  says k (Some p) h = λ z. omega arith
  says k None h = enough h (ltb k (3 * length (changes s (mended s (counts_of s)) (counts_of s))))

  -- a sound sheet, by the equation of the call on it
  whole : (k : ℕ) (m : Mending) → m ≡ mends s [] → (mend_outcome m ≡ record { refusal = 0; place = 0; length = 0 }) × ((sheet_after s m ≡ s) × (report_after k m ≡ replicate k 0))
  unfolding mend_outcome sheet_after report_after change_words
  whole k m e = rw e (refl, (refl, rw (sub-zero k)))

  mends-so : (k : ℕ) (m : Mending) → Says m → ((c : Counts) → checked s ≡ Ok c → m ≡ mends s []) → Mends s k (mend_outcome m) (sheet_after s m) (report_after k m)
  unfolding Says mend_outcome sheet_after report_after
  mends-so k (mends t rows) (good, (all, again)) sound =
      let rest : List ℕ = replicate (k - 3 * length rows) 0 in
      record {
        good = λ z. rw (rows_back rows rest) good;
        rows = λ z. rows_back rows rest ∙ all;
        rest = λ z. drop_at (change_words rows) rest (3 * length rows) (length-rows rows);
        again = λ z. again;
        refused = λ n. absurd (n refl);
        untouched = λ c h. whole k (mends t rows) (sound c h);
      }
  mends-so k (refusal n) some sound =
      record {
        good = λ z. absurd (some z);
        rows = λ z. absurd (some z);
        rest = λ z. absurd (some z);
        again = λ z. absurd (some z);
        refused = λ z. (refl, refl);
        untouched = λ c h. whole k (refusal n) (sound c h);
      }

-- any outcome, sheet and report that the call's three equations allow
pub call_mends : (s : List ℕ) (k : ℕ) (r : Outcome) (t report : List ℕ) → Small s → r ≡ mend_outcome (mend s k) → t ≡ sheet_after s (mend s k) → report ≡ report_after k (mend s k) → Mends s k r t report
unfolding mend
call_mends s k r t report small e f g =
    rw (e, f, g) (mends-so s small k (mend_from s k (sizes s)) (says s small k (sizes s) refl) (λ c h. untouched-call s small c h k))
