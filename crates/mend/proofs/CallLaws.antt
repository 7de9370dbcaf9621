-- What the call is. Assumes nothing.
use Rattle.std.proofs.Common.{◌≡◌, refl, ℕ, List, map, ◌*◌, ◌≤◌, ◌<◌, length, Option, None, Some, true}
use Rattle.std.specs.Prelude.{is_some}
use Rattle.std.proofs.lemmas.List.{length-map}
use borrow.Author.Tests.{lt-ltb, le-ltb}
use Rattle.rules.specs.Words.{counts_of}
use Rattle.rules.specs.Checks.{sizes}
use Rattle.word_bytes.proofs.WordLaws.{Small}
use Rattle.mended.specs.Mended.{mended, mends, refusal, mend_from, mend, mend_outcome, report_after}
use Rattle.mend.specs.Items.{changed_in, row_of, report_of}
use Rattle.mend.proofs.WriteLaws.{rows_are}

module _ (s : List ℕ) (k : ℕ) where
  pub one : is_some (sizes s) ≡ true → mend s k ≡ refusal 1
  unfolding mend mend_from
  one h = by-size (sizes s) h
    where
      by-size : (o : Option ℕ) → is_some o ≡ true → mend_from s k o ≡ refusal 1
      by-size None e = cc
      by-size (Some p) e = refl

  module _ (h : sizes s ≡ None) (small : Small s) where
    pub thirteen : k < 3 * length (changed_in s (counts_of s)) → mend s k ≡ refusal 13
    unfolding mend mend_from
    thirteen l = rw (h, rows_are s (counts_of s) small, length-map, lt-ltb k _ l)

    pub all : 3 * length (changed_in s (counts_of s)) ≤ k → mend s k ≡ mends (mended s (counts_of s)) (map row_of (changed_in s (counts_of s)))
    unfolding mend mend_from
    all l = rw (h, rows_are s (counts_of s) small, length-map, le-ltb k _ l)

    pub all_outcome : 3 * length (changed_in s (counts_of s)) ≤ k → mend_outcome (mend s k) ≡ record { refusal = 0; place = 0; length = length (changed_in s (counts_of s)) }
    unfolding mend_outcome
    all_outcome l = rw (all l, length-map)

    pub all_report : 3 * length (changed_in s (counts_of s)) ≤ k → report_after k (mend s k) ≡ report_of k (changed_in s (counts_of s))
    unfolding report_after report_of
    all_report l = rw (all l, length-map)

pub ruleset outcomes = (one, thirteen, all, all_outcome, all_report)
