-- The layout calls with a table: 12, or the plain call's answer. Assumes nothing.
use Rattle.rules.specs.declared.Offence.{Offence}
use Rattle.std.specs.Prelude.{Err, Ok, Result}
use mathlib.Core.Path.{◌≡◌, refl, sym, subst, ap, ◌∙◌}
use mathlib.Core.Bool.{Bool, true, false, not, ◌&&◌}
use mathlib.Core.List.{List}
use Prim.Native.Nat.{ℕ, ◌*◌, ◌≤◌, ◌<◌}
use native.Mathlib.Omega.{arith}
use lib.Dec.{ltb}
use lib.ListN.{replicate}
use borrow.Author.Tests.{lt-ltb, le-ltb}
use Rattle.rules.specs.declared.Counts.{Counts}
use Rattle.rules.specs.declared.Report.{Report}
use Rattle.rules.specs.Checks.{checked}
use Rattle.rules.specs.Answer.{refusal, is_withdrawn, answer_as, answer, report_of, buffer_of, reported, buffer_after}
use Rattle.rules.specs.Rows.{to_lay_out, is_short, listed_as, list_for, list_as, listed, listed_report, listed_buffer, list_after}
use Rattle.rules.specs.Due.{Faithful}
use Rattle.rules.specs.Shown.{Pointed}
use Rattle.rules.proofs.Call.{call_faithful}
use Rattle.rules.proofs.Listed.{call_listed_faithful, call_pointed}
use Rattle.twigmantle.specs.Called.{called_as, list_called}
use Rattle.twigmantle.specs.Once.{lacks_table, once_as, list_once_as, once, once_listed, once_list}
use Rattle.twigmantle.proofs.Laws.{Told}

off : (b : Bool) → not b ≡ true → b ≡ false
off true e = sym e
off false e = refl

on : (b : Bool) → not b ≡ false → b ≡ true
on true e = refl
on false e = sym e

-- report, buffer and list of a call with a table (t true) of m words, whose checks found c
abbrev pub Tabled : List ℕ → ℕ → Bool → ℕ → Bool → ℕ → Result Counts Offence → Report → List ℕ → List ℕ → Type 0
Tabled s room b k t m c r out list =
    (r ≡ report_of (once_as s t m c (called_as s room b k c)))
    × ((out ≡ buffer_of room (once_as s t m c (called_as s room b k c)))
    × (list ≡ list_once_as s t m c k (list_called s room b k c)))

pub by-found-once : (s : List ℕ) (room : ℕ) (b : Bool) (k : ℕ) (t : Bool) (m : ℕ) (f c : Result Counts Offence) (r : Report) (out list : List ℕ) → f ≡ checked s → f ≡ c → Tabled s room b k t m c r out list → Tabled s room b k t m (checked s) r out list
by-found-once s room b k t m f c r out list e g h = subst (λ (z : Result Counts Offence). Tabled s room b k t m z r out list) (sym g ∙ e) h

module _ (s : List ℕ) (room : ℕ) (b : Bool) (k : ℕ) (t : Bool) (m : ℕ) (r : Report) (out list : List ℕ) where
  -- the table is not asked for, or is long enough
  by-plain : (c : Result Counts Offence) → (t && lacks_table s m c) ≡ false → Told s room b k c r out list → Tabled s room b k t m c r out list
  unfolding once_as list_once_as
  by-plain c e h = (rw e h.0, (rw e h.1.0, rw e h.1.1))

  never : (a : Bool) → (a && false) ≡ false
  never true = refl
  never false = refl

  pub once-offence : (o : Offence) → Told s room b k (Err o) r out list → Tabled s room b k t m (Err o) r out list
  unfolding lacks_table
  once-offence o h = by-plain (Err o) (never t) h

  module _ (c : Counts) where
    -- 14 is given, and neither 12 nor 10 comes before it
    pub withdrawn : is_withdrawn s ≡ true → r ≡ report_of (refusal 14 28) → out ≡ buffer_of room (refusal 14 28) → list ≡ replicate k 0 → Tabled s room b k t m (Ok c) r out list
    unfolding lacks_table called_as list_called listed_as list_as answer_as is_short to_lay_out list_for
    withdrawn w told left zero = by-plain (Ok c) (rw w (never t)) (go b)
      where
        go : (h : Bool) → Told s room h k (Ok c) r out list
        go true = (rw (w, le-ltb k 0 (omega arith)) told, (rw (w, le-ltb k 0 (omega arith)) left, rw (w, le-ltb k 0 (omega arith)) zero))
        go false = (rw w told, (rw w left, zero))

    module _ (w : is_withdrawn s ≡ false) where
      pub untabled : not t ≡ true → Told s room b k (Ok c) r out list → Tabled s room b k t m (Ok c) r out list
      untabled e h = by-plain (Ok c) (rw (off t e)) h

      pub tabled_narrow : not t ≡ false → m < 6 * c.tokens → r ≡ report_of (refusal 12 0) → out ≡ buffer_of room (refusal 12 0) → list ≡ replicate k 0 → Tabled s room b k t m (Ok c) r out list
      unfolding once_as list_once_as lacks_table
      tabled_narrow e l told left zero = (rw (on t e, w, lt) told, (rw (on t e, w, lt) left, rw (on t e, w, lt) zero))
        where
          lt : ltb m (6 * c.tokens) ≡ true
          lt = lt-ltb m (6 * c.tokens) l

      pub tabled_wide : not t ≡ false → 6 * c.tokens ≤ m → Told s room b k (Ok c) r out list → Tabled s room b k t m (Ok c) r out list
      unfolding lacks_table
      tabled_wide e l h = by-plain (Ok c) (rw (on t e, w, le-ltb m (6 * c.tokens) l)) h

-- ---- the exported calls

-- without a table the plain call
pub plain-told : (s : List ℕ) (room : ℕ) (b : Bool) (k m : ℕ) (c : Result Counts Offence) (r : Report) (out list : List ℕ) → Tabled s room b k false m c r out list → Told s room b k c r out list
unfolding once_as list_once_as
plain-told s room b k m c r out list h = h

module _ (s : List ℕ) (room k m : ℕ) (r : Report) (out list : List ℕ) where
  pub once-told : Tabled s room false k true m (checked s) r out list → (r ≡ report_of (once s room m)) × (out ≡ buffer_of room (once s room m))
  unfolding called_as once answer
  once-told h = (h.0, h.1.0)

  pub once-listed : Tabled s room true k true m (checked s) r out list → (r ≡ report_of (once_listed s room k m)) × ((out ≡ buffer_of room (once_listed s room k m)) × (list ≡ once_list s room k m))
  unfolding called_as list_called once_listed once_list listed list_after
  once-listed h = h

  -- what is promised of the plain call, where 12 is not given
  module _ (e : lacks_table s m (checked s) ≡ false) where
    pub same_answer : once s room m ≡ answer s room
    unfolding once once_as
    same_answer = rw e

    pub same-listed : once_listed s room k m ≡ listed s room k
    unfolding once_listed once_as
    same-listed = rw e

    pub same-list : once_list s room k m ≡ list_after s room k
    unfolding once_list list_once_as
    same-list = rw e

  -- 12 is a refusal
  twelve : r ≡ report_of (refusal 12 0) → Faithful s r out
  unfolding report_of Faithful
  twelve e z = let g : r.refusal ≡ 12 = ap (λ (q : Report). q.refusal) e in absurd (omega arith)

  pub once-faithful : r ≡ report_of (once s room m) → out ≡ buffer_of room (once s room m) → Faithful s r out
  unfolding reported buffer_after once once_as
  once-faithful told left = go (lacks_table s m (checked s)) refl
    where
      go : (z : Bool) → lacks_table s m (checked s) ≡ z → Faithful s r out
      go true e = twelve (rw e at told)
      go false e = call_faithful s room r out (told ∙ ap report_of (same_answer e)) (left ∙ ap (buffer_of room) (same_answer e))

  pub once-listed-faithful : r ≡ report_of (once_listed s room k m) → out ≡ buffer_of room (once_listed s room k m) → Faithful s r out
  unfolding listed_report listed_buffer once_listed once_as
  once-listed-faithful told left = go (lacks_table s m (checked s)) refl
    where
      go : (z : Bool) → lacks_table s m (checked s) ≡ z → Faithful s r out
      go true e = twelve (rw e at told)
      go false e = call_listed_faithful s room k r out (told ∙ ap report_of (same-listed e)) (left ∙ ap (buffer_of room) (same-listed e))

  pub once-pointed : r ≡ report_of (once_listed s room k m) → out ≡ buffer_of room (once_listed s room k m) → list ≡ once_list s room k m → lacks_table s m (checked s) ≡ false → Pointed s r out list
  unfolding listed_report listed_buffer
  once-pointed told left kept e = call_pointed s room k r out (told ∙ ap report_of (same-listed e)) (left ∙ ap (buffer_of room) (same-listed e)) list (kept ∙ same-list e)
