-- The layout calls by what the checks found. Assumes nothing.
use Rattle.rules.specs.declared.Offence.{Offence}
use mathlib.Core.Path.{◌≡◌, refl, sym, subst, ap, ◌∙◌}
use mathlib.Core.Bool.{Bool, true, false, ◌&&◌}
use mathlib.Core.List.{List, append-nil}
use Prim.Native.Nat.{ℕ, ◌+◌, ◌*◌, ◌≤◌, ◌<◌}
use native.Mathlib.Omega.{arith}
use lib.Dec.{ltb}
use borrow.Author.Tests.{ltb-false, le-ltb}
use lib.ListN.{length, replicate, drop_of_length-le, length-replicate}
use Rattle.rules.specs.declared.Report.{Report}
use Rattle.rules.specs.declared.Counts.{Counts}
use Rattle.rules.specs.Sheet.{env_of, tokens_of}
use Rattle.rules.specs.Checks.{checked, number_of, place_of}
use Rattle.rules.specs.Answer.{refusal, is_withdrawn, answer_as, answer, format, report_of, buffer_of, reported, buffer_after}
use Rattle.std.specs.Prelude.{if◌then◌else◌, Err, Ok, Result}
use Rattle.rules.specs.Rows.{rows, placeholders, to_lay_out, is_short, listed_as, listed, list_for, list_as, listed_report, listed_buffer, list_after}
use Rattle.records.specs.Sheeted.{Sheeted}
use Rattle.switched.specs.Count.{most_placeholders}
use Rattle.switched.proofs.Count.{laid-most, few-placeholders}
use Rattle.twigmantle.specs.Called.{called_as, list_called}
use Rattle.text.specs.Put.{put}
use Rattle.rules.specs.declared.Outcome.{Outcome}
use Rattle.rules.specs.Compacted.{refusal as unwritten, compact_as, compact, outcome_of, buffer_with, Compacts}
use Rattle.compacted.proofs.Call.{call_compacts}
use Rattle.converted.specs.Converts.{Stored}
use Rattle.converted.proofs.Call.{call_stored}

-- a buffer that is filled with zero is that of a refusal
zeroed : (d q : List ℕ) → q ≡ put d 0 (replicate (length d) 0) → q ≡ replicate (length d) 0
unfolding put
zeroed d q e =
    let zeros : List ℕ = replicate (length d) 0 in
    let l : length zeros ≡ length d = length-replicate (length d) 0 in
    let g : length d ≤ 0 + length zeros = omega arith in
    e ∙ rw (drop_of_length-le d g) (append-nil _)

pub by-cleared : (d q : List ℕ) (number place : ℕ) → q ≡ put d 0 (replicate (length d) 0) → q ≡ buffer_of (length d) (refusal number place)
unfolding buffer_of
by-cleared d q number place e = zeroed d q e

pub by-not-written : (d q : List ℕ) (number place : ℕ) → q ≡ put d 0 (replicate (length d) 0) → q ≡ buffer_with (length d) (unwritten number place)
unfolding buffer_with
by-not-written d q number place e = zeroed d q e

-- one or the other, where they are one
either : {A : Type 0} {a : A} (g : Bool) → (if g then a else a) ≡ a
either true = refl
either false = refl

-- report, buffer and list of a call whose checks found c
abbrev pub Told : List ℕ → ℕ → Bool → ℕ → Result Counts Offence → Report → List ℕ → List ℕ → Type 0
Told s room b k c r out list = (r ≡ report_of (called_as s room b k c)) × ((out ≡ buffer_of room (called_as s room b k c)) × (list ≡ list_called s room b k c))

pub by-found : (s : List ℕ) (room : ℕ) (b : Bool) (k : ℕ) (f c : Result Counts Offence) (r : Report) (out list : List ℕ) → f ≡ checked s → f ≡ c → Told s room b k c r out list → Told s room b k (checked s) r out list
by-found s room b k f c r out list e g h = subst (λ (z : Result Counts Offence). Told s room b k z r out list) (sym g ∙ e) h

-- ---- refusals 1 to 4

pub by-offence : (s : List ℕ) (room : ℕ) (b : Bool) (k : ℕ) (o : Offence) (n p : ℕ) (r : Report) (out list : List ℕ) → n ≡ number_of o → p ≡ place_of o → r ≡ report_of (refusal n p) → out ≡ buffer_of room (refusal n p) → list ≡ replicate k 0 → Told s room b k (Err o) r out list
unfolding called_as list_called listed_as answer_as list_as is_short
by-offence s room b k o n p r out list g h told left zero = (rw (either b, sym g, sym h) told, (rw (either b, sym g, sym h) left, rw (either b) zero))

-- ---- a sound sheet

module _ (s : List ℕ) (k : ℕ) (c : Counts) where
  -- five words for each of n, no more than there are tokens
  pub five-fit : Sheeted s c → (m n : ℕ) → m ≤ c.tokens → n ≡ m → 5 * n < 18446744073709551616
  five-fit h m n f e = let t = h.few.tokens in omega arith

  pub by-asked : (b : Bool) (n : ℕ) → is_withdrawn s ≡ false → b ≡ true → n ≡ placeholders (tokens_of s c) → ltb k (5 * n) ≡ (b && is_short s k (Ok c))
  unfolding is_short to_lay_out
  by-asked b n w t e = rw (t, e, w)

  pub by-unasked : (b : Bool) → b ≡ false → false ≡ (b && is_short s k (Ok c))
  by-unasked b f = rw f

  -- a row for each of n, and n no fewer than the placeholders that are laid out
  by_row : (b : Bool) (n : ℕ) → is_withdrawn s ≡ false → placeholders (tokens_of s c) ≤ n → 5 * n ≤ k → false ≡ (b && is_short s k (Ok c))
  unfolding is_short to_lay_out
  by_row b n w f h = rw (w, le-ltb k (5 * placeholders (tokens_of s c)) (omega arith)) (neither b)
    where
      neither : (b : Bool) → false ≡ (b && false)
      neither true = refl
      neither false = refl

  -- a row for each token is enough
  pub by-ample : (b : Bool) → is_withdrawn s ≡ false → 5 * c.tokens ≤ k → false ≡ (b && is_short s k (Ok c))
  by-ample b w h = by_row b c.tokens w (few-placeholders s c) h

  -- and so is one for each placeholder, switched off or not
  pub by_most : (b : Bool) (n : ℕ) → is_withdrawn s ≡ false → n ≡ most_placeholders (tokens_of s c) → 5 * n ≤ k → false ≡ (b && is_short s k (Ok c))
  by_most b n w e h = by_row b n w (rw e (laid-most (tokens_of s c))) h

  -- the list has room for the rows that are asked for
  pub enough : (b g : Bool) → is_withdrawn s ≡ false → g ≡ (b && is_short s k (Ok c)) → g ≡ false → b ≡ true → 5 * placeholders (tokens_of s c) ≤ k
  unfolding is_short to_lay_out
  enough b g w e f t = ltb-false k (5 * placeholders (tokens_of s c)) (rw (t, w) at (sym e ∙ f))

  module _ (w : is_withdrawn s ≡ false) (room : ℕ) (b g : Bool) (e : g ≡ (b && is_short s k (Ok c))) (r : Report) (out list : List ℕ) where
    pub by-short : g ≡ true → r ≡ report_of (refusal 10 0) → out ≡ buffer_of room (refusal 10 0) → list ≡ replicate k 0 → Told s room b k (Ok c) r out list
    unfolding called_as list_called listed_as list_as list_for
    by-short t told left zero = go b (sym e ∙ t)
      where
        go : (h : Bool) → (h && is_short s k (Ok c)) ≡ true → Told s room h k (Ok c) r out list
        go true z = (rw z told, (rw z left, rw z zero))
        go false z = absurd (let o : ◌≡◌ {A = ℕ} 0 1 = cc in omega arith)

    pub by-laid : g ≡ false → r ≡ report_of (format (env_of s c room) (tokens_of s c)) → out ≡ buffer_of room (format (env_of s c room) (tokens_of s c))
        → list ≡ (if b then list_for k (rows (env_of s c room) (tokens_of s c)) (format (env_of s c room) (tokens_of s c)) else replicate k 0) → Told s room b k (Ok c) r out list
    unfolding called_as list_called listed_as list_as answer_as
    by-laid f told left kept = go b (sym e ∙ f) kept
      where
        go : (h : Bool) → (h && is_short s k (Ok c)) ≡ false → list ≡ (if h then list_for k (rows (env_of s c room) (tokens_of s c)) (format (env_of s c room) (tokens_of s c)) else replicate k 0) → Told s room h k (Ok c) r out list
        go true z q = (rw (z, w) told, (rw (z, w) left, rw (z, w) q))
        go false z q = (rw w told, (rw w left, q))

-- ---- the exported calls

module _ (s : List ℕ) (room k : ℕ) (r : Report) (out list : List ℕ) where
  pub first-told : Told s room false k (checked s) r out list → (r ≡ reported s room) × (out ≡ buffer_after s room)
  unfolding called_as reported buffer_after answer
  first-told h = (h.0, h.1.0)

  pub second_told : Told s room true k (checked s) r out list → (r ≡ listed_report s room k) × ((out ≡ listed_buffer s room k) × (list ≡ list_after s room k))
  unfolding called_as list_called listed_report listed_buffer list_after listed
  second_told h = h

-- ---- the compacting call

pub by_written : (s : List ℕ) (room : ℕ) (f c : Result Counts Offence) (r : Outcome) (out : List ℕ) → f ≡ checked s → f ≡ c → r ≡ outcome_of (compact_as s room c) → out ≡ buffer_with room (compact_as s room c)
    → (r ≡ outcome_of (compact s room)) × ((out ≡ buffer_with room (compact s room)) × (Compacts s r out × Stored s r out))
unfolding compact
by_written s room f c r out e g told left =
    let h : c ≡ checked s = sym g ∙ e in
    let one : r ≡ outcome_of (compact s room) = told ∙ ap (λ (z : Result Counts Offence). outcome_of (compact_as s room z)) h in
    let two : out ≡ buffer_with room (compact s room) = left ∙ ap (λ (z : Result Counts Offence). buffer_with room (compact_as s room z)) h in
    (one, (two, (call_compacts s room r out one two, call_stored s room r out one two)))
