-- Wish 2 for the call with a list: in terms of its own answer, buffer and list. Assumes nothing.
use Rattle.rules.specs.declared.Offence.TheVariants as offence
use Rattle.rules.specs.declared.Offence.{Offence}
use mathlib.Core.Path.{◌≡◌, refl, sym, ap, ◌∙◌}
use mathlib.Core.Logic.{◌↔◌}
use mathlib.Core.Bool.{Bool, true, false}
use mathlib.Core.List.{List, [], ◌∷◌, ◌++◌}
use Prim.Native.Nat.{ℕ, ◌+◌, ◌-◌, ◌*◌, ◌/◌, ◌%◌, ◌^◌, ◌≤◌, ◌<◌}
use native.Mathlib.Omega.{arith}
use lib.Dec.{ltb}
use borrow.Author.Tests.{ltb-true, ltb-false, lt-ltb, le-ltb}
use lib.ListN.{length, take, replicate, length-append, length-replicate}
use lib.Seq.{take-append_seam}
use Rattle.rules.specs.declared.Counts.{Counts}
use Rattle.rules.specs.declared.Report.{Report}
use Rattle.std.specs.Prelude.{if◌then◌else◌, Err, Ok, Result}
use Rattle.rules.specs.Checks.{checked}
use Rattle.rules.specs.Sheet.{params_of, env_of, tokens_of}
use Rattle.rules.specs.Answer.{Answer, laid, refusal, format, is_withdrawn, answer_as, answer, report_of, buffer_of, reported, buffer_after}
use Rattle.rules.specs.Due.{strip, due_in, due_of, Faithful}
use Rattle.rules.specs.Rows.{Row, rows, row_words, rows_words, placeholders, to_lay_out, is_short, listed_as, listed, listed_report, listed_buffer, list_for, list_as, list_after}
use Rattle.rules.specs.Shown.{Shown, shown, shown_in, shown_of, due_to_in, due_to, Lists, Pointed}
use Rattle.rules.proofs.Keeps.{StripsTo, keeps}
use Rattle.rules.proofs.Call.{by-checked, in_buffer}
use Rattle.rules.proofs.Rows.{PlacedIn, rows-placed, rows-count, shown-count}

-- the two words of a position give it back
pub position : (n : ℕ) → n % 2 ^ 32 + 2 ^ 32 * (n / 2 ^ 32) ≡ n
position n = omega arith

-- ---- refusal 10

short-is : (s : List ℕ) (k : ℕ) (c : Result Counts Offence) → is_short s k c ≡ ltb k (5 * length (shown_in s c))
unfolding is_short shown_in to_lay_out
short-is s k (Ok c) = go (is_withdrawn s)
  where
    go : (b : Bool) → ltb k (5 * (if b then 0 else placeholders (tokens_of s c))) ≡ ltb k (5 * length (if b then [] else shown (params_of s c) (tokens_of s c)))
    go true = refl
    go false = rw (shown-count (params_of s c) (tokens_of s c))
short-is s k (Err offence.Size) = sym (le-ltb k 0 (omega arith))
short-is s k (Err (offence.Word p)) = sym (le-ltb k 0 (omega arith))
short-is s k (Err (offence.Place p)) = sym (le-ltb k 0 (omega arith))
short-is s k (Err (offence.Byte p)) = sym (le-ltb k 0 (omega arith))

-- a layout never refuses with 10
not-ten : (a : Answer) (v : List ℕ) → StripsTo a v → (report_of a).refusal ≡ 10 → ⊥
unfolding report_of
not-ten (laid b l w) v p e = omega arith
not-ten (refusal n q) v p e = p.1 e

module _ (s : List ℕ) (room k : ℕ) where
  ten_short : (listed_report s room k).refusal ≡ 10 → k < 5 * length (shown_of s)
  unfolding listed_report listed listed_as shown_of
  ten_short e = go (is_short s k (checked s)) refl e
    where
      go : (f : Bool) → is_short s k (checked s) ≡ f → (report_of (if f then refusal 10 0 else answer_as s room (checked s))).refusal ≡ 10 → k < 5 * length (shown_in s (checked s))
      go true h e = ltb-true k (5 * length (shown_in s (checked s))) (sym (short-is s k (checked s)) ∙ h)
      go false h e = absurd (not-ten (answer_as s room (checked s)) (due_in s (checked s)) (by-checked s room (checked s)) e)

  short-ten : k < 5 * length (shown_of s) → listed s room k ≡ refusal 10 0
  unfolding listed listed_as shown_of
  short-ten h = rw (short-is s k (checked s), lt-ltb k (5 * length (shown_in s (checked s))) h)

  -- 10, place 0, exactly where the list has fewer than five words for each placeholder to be laid out
  pub ten_exactly : ((listed_report s room k).refusal ≡ 10) ↔ (k < 5 * length (shown_of s))
  unfolding listed_report report_of
  ten_exactly = (ten_short, λ h. rw (short-ten h))

  -- and with any other answer it is the first call's
  pub first-call : ((listed_report s room k).refusal ≡ 10 → ⊥) → listed s room k ≡ answer s room
  unfolding listed_report listed listed_as answer report_of
  first-call h = go (is_short s k (checked s)) h
    where
      go : (f : Bool) → ((report_of (if f then refusal 10 0 else answer_as s room (checked s))).refusal ≡ 10 → ⊥) → (if f then refusal 10 0 else answer_as s room (checked s)) ≡ answer_as s room (checked s)
      go true h = absurd (h refl)
      go false h = refl

  pub same-report : ((listed_report s room k).refusal ≡ 10 → ⊥) → listed_report s room k ≡ reported s room
  unfolding listed_report reported
  same-report h = ap report_of (first-call h)

  pub same-buffer : ((listed_report s room k).refusal ≡ 10 → ⊥) → listed_buffer s room k ≡ buffer_after s room
  unfolding listed_buffer buffer_after
  same-buffer h = ap (buffer_of room) (first-call h)

  -- demand 3
  listed-strips : (c : Result Counts Offence) (f : Bool) → StripsTo (answer_as s room c) (due_in s c) → (report_of (if f then refusal 10 0 else answer_as s room c)).refusal ≡ 0
      → let a = if f then refusal 10 0 else answer_as s room c in strip (take (report_of a).length (buffer_of room a)) ≡ due_in s c
  unfolding report_of
  listed-strips c true k e = absurd (omega arith)
  listed-strips c false k e = in_buffer (answer_as s room c) room (due_in s c) k e

  pub listed-keeps : Faithful s (listed_report s room k) (listed_buffer s room k)
  unfolding Faithful listed_report listed_buffer listed listed_as due_of
  listed-keeps z = listed-strips (checked s) (is_short s k (checked s)) (by-checked s room (checked s)) z

-- ---- the list

pub words-length : (rs : List Row) → length (rows_words rs) ≡ 5 * length rs
unfolding rows_words row_words
words-length [] = refl
words-length (r ∷ rs) = let ih = words-length rs in simp length-append (omega arith)

for_length : (k : ℕ) (rs : List Row) (a : Answer) → 5 * length rs ≤ k → length (list_for k rs a) ≡ k
unfolding list_for
for_length k rs (laid b l w) h = let n = words-length rs in simp (length-append, length-replicate) (omega arith)
for_length k rs (refusal n p) h = length-replicate k 0

-- of a sheet that checks 1 to 4 pass
abbrev rows_in : List ℕ → ℕ → Counts → List Row
rows_in s room c = rows (env_of s c room) (tokens_of s c)

enough : (s : List ℕ) (room k : ℕ) (c : Counts) → is_withdrawn s ≡ false → is_short s k (Ok c) ≡ false → 5 * length (rows_in s room c) ≤ k
unfolding is_short to_lay_out
enough s room k c w h = rw (rows-count (env_of s c room) (tokens_of s c)) (ltb-false k (5 * placeholders (tokens_of s c)) (rw w at h))

as_length : (s : List ℕ) (room k : ℕ) (c : Result Counts Offence) → length (list_as s room k c) ≡ k
unfolding list_as listed_as list_for answer_as
as_length s room k (Err offence.Size) = length-replicate k 0
as_length s room k (Err (offence.Word p)) = length-replicate k 0
as_length s room k (Err (offence.Place p)) = length-replicate k 0
as_length s room k (Err (offence.Byte p)) = length-replicate k 0
as_length s room k (Ok c) = go (is_short s k (Ok c)) (is_withdrawn s) refl refl
  where
    go : (f b : Bool) → is_short s k (Ok c) ≡ f → is_withdrawn s ≡ b → length (list_for k (rows_in s room c) (if f then refusal 10 0 else if b then refusal 14 28 else format (env_of s c room) (tokens_of s c))) ≡ k
    go true b h w = length-replicate k 0
    go false true h w = length-replicate k 0
    go false false h w = for_length k (rows_in s room c) (format (env_of s c room) (tokens_of s c)) (enough s room k c w h)

pub list_length : (s : List ℕ) (room k : ℕ) → length (list_after s room k) ≡ k
unfolding list_after
list_length s room k = as_length s room k (checked s)

for_refused : (k : ℕ) (rs : List Row) (a : Answer) → ((report_of a).refusal ≡ 0 → ⊥) → list_for k rs a ≡ replicate k 0
unfolding list_for report_of
for_refused k rs (laid b l w) h = absurd (h refl)
for_refused k rs (refusal n p) h = refl

as_refused : (s : List ℕ) (room k : ℕ) (c : Result Counts Offence) → ((report_of (listed_as s room k c)).refusal ≡ 0 → ⊥) → list_as s room k c ≡ replicate k 0
unfolding list_as
as_refused s room k (Ok c) h = for_refused k (rows_in s room c) (listed_as s room k (Ok c)) h
as_refused s room k (Err offence.Size) h = refl
as_refused s room k (Err (offence.Word p)) h = refl
as_refused s room k (Err (offence.Place p)) h = refl
as_refused s room k (Err (offence.Byte p)) h = refl

-- on a refusal every word is zero
pub list-refused : (s : List ℕ) (room k : ℕ) → ((listed_report s room k).refusal ≡ 0 → ⊥) → list_after s room k ≡ replicate k 0
unfolding list_after listed_report listed
list-refused s room k h = as_refused s room k (checked s) h

-- ---- what the list says

-- of an answer whose rows point at xs
lists : (to : ℕ → List ℕ) (room k : ℕ) (xs : List Shown) (rs : List Row) (a : Answer) (v : List ℕ) → StripsTo a v → PlacedIn to a xs rs → length xs ≡ length rs → 5 * length rs ≤ k → (report_of a).refusal ≡ 0
    → Lists to xs (take (report_of a).length (buffer_of room a)) (list_for k rs a)
unfolding list_for report_of buffer_of
lists to room k xs rs (laid b l w) v n p e h z =
    record {
      rows = rs;
      words =
          let m = words-length rs in
          let q : k - length (rows_words rs) ≡ length (list_for k rs (laid b l w)) - 5 * length xs = rw (for_length k rs (laid b l w) h) (omega arith) in
          ap (λ (x : ℕ). rows_words rs ++ replicate x 0) q;
      placed = rw (take-append_seam b _) p;
    }
lists to room k xs rs (refusal n q) v p o e h z = absurd (let m = p.0 in omega arith)

as_lists : (s : List ℕ) (room k : ℕ) (c : Result Counts Offence) → let a = listed_as s room k c in (report_of a).refusal ≡ 0 → Lists (due_to_in s c) (shown_in s c) (take (report_of a).length (buffer_of room a)) (list_as s room k c)
unfolding list_as listed_as answer_as shown_in due_to_in due_in report_of is_short env_of
as_lists s room k (Err offence.Size) z = absurd (omega arith)
as_lists s room k (Err (offence.Word p)) z = absurd (omega arith)
as_lists s room k (Err (offence.Place p)) z = absurd (omega arith)
as_lists s room k (Err (offence.Byte p)) z = absurd (omega arith)
as_lists s room k (Ok c) z = go (is_short s k (Ok c)) (is_withdrawn s) refl refl z
  where
    go : (f b : Bool) → is_short s k (Ok c) ≡ f → is_withdrawn s ≡ b → let a = if f then refusal 10 0 else if b then refusal 14 28 else format (env_of s c room) (tokens_of s c) in (report_of a).refusal ≡ 0
        → Lists (due_to_in s (Ok c)) (if b then [] else shown (params_of s c) (tokens_of s c)) (take (report_of a).length (buffer_of room a)) (list_for k (rows_in s room c) a)
    go true b h w z = absurd (omega arith)
    go false true h w z = absurd (omega arith)
    go false false h w z =
        lists (due_to_in s (Ok c)) room k (shown (params_of s c) (tokens_of s c)) (rows_in s room c) (format (env_of s c room) (tokens_of s c)) (due_in s (Ok c)) (keeps (env_of s c room) (tokens_of s c)) (rows-placed (env_of s c room) (tokens_of s c))
        (shown-count (params_of s c) (tokens_of s c) ∙ sym (rows-count (env_of s c room) (tokens_of s c))) (enough s room k c w h) z

pub list-pointed : (s : List ℕ) (room k : ℕ) → Pointed s (listed_report s room k) (listed_buffer s room k) (list_after s room k)
unfolding listed_report listed_buffer listed list_after shown_of due_to
list-pointed s room k =
    record {
      laid = as_lists s room k (checked s);
      refused = λ h. rw (list_length s room k) (list-refused s room k h);
      short = rw (list_length s room k) (ten_exactly s room k);
    }

-- ---- any report, buffer and list that the second call's three equations allow

module _ (s : List ℕ) (room k : ℕ) (r : Report) (out : List ℕ) (report-is : r ≡ listed_report s room k) (buffer-is : out ≡ listed_buffer s room k) where
  pub call_listed_faithful : Faithful s r out
  call_listed_faithful = rw (report-is, buffer-is) (listed-keeps s room k)

  pub call_pointed : (list : List ℕ) → list ≡ list_after s room k → Pointed s r out list
  call_pointed list e = rw (report-is, buffer-is, e) (list-pointed s room k)
