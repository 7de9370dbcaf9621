-- Wish 14: a caller's data moves no layout, on either engine. Assumes nothing.
use Rattle.rules.specs.declared.Offence.TheVariants as offence
use Rattle.rules.specs.declared.Offence.{Offence}
use mathlib.Core.Path.{◌≡◌, refl, ap, ◌∙◌}
use mathlib.Core.Bool.{Bool, true, false}
use mathlib.Core.List.{List, ◌++◌, map}
use Prim.Native.Nat.{ℕ, ◌-◌}
use native.Mathlib.Omega.{arith}
use lib.ListN.{length, take, replicate}
use lib.Seq.{take-append_seam}
use Rattle.rules.specs.declared.Counts.{Counts}
use Rattle.std.specs.Prelude.{if◌then◌else◌, Err, Ok, Result}
use Rattle.rules.specs.Words.{counts_of}
use Rattle.rules.specs.Checks.{checked}
use Rattle.rules.specs.Sheet.{Env, options_of, params_of, keeps_of, env_of, tokens_of}
use Rattle.rules.specs.Answer.{Answer, laid, refusal, format, is_withdrawn, answer_as, answer, report_of, buffer_of}
use Rattle.rules.specs.Due.{due_in}
use Rattle.rules.specs.Rows.{Row, rows, rows_words, listed_as, listed, listed_report, listed_buffer, list_for, list_as, list_after}
use Rattle.rules.proofs.Keeps.{StripsTo}
use Rattle.rules.proofs.Call.{by-checked}
use Rattle.rules.proofs.Rows.{rows-tokens, rows-entries}
use Rattle.rules.proofs.Listed.{first-call, list_length}
use Rattle.checks.proofs.Sound.{sound-sheeted}
use Rattle.twigmantle.specs.Once.{lacks_table, once_as, list_once_as, once_listed, once_list}
use Rattle.unmoved.specs.Unmoved.{shape, Common, common_of, firm_in, Alike, Engine, plain, once, called, rows_of, left, left_of, Unmoved}
use Rattle.unmoved.proofs.Shape.{shown-tokens, shown-entries}
use Rattle.unmoved.proofs.Run.{LeftSame, left-same}
use Rattle.unmoved.proofs.Words.{rows-read}

-- ---- a sheet that is laid out

-- an answer that is no refusal
record Laid (a : Answer) : Type 0 where
  pub text : List ℕ
  pub lines : ℕ
  pub width : ℕ
  pub is : a ≡ laid text lines width

no-refusal : (a : Answer) (v : List ℕ) → StripsTo a v → (report_of a).refusal ≡ 0 → Laid a
unfolding report_of
no-refusal (laid b l w) v p z = record { text = b; lines = l; width = w; is = refl }
no-refusal (refusal n q) v p z = absurd (let m = p.0 in omega arith)

-- the sheet is sound, and the answer is its run's
record Sound (s : List ℕ) (room : ℕ) (c : Result Counts Offence) (a : Answer) : Type 0 where
  pub counts : Counts
  pub found_so : c ≡ Ok counts
  pub formats : format (env_of s counts room) (tokens_of s counts) ≡ a

sound-laid : (s : List ℕ) (room : ℕ) (c : Result Counts Offence) (b : List ℕ) (l w : ℕ) → answer_as s room c ≡ laid b l w → Sound s room c (laid b l w)
unfolding answer_as
sound-laid s room (Ok c) b l w e = go (is_withdrawn s) e
  where
    go : (f : Bool) → (if f then refusal 14 28 else format (env_of s c room) (tokens_of s c)) ≡ laid b l w → Sound s room (Ok c) (laid b l w)
    go true e = cc
    go false e = record { counts = c; found_so = refl; formats = e }
sound-laid s room (Err offence.Size) b l w e = cc
sound-laid s room (Err (offence.Word p)) b l w e = cc
sound-laid s room (Err (offence.Place p)) b l w e = cc
sound-laid s room (Err (offence.Byte p)) b l w e = cc

-- its text in the buffer, and its rows in the list, are those of the run
record Back (s : List ℕ) (room k : ℕ) : Type 0 where
  pub text : List ℕ
  pub lines : ℕ
  pub width : ℕ
  pub formats : format (env_of s (counts_of s) room) (tokens_of s (counts_of s)) ≡ laid text lines width
  pub shows : take (called plain s room k).report.length (called plain s room k).buffer ≡ text
  pub reads : rows_of s (called plain s room k) ≡ rows (env_of s (counts_of s) room) (tokens_of s (counts_of s))

in_buffer : (room : ℕ) (a : Answer) (b : List ℕ) (l w : ℕ) → a ≡ laid b l w → take (report_of a).length (buffer_of room a) ≡ b
unfolding report_of buffer_of
in_buffer room a b l w e = rw e (take-append_seam b _)

in_list : (s : List ℕ) (room k : ℕ) (c : Result Counts Offence) (n : Counts) (b : List ℕ) (l w : ℕ) → c ≡ Ok n → listed_as s room k c ≡ laid b l w
    → let rs = rows (env_of s n room) (tokens_of s n) in list_as s room k c ≡ rows_words rs ++ replicate (k - length (rows_words rs)) 0
unfolding list_as list_for
in_list s room k c n b l w f e = rw (f, rw f at e)

back : (s : List ℕ) (room k : ℕ) → (called plain s room k).report.refusal ≡ 0 → Back s room k
unfolding called listed_report listed_buffer listed rows_of list_after answer
back s room k z =
    let first : listed s room k ≡ answer s room = first-call s room k (λ e. omega (arith, e, z)) in
    let a : Laid (answer s room) = no-refusal (answer s room) (due_in s (checked s)) (by-checked s room (checked s)) (rw first at z) in
    let r : Sound s room (checked s) (laid a.text a.lines a.width) = sound-laid s room (checked s) a.text a.lines a.width a.is in
    let c : Counts = r.counts in
    let counted : c ≡ counts_of s = (sound-sheeted s c r.found_so).counted in
    let answers : listed s room k ≡ laid a.text a.lines a.width = first ∙ a.is in
    let lists = in_list s room k (checked s) c a.text a.lines a.width r.found_so answers in
    record {
      text = a.text;
      lines = a.lines;
      width = a.width;
      formats = rw (← counted) r.formats;
      shows = in_buffer room (listed s room k) a.text a.lines a.width answers;
      reads = rw (← counted) (rows-read s c room k (list_after s room k) r.found_so (list_length s room k) lists);
    }

-- ---- two sheets

-- answers that are laid out
left_laid : (a a' : Answer) (rs rs' : List Row) (b b' : List ℕ) (l w l' w' : ℕ) → a ≡ laid b l w → a' ≡ laid b' l' w' → LeftSame a rs a' rs' → left rs b ≡ left rs' b'
left_laid a a' rs rs' b b' l w l' w' e f h = rw (e, f) at h

module _ (s t : List ℕ) (alike : Alike s t) where
  shapes : shape (params_of s (counts_of s)) ≡ shape (params_of t (counts_of t))
  unfolding common_of
  shapes = ap (λ (x : Common). x.params) alike.common

  tokens-same : tokens_of s (counts_of s) ≡ tokens_of t (counts_of t)
  unfolding common_of
  tokens-same = ap (λ (x : Common). x.tokens) alike.common

  -- the second sheet's surroundings, with the options and the keep words of the first
  others-so : (room : ℕ) → ◌≡◌ {A = Env} (record { options = options_of s; params = params_of t (counts_of t); keep = keeps_of s (counts_of s); room = room }) (env_of t (counts_of t) room)
  unfolding env_of common_of
  others-so room =
      let o : options_of s ≡ options_of t = ap (λ (x : Common). x.options) alike.common in
      let k : keeps_of s (counts_of s) ≡ keeps_of t (counts_of t) = ap (λ (x : Common). x.keeps) alike.common in
      rw (o, k)

  runs_same : (room room' : ℕ) → let e = env_of s (counts_of s) room in let f = env_of t (counts_of t) room' in let ts = tokens_of s (counts_of s) in let us = tokens_of t (counts_of t) in
      LeftSame (format e ts) (rows e ts) (format f us) (rows f us)
  unfolding env_of firm_in
  runs_same room room' =
      rw (← others-so room', ← tokens-same)
      (left-same (options_of s) (keeps_of s (counts_of s)) (params_of s (counts_of s)) (params_of t (counts_of t)) room room' shapes alike.firm_one alike.firm_other (tokens_of s (counts_of s)))

  module _ (room k room' k' : ℕ) (x : Back s room k) (y : Back t room' k') where
    tokens-unmoved : map (λ (r : Row). r.token) (rows_of s (called plain s room k)) ≡ map (λ (r : Row). r.token) (rows_of t (called plain t room' k'))
    unfolding env_of
    tokens-unmoved =
        rw (x.reads, y.reads, rows-tokens (env_of s (counts_of s) room) (tokens_of s (counts_of s)), rows-tokens (env_of t (counts_of t) room') (tokens_of t (counts_of t)), ← tokens-same)
        (shown-tokens (params_of s (counts_of s)) (params_of t (counts_of t)) shapes (tokens_of s (counts_of s)))

    entries-unmoved : map (λ (r : Row). r.entry) (rows_of s (called plain s room k)) ≡ map (λ (r : Row). r.entry) (rows_of t (called plain t room' k'))
    unfolding env_of
    entries-unmoved =
        rw (x.reads, y.reads, rows-entries (env_of s (counts_of s) room) (tokens_of s (counts_of s)), rows-entries (env_of t (counts_of t) room') (tokens_of t (counts_of t)), ← tokens-same)
        (shown-entries (params_of s (counts_of s)) (params_of t (counts_of t)) shapes (tokens_of s (counts_of s)))

    plain-unmoved : Unmoved s t (called plain s room k) (called plain t room' k')
    unfolding left_of
    plain-unmoved =
        record {
          bytes = rw (x.reads, y.reads, x.shows, y.shows) (left_laid _ _ _ _ _ _ _ _ _ _ x.formats y.formats (runs_same room room'));
          tokens = tokens-unmoved;
          entries = entries-unmoved;
        }

-- ---- either engine

-- where nothing is refused, the engine with a table leaves what the plain one does
as_plain : (i : Engine) (s : List ℕ) (room k : ℕ) → (called i s room k).report.refusal ≡ 0 → called i s room k ≡ called plain s room k
unfolding called listed_report listed_buffer once_listed once_as once_list list_once_as report_of
as_plain plain s room k z = refl
as_plain (once m) s room k z = go (lacks_table s m (checked s)) refl z
  where
    go : (b : Bool) → lacks_table s m (checked s) ≡ b → (report_of (if b then refusal 12 0 else listed s room k)).refusal ≡ 0 → called (once m) s room k ≡ called plain s room k
    go true e z = absurd (omega arith)
    go false e z = rw e

-- any two sheets that are alike, each on either engine with any buffer and list: where both are laid out, the values moved nothing else
pub unmoved : (s t : List ℕ) → Alike s t → (i j : Engine) (room k room' k' : ℕ) → (called i s room k).report.refusal ≡ 0 → (called j t room' k').report.refusal ≡ 0
    → Unmoved s t (called i s room k) (called j t room' k')
unmoved s t alike i j room k room' k' z z' =
    let e = as_plain i s room k z in
    let f = as_plain j t room' k' z' in
    rw (e, f) (plain-unmoved s t alike room k room' k' (back s room k (rw e at z)) (back t room' k' (rw f at z')))
