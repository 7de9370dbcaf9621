-- Every text that our own layout gives is a yes for its sheet. Assumes nothing.
use Rattle.rules.specs.declared.Offence.TheVariants as offence
use Rattle.rules.specs.declared.Offence.{Offence}
use mathlib.Core.Path.{◌≡◌, refl, sym, ap, subst, ◌∙◌}
use mathlib.Core.Bool.{Bool, true, false, ◌&&◌, false≢true}
use Rattle.std.specs.Prelude.{Option, None, Some, if◌then◌else◌, Err, Ok, Result}
use mathlib.Core.List.{List, [], ◌∷◌}
use Prim.Native.Nat.{ℕ, suc, ◌-◌}
use native.Mathlib.Omega.{arith}
use lib.ListN.{length, take, replicate}
use lib.Seq.{take-append_seam}
use Rattle.rules.specs.declared.TokenKind.{TokenKind}
use Rattle.rules.specs.declared.TokenKind.TheVariants as kind
use Rattle.rules.specs.declared.Turn.{Turn}
use Rattle.rules.specs.declared.Turn.TheVariants as turn
use Rattle.rules.specs.declared.Counts.{Counts}
use Rattle.rules.specs.declared.Report.{Report}
use Rattle.rules.specs.Base.{when}
use Rattle.rules.specs.Tokens.{Token, Here, is}
use Rattle.rules.specs.Text.{Text, fits, refused, append, refuse, mark}
use Rattle.rules.specs.Checks.{checked}
use Rattle.rules.specs.Sheet.{Env, env_of, options_of, params_of, keeps_of, tokens_of}
use Rattle.rules.specs.Params.{get, advances, offends}
use Rattle.rules.specs.Switch.{Switch, turn_of, switch_after, switched_on}
use Rattle.rules.specs.State.{State, start, on_text, on_index, refuse_if, push_str, push}
use Rattle.rules.specs.Rows.{lays_out}
use Rattle.rules.specs.Formatter.{format_placeholder, format_token}
use Rattle.rules.specs.Answer.{Answer, laid, refusal, taken_as, unless_refused, taken, format_from, format, is_withdrawn, answer_as, answer, report_of, buffer_of, reported, buffer_after}
use Rattle.rules.specs.Due.{strip, due_of}
use Rattle.rules.proofs.Keeps.{StripsTo, keeps}
use Rattle.rules.proofs.Call.{by-checked}
use Rattle.checks.proofs.Sound.{sound-sheeted}
use Rattle.foreign.specs.declared.Verdict.{Verdict}
use Rattle.foreign.specs.Foreign.{unless_at, judge_tokens, judge_as, judge}
use Rattle.foreign.specs.Walk.{barred_from}
use Rattle.foreign.proofs.Walk.{barred-is}
use Rattle.foreign.proofs.Call.{due-compared}
use Rattle.foreign.proofs.Low.{Low, low-find, strip-low, due-low}

-- ---- a text that is laid out met no 5

abbrev is_fit : Text → Bool
is_fit (fits k m b) = true
is_fit (refused n) = false

unfit_append : (room : ℕ) (v : List ℕ) (w : Text) → is_fit w ≡ false → is_fit (append room v w) ≡ false
unfit_append room v (fits k m b) h = absurd (false≢true (sym h))
unfit_append room v (refused n) h = refl

unfit_refuse : (n : ℕ) (w : Text) → is_fit (refuse n w) ≡ false
unfit_refuse n (fits k m b) = refl
unfit_refuse n (refused m) = refl

module _ (e : Env) (h : Here) (s : State) where
  unfit_placeholder : (t : Token) → offends e.params t.key ≡ true → is_fit (format_placeholder e t s).text ≡ false
  unfolding format_placeholder refuse_if push_str push on_text on_index when
  unfit_placeholder t o =
      let r : Text = refuse 5 s.text in
      let v : List ℕ = get e.params t.key s.index t.value in
      let u : State = on_text (append e.room (32 ∷ [])) (on_text (append e.room v) (on_text (refuse 5) s)) in
      rw o (go u (advances e.params t.key) (unfit_append e.room (32 ∷ []) (append e.room v r) (unfit_append e.room v r (unfit_refuse 5 s.text))))
    where
      go : (u : State) (b : Bool) → is_fit u.text ≡ false → is_fit (if b then on_index suc u else u).text ≡ false
      go u true k = k
      go u false k = k

  by_kind : (k : TokenKind) → (is k kind.Placeholder && offends e.params h.token.key) ≡ true → is_fit (format_token e h k s).text ≡ false
  unfolding format_token
  by_kind kind.TypeSpecifier b = absurd (false≢true b)
  by_kind kind.Whitespace b = absurd (false≢true b)
  by_kind kind.String b = absurd (false≢true b)
  by_kind kind.Reserved b = absurd (false≢true b)
  by_kind kind.ReservedTopLevel b = absurd (false≢true b)
  by_kind kind.ReservedTopLevelNoIndent b = absurd (false≢true b)
  by_kind kind.ReservedNewline b = absurd (false≢true b)
  by_kind kind.ReservedNewlineAfter b = absurd (false≢true b)
  by_kind kind.Operator b = absurd (false≢true b)
  by_kind kind.OpenParen b = absurd (false≢true b)
  by_kind kind.CloseParen b = absurd (false≢true b)
  by_kind kind.LineComment b = absurd (false≢true b)
  by_kind kind.BlockComment b = absurd (false≢true b)
  by_kind kind.Number b = absurd (false≢true b)
  by_kind kind.Placeholder b = unfit_placeholder h.token b
  by_kind kind.Word b = absurd (false≢true b)
  by_kind kind.Join b = absurd (false≢true b)

  by_turn : (u : Turn) → (lays_out u h.token.kind && offends e.params h.token.key) ≡ true → is_fit (taken_as u e h s).text ≡ false
  unfolding lays_out taken_as
  by_turn turn.Dropped b = absurd (false≢true b)
  by_turn (turn.Switches off) b = absurd (false≢true b)
  by_turn turn.LaidOut b = by_kind h.token.kind b
  by_turn turn.Copied b = absurd (false≢true b)

is_laid : Answer → Bool
is_laid (laid b l w) = true
is_laid (refusal n p) = false

unless_laid : (x : Text) (place : ℕ) (rest : Answer) → is_laid (unless_refused x place rest) ≡ true → (is_fit x ≡ true) × (is_laid rest ≡ true)
unfolding unless_refused is_laid
unless_laid (fits k m b) place rest h = (refl, h)
unless_laid (refused n) place rest h = absurd (false≢true h)

unbarred-from : (e : Env) (before ts : List Token) (w : Switch) (s : State) (n : ℕ) → is_laid (format_from e before ts w s) ≡ true → barred_from e.params w n ts ≡ None
unfolding format_from barred_from taken
unbarred-from e before [] w s n h = refl
unbarred-from e before (t ∷ ts) w s n h =
    let here : Here = record { before = before; token = t; after = ts } in
    let u : Turn = turn_of w t.kind t.value in
    let s' : State = taken_as u e here (on_text mark s) in
    let k = unless_laid s'.text (length before) (format_from e (t ∷ before) ts (switch_after u w) s') h in
    go s'.text (barred_from e.params (switch_after u w) (suc n) ts) (lays_out u t.kind && offends e.params t.key) (by_turn e here (on_text mark s) u) k.0 (unbarred-from e (t ∷ before) ts (switch_after u w) s' (suc n) k.1)
  where
    go : (x : Text) (o : Option ℕ) (b : Bool) → (b ≡ true → is_fit x ≡ false) → is_fit x ≡ true → o ≡ None → (if b then Some n else o) ≡ None
    go x o true f k r = absurd (false≢true (sym (f refl) ∙ k))
    go x o false f k r = r

unbarred : (e : Env) (ts : List Token) → is_laid (format e ts) ≡ true → barred_from e.params switched_on 0 ts ≡ None
unfolding format
unbarred e ts h = unbarred-from e [] ts switched_on start 0 h

-- ---- its bytes are below 128, and it is what is due

laid-strips : (a : Answer) (v b : List ℕ) (l w : ℕ) → a ≡ laid b l w → StripsTo a v → strip b ≡ v
laid-strips a v b l w e k = subst (λ (x : Answer). StripsTo x v) e k

laid-is : (a : Answer) (b : List ℕ) (l w : ℕ) → a ≡ laid b l w → is_laid a ≡ true
unfolding is_laid
laid-is a b l w e = rw e

-- of a checked sheet
tokens-yes : (s : List ℕ) (c : Counts) (room : ℕ) (b : List ℕ) (l w : ℕ) → checked s ≡ Ok c → format (env_of s c room) (tokens_of s c) ≡ laid b l w
    → judge_tokens (params_of s c) (keeps_of s c) (options_of s).casing (tokens_of s c) b ≡ Ok Verdict.Yes
unfolding judge_tokens unless_at env_of
tokens-yes s c room b l w h e =
    let d = laid-strips _ _ b l w e (keeps (env_of s c room) (tokens_of s c)) in
    let low : Low b = strip-low b (rw (sym d) at (due-low s c (sound-sheeted s c h) room)) in
    let five = unbarred (env_of s c room) (tokens_of s c) (laid-is _ b l w e) in
    rw (barred-is (env_of s c room) (tokens_of s c), five, low-find 0 b low) (ap (λ (v : Verdict). Ok v) (due-compared s c b h d))

never : (n p : ℕ) {b : List ℕ} {l w : ℕ} → refusal n p ≡ laid b l w → ⊥
unfolding is_laid
never n p {b} {l} {w} e = false≢true (laid-is (refusal n p) b l w e)

-- a sheet that is laid out is not withdrawn
not-withdrawn : (s : List ℕ) (c : Counts) (room : ℕ) (w : Bool) (b : List ℕ) (l n : ℕ) → (if w then refusal 14 28 else format (env_of s c room) (tokens_of s c)) ≡ laid b l n → format (env_of s c room) (tokens_of s c) ≡ laid b l n
not-withdrawn s c room true b l n e = absurd (never 14 28 e)
not-withdrawn s c room false b l n e = e

-- any sheet, any buffer
pub laid-yes : (s : List ℕ) (room : ℕ) (b : List ℕ) (l w : ℕ) → answer s room ≡ laid b l w → judge s b ≡ Ok Verdict.Yes
unfolding answer answer_as judge judge_as
laid-yes s room b l w e = go (checked s) refl e
  where
    go : (f : Result Counts Offence) → checked s ≡ f → answer_as s room f ≡ laid b l w → judge_as s b f ≡ Ok Verdict.Yes
    go (Ok c) h e = tokens-yes s c room b l w h (not-withdrawn s c room (is_withdrawn s) b l w e)
    go (Err offence.Size) h e = absurd (never 1 0 e)
    go (Err (offence.Word p)) h e = absurd (never 2 p e)
    go (Err (offence.Place p)) h e = absurd (never 3 p e)
    go (Err (offence.Byte p)) h e = absurd (never 4 p e)

-- and so any text that the layout call leaves in its buffer, by its own report
pub call_laid : (s : List ℕ) (room : ℕ) (r : Report) (out : List ℕ) → r ≡ reported s room → out ≡ buffer_after s room → r.refusal ≡ 0 → judge s (take r.length out) ≡ Ok Verdict.Yes
unfolding reported buffer_after report_of buffer_of answer due_of
call_laid s room r out e f z = rw (e, f) (go (answer s room) refl numbered (rw e at z))
  where
    numbered : StripsTo (answer s room) (due_of s)
    numbered = by-checked s room (checked s)

    go : (a : Answer) → answer s room ≡ a → StripsTo a (due_of s) → (report_of a).refusal ≡ 0 → judge s (take (report_of a).length (buffer_of room a)) ≡ Ok Verdict.Yes
    go (laid b l w) h k z = rw (take-append_seam b (replicate (room - length b) 0)) (laid-yes s room b l w h)
    go (refusal n p) h k z = absurd (let q = k.0 in omega arith)
