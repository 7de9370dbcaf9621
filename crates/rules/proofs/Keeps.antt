-- Demand 3: a text that the rules lay out is, without its white bytes, what is due of the tokens. Assumes nothing.
use mathlib.Core.Path.{◌≡◌, refl, sym, ap, subst, ◌∙◌}
use mathlib.Core.Bool.{Bool, true, false}
use Rattle.std.specs.Prelude.{Option, None, Some, if◌then◌else◌}
use mathlib.Core.List.{List, [], ◌∷◌, ◌++◌, append_assoc, append-nil}
use Prim.Native.Nat.{ℕ, suc, ◌≤◌}
use native.Mathlib.Omega.{arith}
use lib.ListN.{length}
use Rattle.rules.specs.declared.TokenKind.{TokenKind}
use Rattle.rules.specs.declared.TokenKind.TheVariants as kind
use Rattle.rules.specs.Base.{when}
use Rattle.rules.specs.Tokens.{Key, absent, named, zero_indexed, one_indexed, Token, Here}
use Rattle.rules.specs.Sheet.{Env, QueryParams, NoParams, Indexed, Named}
use Rattle.rules.specs.Text.{Text, fits, refused, mark}
use Rattle.rules.specs.Switch.{Switch, turn_by, turn_of, switch_after, switched_on}
use Rattle.rules.specs.Params.{get, advances, offends}
use Rattle.rules.specs.State.{State, start, on_text, on_index}
use Rattle.rules.specs.Formatter.{span_info, format_reserved_word, format_placeholder, format_token, format_no_change}
use Rattle.rules.specs.InlineBlock.{build_info}
use Rattle.rules.specs.Answer.{Answer, laid, refusal, taken_as, report, unless_refused, finish, taken, format_from, format}
use Rattle.rules.specs.Due.{strip, Piece, own, cased, filled, role_of, kept_on, switches, kept_by, on_after, is_switch, kept_tokens, entry_of, is_next, count_next, shows, due_from, due}
use Rattle.rules.proofs.Strip.{strip-trimmed}
use Rattle.rules.proofs.Own.{word-is, filled_is, switch-is}
use Rattle.rules.proofs.Adds

-- ---- the counter is the count of those before

-- the counter, under the sheet's parameters, once those before were laid out
unfoldable pub counter : QueryParams → List Piece → ℕ
counter NoParams before = 0
counter (Named ps) before = 0
counter (Indexed vs) before = count_next before

-- the entry goes by the count alone
entry-count : (ps : QueryParams) (k : Key) (before : List Piece) → entry_of ps k (counter ps before) ≡ entry_of ps k (count_next before)
unfolding counter
entry-count NoParams k before = refl
entry-count (Named ps) absent before = refl
entry-count (Named ps) (named n) before = refl
entry-count (Named ps) (zero_indexed n) before = refl
entry-count (Named ps) (one_indexed n) before = refl
entry-count (Indexed vs) k before = refl

own-uncounted : (ps : QueryParams) (v : List ℕ) (before : List Piece) → counter ps (own v ∷ before) ≡ counter ps before
unfolding counter count_next
own-uncounted NoParams v before = refl
own-uncounted (Named ps) v before = refl
own-uncounted (Indexed vs) v before = refl

cased-uncounted : (ps : QueryParams) (v : List ℕ) (before : List Piece) → counter ps (cased v ∷ before) ≡ counter ps before
unfolding counter count_next
cased-uncounted NoParams v before = refl
cased-uncounted (Named ps) v before = refl
cased-uncounted (Indexed vs) v before = refl

advances-is : (vs : List (List ℕ)) (k : Key) → advances (Indexed vs) k ≡ is_next k
unfolding advances
advances-is vs absent = refl
advances-is vs (named []) = refl
advances-is vs (named (c ∷ n)) = refl
advances-is vs (zero_indexed n) = refl
advances-is vs (one_indexed n) = refl

filled-counted : (ps : QueryParams) (k : Key) (v : List ℕ) (before : List Piece) → (if advances ps k then suc (counter ps before) else counter ps before) ≡ counter ps (filled k v ∷ before)
unfolding counter count_next advances
filled-counted NoParams k v before = refl
filled-counted (Named ps) k v before = refl
filled-counted (Indexed vs) k v before = rw (advances-is vs k)

-- from s to u, v is added, and the counter is n
pub record Lays (s u : State) (v : List ℕ) (n : ℕ) : Type 0 where
  pub grown : Adds.Grown s.text u.text v
  pub count : u.index ≡ n

moves : (b : Bool) {s u : State} {v : List ℕ} → Adds.Adds s u v → Lays s (when b (on_index suc) u) v (if b then suc s.index else s.index)
unfolding when on_index
moves true p = record { grown = p.goes.grown; count = ap suc p.counted }
moves false p = record { grown = p.goes.grown; count = p.counted }

placeholder : (e : Env) (t : Token) {s : State} → Lays s (format_placeholder e t s) (strip (get e.params t.key s.index t.value)) (if advances e.params t.key then suc s.index else s.index)
unfolding format_placeholder
placeholder e t = moves (advances e.params t.key) (Adds.◌quietly◌ (Adds.◌then◌ (Adds.refuses (offends e.params t.key) 5 (omega arith, omega arith)) (Adds.pushes e _)) (Adds.blank e))

-- ---- what is due of some tokens, then of others

-- these before those that were before
abbrev pub onto : List Piece → List Piece → List Piece
onto [] before = before
onto (x ∷ xs) before = onto xs (x ∷ before)

-- what is due under the options of e
abbrev pub due_by : Env → List Piece → List Piece → List ℕ
due_by e before xs = due_from e.params e.keep e.options.casing before xs

pub due-append : (e : Env) (before xs ys : List Piece) → due_by e before (xs ++ ys) ≡ due_by e before xs ++ due_by e (onto xs before) ys
unfolding due_from
due-append e before [] ys = refl
due-append e before (x ∷ xs) ys = rw (due-append e (x ∷ before) xs ys) (sym (append_assoc (strip (shows e.params e.keep e.options.casing before x)) (due_by e (x ∷ before) xs) (due_by e (onto xs (x ∷ before)) ys)))

-- ---- one token

-- what a token adds to the text and to the count: xs, what is kept of it
abbrev pub LaysOut : Env → List Piece → State → State → List Piece → Type 0
LaysOut e before s u xs = Lays s u (due_by e before xs) (counter e.params (onto xs before))

module _ (e : Env) (h : Here) (before : List Piece) (s : State) (sync : s.index ≡ counter e.params before) where
  lays-nothing : LaysOut e before s s []
  unfolding due_from
  lays-nothing = record { grown = (Adds.same_text {s = s} {u = s} refl refl).goes.grown; count = sync }

  lays-own : (v : List ℕ) {u : State} → Adds.Adds s u (strip v) → LaysOut e before s u (own v ∷ [])
  unfolding due_from
  lays-own v p = record { grown = rw (append-nil (strip v)) p.goes.grown; count = p.counted ∙ sync ∙ sym (own-uncounted e.params v before) }

  lays-word : (v : List ℕ) {u : State} → Adds.Adds s u (strip (format_reserved_word e v)) → LaysOut e before s u (cased v ∷ [])
  unfolding due_from
  lays-word v p = record { grown = rw (append-nil _, ← word-is e v) p.goes.grown; count = p.counted ∙ sync ∙ sym (cased-uncounted e.params v before) }

  lays-parameter : (t : Token) → LaysOut e before s (format_placeholder e t s) (filled t.key t.value ∷ [])
  unfolding due_from
  lays-parameter t =
      let p = placeholder e t {s = s} in
      record {
        grown = rw (append-nil _, ← entry-count e.params t.key before, ← filled_is e.params t.key _ t.value, ← sync) p.grown;
        count = p.count ∙ rw sync (filled-counted e.params t.key t.value before);
      }

  -- laid out, by its kind
  by_kind : (k : TokenKind) → LaysOut e before s (format_token e h k s) (kept_on (role_of k) h.token)
  unfolding format_token
  by_kind kind.Whitespace = lays-nothing
  by_kind kind.LineComment = lays-own _ (Adds.line_comment e h)
  by_kind kind.BlockComment = lays-own _ (Adds.block_comment e h)
  by_kind kind.ReservedTopLevel = lays-word _ (Adds.top_level e h (span_info e h s))
  by_kind kind.ReservedTopLevelNoIndent = lays-word _ (Adds.top_level_no_indent e h (span_info e h s))
  by_kind kind.ReservedNewlineAfter = lays-word _ (Adds.newline_after e h (span_info e h s))
  by_kind kind.ReservedNewline = lays-word _ (Adds.newline e h)
  by_kind kind.Reserved = lays-word _ (Adds.reserved e h)
  by_kind kind.OpenParen = lays-word _ (Adds.opening e h (build_info (h.token ∷ h.after)))
  by_kind kind.CloseParen = lays-word _ (Adds.closing e h)
  by_kind kind.Placeholder = lays-parameter h.token
  by_kind kind.TypeSpecifier = lays-own _ (Adds.type_specifier e h)
  by_kind kind.String = lays-own _ (Adds.by_value e h.token.value)
  by_kind kind.Operator = lays-own _ (Adds.by_value e h.token.value)
  by_kind kind.Number = lays-own _ (Adds.by_value e h.token.value)
  by_kind kind.Word = lays-own _ (Adds.by_value e h.token.value)
  by_kind kind.Join = lays-own _ (Adds.by_value e h.token.value)

  -- by what it switches
  by-switch : (on : Bool) (o : Option Bool) → LaysOut e before s (taken_as (turn_by on o) e h s) (kept_by o on h.token)
  unfolding turn_by taken_as format_no_change
  by-switch on (Some off) = lays-nothing
  by-switch true None = by_kind h.token.kind
  by-switch false None = lays-own _ (Adds.pushes e h.token.value)

-- ---- the switch

-- what is kept of one token, the switch being on or off, the token before a switch comment or not
abbrev pub kept_here : Bool → Bool → Token → List Piece
kept_here on true t = []
kept_here on false t = kept_by (switches (role_of t.kind) t.value) on t

abbrev pub next_switch : Bool → Bool → Token → Switch
next_switch on drop t = let w : Switch = record { enabled = on; drop_next = drop } in switch_after (turn_of w t.kind t.value) w

-- those kept from a switch on
abbrev pub kept_after : Switch → List Token → List Piece
kept_after w ts = kept_tokens w.enabled w.drop_next ts

pub kept_step : (on drop : Bool) (t : Token) (ts : List Token) → kept_tokens on drop (t ∷ ts) ≡ kept_here on drop t ++ kept_after (next_switch on drop t) ts
unfolding kept_tokens turn_of turn_by switch_after
kept_step on true t ts = refl
kept_step on false t ts = rw (switch-is t.kind t.value) (go (switches (role_of t.kind) t.value) on)
  where
    go : (o : Option Bool) (on : Bool)
        → kept_by o on t ++ kept_tokens (on_after o on) (is_switch o) ts ≡ kept_by o on t ++ kept_after (switch_after (turn_by on o) (record { enabled = on; drop_next = false })) ts
    go (Some off) on = refl
    go None true = refl
    go None false = refl

pub lays_step : (e : Env) (h : Here) (before : List Piece) (s : State) → s.index ≡ counter e.params before → (on drop : Bool)
    → LaysOut e before s (taken_as (turn_of (record { enabled = on; drop_next = drop }) h.token.kind h.token.value) e h s) (kept_here on drop h.token)
unfolding turn_of taken_as
lays_step e h before s sync on true = lays-nothing e h before s sync
lays_step e h before s sync on false = rw (switch-is h.token.kind h.token.value) (by-switch e h before s sync on (switches (role_of h.token.kind) h.token.value))

-- ---- the whole

-- a text that is laid out strips to v; a refusal has a number, and it is not that of the list
abbrev pub StripsTo : Answer → List ℕ → Type 0
StripsTo (laid b l w) v = strip b ≡ v
StripsTo (refusal n p) v = (1 ≤ n) × (n ≡ 10 → ⊥)

-- one step and the rest: d is added by the step, r by the rest
keeps-next : (x : Text) (place : ℕ) (rest : Answer) (k m : ℕ) (a d r : List ℕ) → Adds.Grown (fits k m a) x d → ((l n : ℕ) (c : List ℕ) → x ≡ fits l n c → StripsTo rest (strip c ++ r)) → StripsTo (unless_refused x place rest) (strip a ++ (d ++ r))
unfolding unless_refused
keeps-next (fits l n c) place rest k m a d r g ih = rw (← append_assoc (strip a) d r, ← g) (ih l n c refl)
keeps-next (refused n) place rest k m a d r g ih = let l = g.1 in (g.0, λ h. omega arith)

keeps-from : (e : Env) (before ts : List Token) (past : List Piece) (w : Switch) (s : State) (k m : ℕ) (a : List ℕ) → s.text ≡ fits k m a → s.index ≡ counter e.params past
    → StripsTo (format_from e before ts w s) (strip a ++ due_by e past (kept_after w ts))
unfolding format_from kept_tokens due_from finish report unless_refused taken on_text
keeps-from e before [] past w s k m a h sync = rw h (strip-trimmed a ∙ sym (append-nil (strip a)))
keeps-from e before (t ∷ ts) past w s k m a h sync =
    let here : Here = record { before = before; token = t; after = ts } in
    let xs : List Piece = kept_here w.enabled w.drop_next t in
    let after : Switch = next_switch w.enabled w.drop_next t in
    let rest : List Piece = kept_after after ts in
    let from : State = on_text mark s in
    let done : State = taken_as (turn_of w t.kind t.value) e here from in
    let lays : LaysOut e past from done xs = lays_step e here past from sync w.enabled w.drop_next in
    rw (kept_step w.enabled w.drop_next t ts, due-append e past xs rest)
    (keeps-next done.text (length before) (format_from e (t ∷ before) ts after done) k (length a) a (due_by e past xs) (due_by e (onto xs past) rest)
    (subst (λ (x : Text). Adds.Grown (mark x) done.text (due_by e past xs)) h lays.grown)
    (λ l n c q. keeps-from e (t ∷ before) ts (onto xs past) after done l n c q lays.count))

pub counter-none : (ps : QueryParams) → 0 ≡ counter ps []
unfolding counter count_next
counter-none NoParams = refl
counter-none (Named ps) = refl
counter-none (Indexed vs) = refl

-- the theorem
pub keeps : (e : Env) (ts : List Token) → StripsTo (format e ts) (due e.params e.keep e.options.casing ts)
unfolding format due start switched_on
keeps e ts = keeps-from e [] ts [] switched_on start 0 0 [] refl (counter-none e.params)
