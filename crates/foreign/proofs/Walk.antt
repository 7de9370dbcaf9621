-- The walk a token at a time gives the verdict of all tokens. Assumes nothing.
use mathlib.Core.Path.{◌≡◌, refl, sym, ap, ◌∙◌}
use mathlib.Core.Bool.{Bool, true, false, not, ◌&&◌, ◌||◌, false≢true, or-false, or_assoc}
use Rattle.std.specs.Prelude.{Option, None, Some, if◌then◌else◌, unwrap_or}
use mathlib.Core.List.{List, [], ◌∷◌, ◌++◌, append_assoc, append-nil}
use Prim.Native.Nat.{ℕ, suc}
use native.Mathlib.Omega.{arith}
use lib.Dec.{eqb}
use lib.ListN.{length, take, drop, length-append}
use borrow.Author.Tests.{eqb-true, eq-eqb}
use lib.Seq.{take-append_seam}
use Rattle.rules.specs.declared.TokenKind.{TokenKind}
use Rattle.rules.specs.declared.TokenKind.TheVariants as kind
use Rattle.rules.specs.declared.Turn.{Turn}
use Rattle.rules.specs.Base.{same, any_of, when}
use Rattle.rules.specs.Tokens.{Key, absent, named, zero_indexed, one_indexed, Token, is}
use Rattle.rules.specs.Sheet.{Env, QueryParams, NoParams, Indexed, Named}
use Rattle.rules.specs.Params.{get, advances, offends}
use Rattle.rules.specs.Switch.{Switch, turn_by, turn_of, switched_on}
use Rattle.rules.specs.Rows.{lays_out}
use Rattle.rules.specs.Room.{counter_after}
use Rattle.rules.specs.Formatter.{format_reserved_word}
use Rattle.rules.specs.Due.{strip, Piece, own, cased, filled, role_of, kept_on, switches, kept_by, kept_tokens, in_asked_case, entry_of, is_next, count_next, due_from, due}
use Rattle.rules.proofs.Own.{word-is, filled_is, switch-is}
use Rattle.rules.proofs.Keeps.{counter, counter-none, onto, due_by, due-append, kept_here, next_switch, kept_after, kept_step}
use Rattle.foreign.specs.declared.Verdict.{Verdict}
use Rattle.foreign.specs.Foreign.{begins, first_from, barred, barred_in, first_barred, has_first, unless_no, compared}
use Rattle.foreign.specs.Walk.{barred_from, shown_on, shown_as, walk}

-- ---- beginnings

pub begins-on : (d v rest : List ℕ) → begins (d ++ v) (d ++ rest) ≡ begins v rest
unfolding begins
begins-on [] v rest = refl
begins-on (x ∷ d) v rest = rw (eq-eqb x x refl) (begins-on d v rest)

pub same-on : (d rest : List ℕ) → same d (d ++ rest) ≡ same [] rest
same-on [] rest = refl
same-on (x ∷ d) rest = rw (eq-eqb x x refl) (same-on d rest)

-- what is left after v
pub begins-rest : (v rest : List ℕ) → begins v rest ≡ true → rest ≡ v ++ drop (length v) rest
unfolding begins
begins-rest [] rest h = refl
begins-rest (x ∷ v) [] h = absurd (false≢true h)
begins-rest (x ∷ v) (y ∷ rest) h = go (eqb x y) refl h (begins-rest v rest)
  where
    go : (b : Bool) → eqb x y ≡ b → (b && begins v rest) ≡ true → (begins v rest ≡ true → rest ≡ v ++ drop (length v) rest) → y ∷ rest ≡ x ∷ (v ++ drop (length v) rest)
    go true q g ih = rw (eqb-true x y q, ← ih g)
    go false q g ih = absurd (false≢true g)

-- ---- the counter is the count of those before

entry-count : (ps : QueryParams) (k : Key) (before : List Piece) → entry_of ps k (counter ps before) ≡ entry_of ps k (count_next before)
unfolding counter
entry-count NoParams k before = refl
entry-count (Named ps) absent before = refl
entry-count (Named ps) (named n) before = refl
entry-count (Named ps) (zero_indexed n) before = refl
entry-count (Named ps) (one_indexed n) before = refl
entry-count (Indexed vs) k before = refl

advances-is : (vs : List (List ℕ)) (k : Key) → advances (Indexed vs) k ≡ is_next k
unfolding advances
advances-is vs absent = refl
advances-is vs (named []) = refl
advances-is vs (named (c ∷ n)) = refl
advances-is vs (zero_indexed n) = refl
advances-is vs (one_indexed n) = refl

filled-counted : (ps : QueryParams) (k : Key) (v : List ℕ) (before : List Piece) → when (advances ps k) suc (counter ps before) ≡ counter ps (filled k v ∷ before)
unfolding counter count_next advances when
filled-counted NoParams k v before = refl
filled-counted (Named ps) k v before = refl
filled-counted (Indexed vs) k v before = rw (advances-is vs k)

own-uncounted : (ps : QueryParams) (v : List ℕ) (before : List Piece) → counter ps before ≡ counter ps (own v ∷ before)
unfolding counter count_next
own-uncounted NoParams v before = refl
own-uncounted (Named ps) v before = refl
own-uncounted (Indexed vs) v before = refl

cased-uncounted : (ps : QueryParams) (v : List ℕ) (before : List Piece) → counter ps before ≡ counter ps (cased v ∷ before)
unfolding counter count_next
cased-uncounted NoParams v before = refl
cased-uncounted (Named ps) v before = refl
cased-uncounted (Indexed vs) v before = refl

-- ---- one token

-- xs is kept of a token that shows v, with the counter i after it; b: it is barred
pub record Taken (e : Env) (before xs : List Piece) (v : List ℕ) (i : ℕ) (b : Bool) : Type 0 where
  pub due_of : due_by e before xs ≡ strip v
  pub counted : i ≡ counter e.params (onto xs before)
  pub barring : any_of (barred e.params) xs ≡ b

module _ (e : Env) (before : List Piece) (t : Token) where
  abbrev here : ℕ
  here = counter e.params before

  abbrev TakenAs : Turn → List Piece → Type 0
  TakenAs u xs = Taken e before xs (shown_as e here u t) (counter_after e.params u t here) (lays_out u t.kind && offends e.params t.key)

  kept-none : Taken e before [] [] here false
  unfolding due_from
  kept-none = record { due_of = refl; counted = refl; barring = refl }

  kept-own : (v : List ℕ) → Taken e before (own v ∷ []) v here false
  unfolding due_from barred
  kept-own v = record { due_of = append-nil (strip v); counted = own-uncounted e.params v before; barring = refl }

  kept-cased : (v : List ℕ) → Taken e before (cased v ∷ []) (format_reserved_word e v) here false
  unfolding due_from barred
  kept-cased v = record { due_of = rw (append-nil (strip (in_asked_case e.keep e.options.casing v)), word-is e v); counted = cased-uncounted e.params v before; barring = refl }

  kept-filled : (k : Key) (v : List ℕ) → Taken e before (filled k v ∷ []) (get e.params k here v) (when (advances e.params k) suc here) (offends e.params k)
  unfolding due_from barred
  kept-filled k v =
      record {
        due_of = rw (append-nil (strip (unwrap_or (entry_of e.params k (count_next before)) v)), filled_is e.params k here v, entry-count e.params k before);
        counted = filled-counted e.params k v before;
        barring = or-false (offends e.params k);
      }

  by_kind : (k : TokenKind) → Taken e before (kept_on (role_of k) t) (shown_on e here (role_of k) t) (when (is k kind.Placeholder && advances e.params t.key) suc here) (is k kind.Placeholder && offends e.params t.key)
  unfolding shown_on when
  by_kind kind.TypeSpecifier = kept-own t.value
  by_kind kind.Whitespace = kept-none
  by_kind kind.String = kept-own t.value
  by_kind kind.Reserved = kept-cased t.value
  by_kind kind.ReservedTopLevel = kept-cased t.value
  by_kind kind.ReservedTopLevelNoIndent = kept-cased t.value
  by_kind kind.ReservedNewline = kept-cased t.value
  by_kind kind.ReservedNewlineAfter = kept-cased t.value
  by_kind kind.Operator = kept-own t.value
  by_kind kind.OpenParen = kept-cased t.value
  by_kind kind.CloseParen = kept-cased t.value
  by_kind kind.LineComment = kept-own t.value
  by_kind kind.BlockComment = kept-own t.value
  by_kind kind.Number = kept-own t.value
  by_kind kind.Placeholder = kept-filled t.key t.value
  by_kind kind.Word = kept-own t.value
  by_kind kind.Join = kept-own t.value

  by-switch : (on : Bool) (o : Option Bool) → TakenAs (turn_by on o) (kept_by o on t)
  unfolding turn_by shown_as counter_after lays_out when
  by-switch on (Some off) = kept-none
  by-switch true None = by_kind t.kind
  by-switch false None = kept-own t.value

  pub taken-so : (on drop : Bool) → TakenAs (turn_of (record { enabled = on; drop_next = drop }) t.kind t.value) (kept_here on drop t)
  unfolding turn_of shown_as counter_after lays_out when
  taken-so on true = kept-none
  taken-so on false = rw (switch-is t.kind t.value) (by-switch on (switches (role_of t.kind) t.value))

-- ---- the first of the tokens

length-on : (done : List Token) (t : Token) → length (done ++ (t ∷ [])) ≡ suc (length done)
length-on done t = omega (arith, length-append done (t ∷ []))

-- with one more, as many as stand before it and it
take_on : (done ts : List Token) (t : Token) → take (suc (length done)) (done ++ (t ∷ ts)) ≡ done ++ (t ∷ [])
take_on done ts t = rw (← length-on done t, ← append_assoc done (t ∷ []) ts) (take-append_seam (done ++ (t ∷ [])) ts)

abbrev on_with : Switch → Token → Switch
on_with w t = next_switch w.enabled w.drop_next t

abbrev kept_with : Switch → Token → List Piece
kept_with w t = kept_here w.enabled w.drop_next t

-- ---- refusal 5

pub any_append : {A : Type 0} (p : A → Bool) (xs ys : List A) → any_of p (xs ++ ys) ≡ (any_of p xs || any_of p ys)
any_append p [] ys = refl
any_append p (x ∷ xs) ys = rw (any_append p xs ys) (sym (or_assoc (p x) (any_of p xs) (any_of p ys)))

-- after these tokens, none of which is barred, the switch is w
abbrev Unbarred : Env → List Token → Switch → Type 0
Unbarred e done w = (us : List Token) → barred_in e.params (done ++ us) ≡ any_of (barred e.params) (kept_after w us)

module _ (e : Env) (all : List Token) where
  -- whether one of those up to token i is barred
  abbrev barred_to : ℕ → Bool
  barred_to i = barred_in e.params (take (suc i) all)

  here-barred : (done ts : List Token) (w : Switch) (t : Token) (b : Bool) → all ≡ done ++ (t ∷ ts)
      → ((us : List Token) → barred_in e.params (done ++ (t ∷ us)) ≡ (b || any_of (barred e.params) (kept_after (on_with w t) us))) → barred_to (length done) ≡ b
  unfolding kept_tokens
  here-barred done ts w t b split at-t = rw (split, take_on done ts t) (at-t [] ∙ or-false b)

  barred-from : (done ts : List Token) (w : Switch) → all ≡ done ++ ts → Unbarred e done w → first_from barred_to (length done) (length ts) ≡ barred_from e.params w (length done) ts
  unfolding first_from barred_from
  barred-from done [] w split un = refl
  barred-from done (t ∷ ts) w split un =
      let b : Bool = lays_out (turn_of w t.kind t.value) t.kind && offends e.params t.key in
      let at-t : (us : List Token) → barred_in e.params (done ++ (t ∷ us)) ≡ (b || any_of (barred e.params) (kept_after (on_with w t) us)) =
      λ us. un (t ∷ us) ∙ rw (kept_step w.enabled w.drop_next t us, any_append (barred e.params) (kept_with w t) (kept_after (on_with w t) us), (taken-so e [] t w.enabled w.drop_next).barring) in
      rw (here-barred done ts w t b split at-t)
      (go b at-t (λ un. rw (length-on done t) at (barred-from (done ++ (t ∷ [])) ts (on_with w t) (split ∙ sym (append_assoc done (t ∷ []) ts)) un)))
    where
      go : (b : Bool) → ((us : List Token) → barred_in e.params (done ++ (t ∷ us)) ≡ (b || any_of (barred e.params) (kept_after (on_with w t) us)))
          → (Unbarred e (done ++ (t ∷ [])) (on_with w t) → first_from barred_to (suc (length done)) (length ts) ≡ barred_from e.params (on_with w t) (suc (length done)) ts)
          → (if b then Some (length done) else first_from barred_to (suc (length done)) (length ts)) ≡ (if b then Some (length done) else barred_from e.params (on_with w t) (suc (length done)) ts)
      go true at-t ih = refl
      go false at-t ih = ih (λ us. rw (append_assoc done (t ∷ []) us) (at-t us))

-- it is given at the first placeholder that the walk meets
pub barred-is : (e : Env) (ts : List Token) → first_barred e.params ts ≡ barred_from e.params switched_on 0 ts
unfolding first_barred barred_in switched_on
barred-is e ts = barred-from e ts [] ts switched_on refl (λ us. refl)

-- ---- the comparison

-- d is due of these tokens; after them the switch is w, and past are the kept ones
abbrev DueOf : Env → List Token → List Piece → Switch → List ℕ → Type 0
DueOf e done past w d = (us : List Token) → due e.params e.keep e.options.casing (done ++ us) ≡ d ++ due_by e past (kept_after w us)

module _ (e : Env) (all : List Token) (text : List ℕ) where
  -- the text lacks something of those up to token i
  abbrev lacks : ℕ → Bool
  lacks i = not (has_first e.params e.keep e.options.casing all text (suc i))

  abbrev verdict : Option ℕ → Verdict
  verdict o = unless_no e.params e.keep e.options.casing all text o

  verdict-end : (done : List Token) (past : List Piece) (w : Switch) (d rest : List ℕ) → all ≡ done → strip text ≡ d ++ rest → DueOf e done past w d → verdict None ≡ (if same [] rest then Verdict.Yes else Verdict.No (length done))
  unfolding unless_no kept_tokens due_from
  verdict-end done past w d rest split have is-due =
      let whole : due e.params e.keep e.options.casing done ≡ d = rw (append-nil done, append-nil d) at (is-due []) in
      rw (split, whole, have, same-on d rest)

  lacks-here : (done ts : List Token) (past : List Piece) (w : Switch) (d rest : List ℕ) (t : Token) (v : List ℕ) → all ≡ done ++ (t ∷ ts) → strip text ≡ d ++ rest
      → ((us : List Token) → due e.params e.keep e.options.casing (done ++ (t ∷ us)) ≡ d ++ (v ++ due_by e past (kept_after w us))) → lacks (length done) ≡ not (begins v rest)
  unfolding has_first kept_tokens due_from
  lacks-here done ts past w d rest t v split have at-t = rw (split, take_on done ts t, at-t [], append-nil v, have, begins-on d v rest)

  walk_from : (done ts : List Token) (past : List Piece) (w : Switch) (d rest : List ℕ) → all ≡ done ++ ts → strip text ≡ d ++ rest → DueOf e done past w d
      → verdict (first_from lacks (length done) (length ts)) ≡ walk e w (counter e.params past) (length done) ts rest
  unfolding first_from walk unless_no
  walk_from done [] past w d rest split have is-due = verdict-end done past w d rest (split ∙ append-nil done) have is-due
  walk_from done (t ∷ ts) past w d rest split have is-due =
      let u : Turn = turn_of w t.kind t.value in
      let v : List ℕ = strip (shown_as e (counter e.params past) u t) in
      let taken = taken-so e past t w.enabled w.drop_next in
      let onward : List Piece = onto (kept_with w t) past in
      let at-t : (us : List Token) → due e.params e.keep e.options.casing (done ++ (t ∷ us)) ≡ d ++ (v ++ due_by e onward (kept_after (on_with w t) us)) =
      λ us. is-due (t ∷ us) ∙ rw (kept_step w.enabled w.drop_next t us, due-append e past (kept_with w t) (kept_after (on_with w t) us), taken.due_of) in
      rw (lacks-here done ts onward (on_with w t) d rest t v split have at-t, taken.counted)
      (go v onward at-t (begins v rest) refl
      (λ m f. rw (length-on done t) at (walk_from (done ++ (t ∷ [])) ts onward (on_with w t) (d ++ v) (drop (length v) rest) (split ∙ sym (append_assoc done (t ∷ []) ts)) m f)))
    where
      go : (v : List ℕ) (onward : List Piece) → ((us : List Token) → due e.params e.keep e.options.casing (done ++ (t ∷ us)) ≡ d ++ (v ++ due_by e onward (kept_after (on_with w t) us))) → (b : Bool) → begins v rest ≡ b
          → (strip text ≡ (d ++ v) ++ drop (length v) rest → DueOf e (done ++ (t ∷ [])) onward (on_with w t) (d ++ v) → verdict (first_from lacks (suc (length done)) (length ts)) ≡ walk e (on_with w t) (counter e.params onward) (suc (length done)) ts (drop (length v) rest))
          → verdict (if not b then Some (length done) else first_from lacks (suc (length done)) (length ts)) ≡ (if b then walk e (on_with w t) (counter e.params onward) (suc (length done)) ts (drop (length v) rest) else Verdict.No (length done))
      go v onward at-t true h ih = ih (rw (append_assoc d v (drop (length v) rest), ← begins-rest v rest h) have) (λ us. rw (append_assoc done (t ∷ []) us, append_assoc d v (due_by e onward (kept_after (on_with w t) us))) (at-t us))
      go v onward at-t false h ih = refl

pub walk_is : (e : Env) (ts : List Token) (text : List ℕ) → compared e.params e.keep e.options.casing ts text ≡ walk e switched_on 0 0 ts (strip text)
unfolding compared due switched_on
walk_is e ts text = walk_from e ts text [] ts [] switched_on [] (strip text) refl refl (λ us. refl) ∙ ap (λ (i : ℕ). walk e switched_on i 0 ts (strip text)) (sym (counter-none e.params))
