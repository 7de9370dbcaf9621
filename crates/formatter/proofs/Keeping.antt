-- The rows of the run: those in the list are those of the tokens before, and with what is left they are all. Assumes nothing.
use mathlib.Core.Path.{◌≡◌, refl, sym, ap, ◌∙◌}
use mathlib.Core.Bool.{Bool, true, false, ◌&&◌}
use Rattle.std.specs.Prelude.{Option, Some, if◌then◌else◌}
use mathlib.Core.List.{List, [], ◌∷◌, ◌++◌, map}
use Prim.Native.Nat.{ℕ, suc, ◌+◌, ◌-◌, ◌*◌, ◌≤◌, ◌<◌, min}
use native.Mathlib.Omega.{arith}
use native.Mathlib.Nat.{sub-zero, min-le_left}
use lib.Dec.{leb}
use lib.ListN.{length, take, replicate, length-replicate}
use lib.Seq.{length-take-le}
use Rattle.rules.specs.declared.TokenKind.{TokenKind}
use Rattle.rules.specs.declared.TokenKind.TheVariants as kind
use Rattle.rules.specs.declared.Turn.{Turn}
use Rattle.rules.specs.declared.Turn.TheVariants as turn
use Rattle.rules.specs.Base.{◌▹◌, when}
use Rattle.rules.specs.Text.{Text, fits, trimmed, refused, append, refuse, mark, low_of, bytes_in}
use Rattle.rules.specs.Tokens.{Token, Here, is}
use Rattle.rules.specs.Sheet.{Env, token_of, tokens_of, here_at}
use Rattle.rules.specs.Switch.{Switch, switch_after, switched_on}
use Rattle.rules.specs.State.{State, start, on_text, refuse_if, push_str, push, on_index}
use Rattle.rules.specs.Params.{source, get, advances, offends}
use Rattle.rules.specs.Formatter.{format_token, format_placeholder}
use Rattle.rules.specs.Answer.{Answer, laid, refusal, taken_as, taken, unless_refused, finish, report}
use Rattle.rules.specs.Rows.{Row, lays_out, row_of as rules_row, rows_after, clip, trim_row, rows, placeholders, entry_word, list_for, rows_words}
use Rattle.rows.specs.Listing.{row_of, rows_in, listing, count_after, Under, InOrder, Words, Listed, entry_of}
use Rattle.rows.proofs.Order.{under_more, under-order, clip-under, add-under}
use Rattle.rows.proofs.Back.{entry-back, rows-after, words-after, rows_taken}
use Rattle.text.specs.Held.{text_of, Held, marked}
use Rattle.text.proofs.HeldLaws.{text-fits, text-marked}
use Rattle.fmt_switch.specs.Of.{switch_of}
use Rattle.fmt_switch.specs.declared.Switch.{Switch as CodeSwitch}
use Rattle.around.specs.Run.{turn_at, step_at, rows_from_at}
use Rattle.around.proofs.Run.{rows-turn, rows_end, rows_all}
use Rattle.switched.proofs.Count.{count_from, count_turn, count-all}
use Rattle.state.specs.declared.State.{State as Code}
use Rattle.state.specs.declared.Context.{Context}
use Rattle.state.specs.Of.{state_of, with_text, Known, env_in, here_in}
use Rattle.values.specs.On.{RowIn, row_at}
use types.Run.{OneOf, miss}
use denote.Enum.Declared as Declared
use Rattle.rules.specs.contracts.TokenKind as kinds
use Rattle.formatter.specs.Run.{changes_kind, changes_in, kind_in, answer_in, list_in, Begun, Stepped}
use Rattle.formatter.proofs.Laws.{Running, state-marked, stepped-is, by_end, refused-at}
use Rattle.formatter.proofs.Arms.{false_true, other-kinds}

-- ---- a placeholder cuts nothing

-- from a text to the next low stays
abbrev Level : Text → Text → Type 0
Level (fits k m b) (fits l n c) = n ≡ m
Level (fits k m b) (refused n) = Unit {0}
Level (refused n) (fits l m c) = ⊥
Level (refused n) (refused m) = Unit {0}

level-then : (t u w : Text) → Level t u → Level u w → Level t w
level-then (fits j a b) (fits k c d) (fits l e f) p q = q ∙ p
level-then (fits j a b) (fits k c d) (refused n) p q = tt
level-then (fits j a b) (refused n) (fits l e f) p q = absurd q
level-then (fits j a b) (refused n) (refused m) p q = tt
level-then (refused n) (fits k c d) w p q = absurd p
level-then (refused n) (refused m) (fits l e f) p q = absurd q
level-then (refused n) (refused m) (refused k) p q = tt

level-append : (room : ℕ) (v : List ℕ) (t : Text) → Level t (append room v t)
level-append room v (refused n) = tt
level-append room v (fits k m b) = go (leb (length b + length v) room)
  where
    go : (f : Bool) → Level (fits k m b) (if f then fits k m (b ++ v) else refused 9)
    go true = refl
    go false = tt

level-refuse : (n : ℕ) (b : Bool) (t : Text) → Level t (if b then refuse n t else t)
level-refuse n true (fits k m b) = tt
level-refuse n true (refused m) = tt
level-refuse n false (fits k m b) = refl
level-refuse n false (refused m) = tt

indexed : (b : Bool) (f : ℕ → ℕ) (s : State) → (when b (on_index f) s).text ≡ s.text
unfolding when on_index
indexed true f s = refl
indexed false f s = refl

level-placeholder : (e : Env) (t : Token) (s : State) → Level s.text (format_placeholder e t s).text
unfolding format_placeholder refuse_if push_str push on_text
level-placeholder e t s =
    let five : Text = if offends e.params t.key then refuse 5 s.text else s.text in
    let put : Text = append e.room (get e.params t.key s.index t.value) five in
    rw (indexed (advances e.params t.key) suc)
    (level-then s.text put (append e.room (32 ∷ []) put) (level-then s.text five put (level-refuse 5 (offends e.params t.key) s.text) (level-append e.room _ five)) (level-append e.room (32 ∷ []) put))

-- ---- the row that is added

marked-length : (w : Text) → length (bytes_in (mark w)) ≡ length (bytes_in w)
marked-length (fits k m b) = refl
marked-length (refused n) = refl

at-start : ℕ → Option ℕ → ℕ → ℕ → Row
at-start n o l m = record { token = n; entry = o; start = m; len = l }

marked_row : (e : Env) (n : ℕ) (t : Token) (s : State) → rules_row e n t (on_text mark s) ≡ rules_row e n t s
unfolding rules_row on_text at-start
marked_row e n t s =
    ap (at-start n (source e.params t.key s.index) (length (get e.params t.key s.index t.value))) (marked-length s.text)

low-marked : (w : Text) → low_of (mark w) ≡ length (bytes_in w)
low-marked (fits k m b) = refl
low-marked (refused n) = refl

level-low : (t : Text) (k m : ℕ) (b : List ℕ) → Level t (fits k m b) → m ≡ low_of t
level-low (fits l n c) k m b h = h
level-low (refused n) k m b h = absurd h

is-placeholder : (k : TokenKind) → is k kind.Placeholder ≡ true → k ≡ kind.Placeholder
is-placeholder kind.TypeSpecifier h = false_true h
is-placeholder kind.Whitespace h = false_true h
is-placeholder kind.String h = false_true h
is-placeholder kind.Reserved h = false_true h
is-placeholder kind.ReservedTopLevel h = false_true h
is-placeholder kind.ReservedTopLevelNoIndent h = false_true h
is-placeholder kind.ReservedNewline h = false_true h
is-placeholder kind.ReservedNewlineAfter h = false_true h
is-placeholder kind.Operator h = false_true h
is-placeholder kind.OpenParen h = false_true h
is-placeholder kind.CloseParen h = false_true h
is-placeholder kind.LineComment h = false_true h
is-placeholder kind.BlockComment h = false_true h
is-placeholder kind.Number h = false_true h
is-placeholder kind.Placeholder h = refl
is-placeholder kind.Word h = false_true h
is-placeholder kind.Join h = false_true h

-- a placeholder that is laid out
laid-placeholder : (t : Turn) (k : TokenKind) → lays_out t k ≡ true → (t ≡ turn.LaidOut) × (k ≡ kind.Placeholder)
unfolding lays_out
laid-placeholder turn.Dropped k h = false_true h
laid-placeholder (turn.Switches off) k h = false_true h
laid-placeholder turn.LaidOut k h = (refl, is-placeholder k h)
laid-placeholder turn.Copied k h = false_true h

step-level : (t : Turn) (e : Env) (h : Here) (s : State) → lays_out t h.token.kind ≡ true → Level (mark s.text) (taken t e h s).text
unfolding taken taken_as format_token format_placeholder on_text
step-level t e h s q =
    let p = laid-placeholder t h.token.kind q in
    rw p.0 (rw p.1 (level-placeholder e h.token (on_text mark s)))

by-fields : (n w m l : ℕ) (r : Row) → n ≡ r.token → w ≡ entry_word r.entry → ((k : ℕ) → r.entry ≡ Some k → k < 4294967295) → m ≡ r.start → l ≡ r.len → row_of n w m l ≡ r
unfolding row_of
by-fields n w m l r a b f c d = rw (a, b, entry-back r.entry f, c, d)

-- ---- no other token has a row

pub no_row : {A : Type 0} (t : Turn) (k j : TokenKind) → k ≡ j → is j kind.Placeholder ≡ false → lays_out t k ≡ true → A
no_row t k j e f h =
    let p : j ≡ kind.Placeholder = sym e ∙ (laid-placeholder t k h).1 in
    let g : true ≡ is j kind.Placeholder = rw p in false_true (sym f ∙ sym g)

pub other_row : {A : Type 0} (t : Turn) (k : TokenKind) → OneOf other-kinds (Declared.tag_of kinds.the_type k) → lays_out t k ≡ true → A
other_row {A} t k o h = go k (laid-placeholder t k h).1 o
  where
    go : (j : TokenKind) → j ≡ kind.Placeholder → OneOf other-kinds (Declared.tag_of kinds.the_type j) → A
    go j e o = absurd (miss other-kinds 14 tt (rw e at o))

pub changed_row : {A : Type 0} (t : Turn) (k : TokenKind) (c sep : Bool) → c ≡ changes_in t k sep → c ≡ false → lays_out t k ≡ true → A
unfolding changes_in changes_kind
changed_row t k c sep e f h =
    let p = laid-placeholder t k h in
    let g : changes_in t k sep ≡ true = rw (p.0, p.1) in false_true (sym f ∙ e ∙ g)

-- ---- lengths at the start

pub begun-here : (r : Code) (cap : ℕ) (q : List ℕ) → Begun r cap q → Begun r (length q) q
begun-here r cap q b = record { room = refl; fine = b.fine; steady = b.steady; state = b.state }

pub cleared-length : (d : List ℕ) (k : ℕ) → d ≡ replicate k 0 → length d ≡ k
cleared-length d k e = ap length e ∙ length-replicate k 0

pub cleared-here : (d : List ℕ) (k : ℕ) → d ≡ replicate k 0 → d ≡ replicate (length d) 0
cleared-here d k e = e ∙ rw (cleared-length d k e)

-- ---- the run

-- what holds at token i of the rows in the list d, of which there are `count`; without rows (b) there are none
pub record Keeping (s : List ℕ) (x : Context) (cap : ℕ) (b : Bool) (i : ℕ) (st : Code) (w : CodeSwitch) (q : List ℕ) (k : ℕ) (d : List ℕ) (count : ℕ) : Type 0 where
  pub long : length d ≡ k
  pub listed : Listed d count
  pub none : b ≡ false → count ≡ 0
  pub room : b ≡ true → 5 * count_from s x.base x.counts.tokens count i (switch_of w) ≤ k
  pub left : b ≡ true → rows_from_at (env_in s x cap) s x.base x.counts.tokens i (switch_of w) (state_of s x.base st q) (rows_in count d) ≡ rows (env_in s x cap) (tokens_of s x.counts)

pub keep-starts : (s : List ℕ) (x : Context) (cap : ℕ) (b : Bool) (st : Code) (w : CodeSwitch) (q : List ℕ) (k : ℕ) (d : List ℕ) → Known s x → Begun st cap q → switch_of w ≡ switched_on
    → (b ≡ true → 5 * placeholders (tokens_of s x.counts) ≤ k) → d ≡ replicate k 0 → Keeping s x cap b 0 st w q k d 0
unfolding rows_in listing rows_words InOrder
keep-starts s x cap b st w q k d known begun e h z =
    let l : length d ≡ k = ap length z ∙ length-replicate k 0 in
    record {
      long = l;
      listed = record { listed = record { words = z ∙ rw (l, sub-zero) }; order = tt };
      none = λ f. refl;
      room = λ t. rw (e, known.base, count-all s x.counts) (h t);
      left = λ t. rw (begun.state s x.base, e, known.base) (sym (rows_all (env_in s x cap) s x.counts));
    }

-- rows that are clipped end at or below the cut
clipped-under : (n : ℕ) (rs : List Row) → InOrder rs → Under n (map (clip n) rs)
unfolding InOrder Under
clipped-under n [] o = tt
clipped-under n (r ∷ rs) o = let h : min n (r.start + r.len) ≤ n = min-le_left n (r.start + r.len) in under_more (min n (r.start + r.len)) n (map (clip n) (r ∷ rs)) h (clip-under n (r.start + r.len) (r ∷ rs) (add-under r rs o))

order-after : (b : Bool) (n : ℕ) (r : Row) (rs : List Row) → (b ≡ true → r.start ≡ n) → InOrder rs → InOrder (map (clip n) rs ▹ when b (λ qs. r ∷ qs))
unfolding when InOrder
order-after true n r rs e o = rw (e refl) (clipped-under n rs o)
order-after false n r rs e o = under-order n (map (clip n) rs) (clipped-under n rs o)

-- one row or the other, where they are one
same_rows : (g : Bool) (a c : Row) (rs : List Row) → (g ≡ true → a ≡ c) → rs ▹ when g (λ qs. a ∷ qs) ≡ rs ▹ when g (λ qs. c ∷ qs)
unfolding when
same_rows true a c rs h = rw (h refl)
same_rows false a c rs h = refl

one_more : (g : Bool) (count : ℕ) → (if g then count + 1 else count) ≡ when g suc count
unfolding when
one_more true count = omega arith
one_more false count = refl

-- f: rows are kept; g: this token has one; of c the first `count` are there
room_for : (f g : Bool) (k c count rest : ℕ) → (f ≡ true → 5 * c ≤ k) → (f && g) ≡ true → c ≡ when g suc count + rest → 5 * count + 5 ≤ k
unfolding when
room_for false g k c count rest h z p = false_true z
room_for true false k c count rest h z p = false_true z
room_for true true k c count rest h z p = let a = h refl in omega arith

module _ (s : List ℕ) (x : Context) (cap : ℕ) (b : Bool) (i : ℕ) (st : Code) (w : CodeSwitch) (d : List ℕ) (r : Code) (u : CodeSwitch) (q : List ℕ) (k : ℕ) (l : List ℕ) (count : ℕ)
    (run : Running s x cap i st w d) (here : i < x.counts.tokens) (turn : Stepped s x i st w d r u q) (keep : Keeping s x cap b i st w d k l count) where
  abbrev e : Env
  e = env_in s x cap

  abbrev before : State
  before = state_of s x.base st d

  abbrev lays : Bool
  lays = lays_out (turn_at s x.base i (switch_of w)) (kind_in s x i)

  -- there is room for the row
  pub keep-room : (c : Bool) → c ≡ (b && lays) → c ≡ true → 5 * count + 5 ≤ length l
  keep-room c ec t = rw keep.long (room_for b lays k _ count _ keep.room (sym ec ∙ t) (count_turn s x.base x.counts.tokens count i (switch_of w) here))

  module _ (fine : r.text.fault ≡ 0) where
    low-is : low_of (step_at e s x.base x.counts.tokens i (switch_of w) before).text ≡ r.text.low
    unfolding state_of
    low-is = ap (λ (z : State). low_of z.text) (sym (stepped-is s x i st w d r u q cap run.room run.steady.held turn)) ∙ rw (text-fits r.text q fine)

    module _ (entry len : ℕ) (row : lays ≡ true → RowIn s x i (with_text st (marked st.text)) d entry len) where
      start_is : lays ≡ true → r.text.low ≡ length (bytes_in (text_of st.text d))
      unfolding state_of
      start_is t =
          let v : Level (mark before.text) (step_at e s x.base x.counts.tokens i (switch_of w) before).text = step-level (turn_at s x.base i (switch_of w)) e (here_in s x i) before t in
          let f : (step_at e s x.base x.counts.tokens i (switch_of w) before).text ≡ fits r.text.floor r.text.low (take r.text.len q) =
          ap (λ (z : State). z.text) (sym (stepped-is s x i st w d r u q cap run.room run.steady.held turn)) ∙ text-fits r.text q fine in
          level-low (mark before.text) _ _ _ (rw f at v) ∙ low-marked before.text

      given-row : row_at s x i (with_text st (marked st.text)) d ≡ rules_row e i (token_of s x.base i) before
      given-row =
          ap (λ (n : ℕ). rules_row (env_in s x n) i (token_of s x.base i) (state_of s x.base (with_text st (marked st.text)) d)) run.room
          ∙ ap (rules_row e i (token_of s x.base i)) (state-marked s x st d run.steady.held) ∙ marked_row e i (token_of s x.base i) before

      row_is : lays ≡ true → row_of i entry r.text.low len ≡ rules_row e i (token_of s x.base i) before
      unfolding rules_row state_of
      row_is t =
          let p = row t in
          by-fields i entry r.text.low len (rules_row e i (token_of s x.base i) before) refl (p.entry ∙ ap (λ (q : Row). entry_word q.entry) given-row)
          (λ n h. p.few n (ap (λ (q : Row). q.entry) given-row ∙ h)) (start_is t) (p.len ∙ ap (λ (q : Row). q.len) given-row)

      module _ (c : Bool) (ec : c ≡ (b && lays)) (l' : List ℕ) (m : ℕ) (em : m ≡ count_after c count)
          (el : l' ≡ listing (length l) (map (clip r.text.low) (rows_in count l) ▹ when c (λ qs. row_of i entry r.text.low len ∷ qs))) (same : length l' ≡ length l) where
        taken-rows : rows_in m l' ≡ map (clip r.text.low) (rows_in count l) ▹ when c (λ qs. row_of i entry r.text.low len ∷ qs)
        taken-rows = rw em (rows-after l l' count r.text.low c i entry r.text.low len same el)

        -- they are the rules'
        rules-rows : b ≡ true → rows_in m l' ≡ rows_after e i (token_of s x.base i) (turn_at s x.base i (switch_of w)) before (step_at e s x.base x.counts.tokens i (switch_of w) before) (rows_in count l)
        unfolding rows_after
        rules-rows t = taken-rows ∙ rw (ec, t, low-is) (same_rows lays _ _ (map (clip r.text.low) (rows_in count l)) row_is)

        counts : b ≡ true → when lays suc count ≡ m
        unfolding count_after
        counts t = sym (em ∙ rw (ec, t) (one_more lays count))

        pub keep-goes : Keeping s x cap b (i + 1) r u q k l' m
        unfolding count_after row_of
        keep-goes =
            record {
              long = same ∙ keep.long;
              listed = record {
                listed = rw em (words-after l l' count r.text.low c i entry r.text.low len same el);
                order = rw taken-rows (order-after c r.text.low (row_of i entry r.text.low len) (rows_in count l) (λ t. refl) keep.listed.order);
              };
              none = λ f. em ∙ rw (ec, f) (keep.none f);
              room = λ t. rw turn.switch (rw (count_turn s x.base x.counts.tokens count i (switch_of w) here, counts t) at (keep.room t));
              left = λ t.
                  rw (turn.switch, stepped-is s x i st w d r u q cap run.room run.steady.held turn, rules-rows t)
                  (sym (rows-turn e s x.base x.counts.tokens i (switch_of w) before (rows_in count l) here) ∙ keep.left t);
            }

-- ---- the end

module _ (s : List ℕ) (x : Context) (cap : ℕ) (b : Bool) (i : ℕ) (st : Code) (w : CodeSwitch) (q : List ℕ) (k : ℕ) (l : List ℕ) (count : ℕ)
    (run : Running s x cap i st w q) (over : x.counts.tokens ≤ i) (keep : Keeping s x cap b i st w q k l count) where
  answered : answer_in s x cap ≡ report (trimmed (take st.text.len q))
  unfolding finish unless_refused
  answered = sym (by_end s x cap i st w q (answer_in s x cap) over run.left) ∙ rw (text-fits st.text q run.fine)

  abbrev ended : List ℕ
  ended = listing (length l) (map (trim_row (bytes_in (text_of st.text q))) (rows_in count l))

  ends_with : b ≡ true → ended ≡ list_in s x cap true k
  unfolding listing list_for report state_of
  ends_with t = rw (keep.long, answered, ← keep.left t, rows_end (env_in s x cap) s x.base x.counts.tokens i (switch_of w) (state_of s x.base st q) (rows_in count l) over)

  ends-without : b ≡ false → ended ≡ list_in s x cap false k
  unfolding listing rows_in rows_words
  ends-without f = rw (keep.none f, keep.long, sub-zero)

  pub keep-ends : (l' : List ℕ) → l' ≡ ended → l' ≡ list_in s x cap b k
  keep-ends l' el = el ∙ go b ends_with ends-without
    where
      go : (f : Bool) → (f ≡ true → ended ≡ list_in s x cap true k) → (f ≡ false → ended ≡ list_in s x cap false k) → ended ≡ list_in s x cap f k
      go true h n = h refl
      go false h n = n refl

-- ---- a refusal clears the list

cleared : (s : List ℕ) (x : Context) (cap : ℕ) (b : Bool) (k n p : ℕ) (l : List ℕ) → answer_in s x cap ≡ refusal n p → l ≡ replicate k 0 → l ≡ list_in s x cap b k
unfolding list_for
cleared s x cap true k n p l a e = rw a e
cleared s x cap false k n p l a e = e

pub keep-clears : (s : List ℕ) (x : Context) (cap : ℕ) (b : Bool) (i : ℕ) (st : Code) (w : CodeSwitch) (d : List ℕ) (r : Code) (u : CodeSwitch) (q : List ℕ) (k : ℕ) (l l' : List ℕ) (count : ℕ)
    → Running s x cap i st w d → i < x.counts.tokens → Stepped s x i st w d r u q → Keeping s x cap b i st w d k l count → (r.text.fault ≡ 0 → ⊥) → l' ≡ replicate (length l) 0 → l' ≡ list_in s x cap b k
keep-clears s x cap b i st w d r u q k l l' count run here turn keep z e =
    cleared s x cap b k r.text.fault i l' (refused-at s x i st w d r u q (answer_in s x cap) cap run.room run.steady.held here turn run.left z) (e ∙ rw keep.long)
