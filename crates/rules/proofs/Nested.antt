-- Wish 11: every token keeps the invariant, so no inline block begins where 128 are open, and refusal 7 is never met. Assumes nothing.
use mathlib.Core.Path.{◌≡◌, refl, sym, ap, ◌∙◌}
use mathlib.Core.Bool.{Bool, true, false, not, ◌&&◌, ◌||◌}
use Rattle.std.specs.Prelude.{Option, None, Some, if◌then◌else◌}
use mathlib.Core.List.{List, [], ◌∷◌}
use Prim.Native.Nat.{ℕ, suc, ◌+◌, ◌-◌, ◌≤◌}
use native.Mathlib.Omega.{arith}
use lib.Dec.{eqb, eqb-suc-zero}
use lib.ListN.{length}
use borrow.Author.Tests.{eqb-true, leb-false, not-true, lt-ltb, lt-leb}
use Rattle.rules.specs.declared.TokenKind.{TokenKind}
use Rattle.rules.specs.declared.TokenKind.TheVariants as kind
use Rattle.rules.specs.declared.Part.{Part}
use Rattle.rules.specs.declared.Part.TheVariants as part
use Rattle.rules.specs.declared.Turn.{Turn}
use Rattle.rules.specs.declared.Turn.TheVariants as turn
use Rattle.rules.specs.declared.BlockInfo.{BlockInfo}
use Rattle.rules.specs.declared.FormatOptions.{FormatOptions}
use Rattle.rules.specs.Bytes.{bytes}
use Rattle.rules.specs.Base.{same, full}
use Rattle.rules.specs.Tokens.{Token, Here, is}
use Rattle.rules.specs.Sheet.{Env}
use Rattle.rules.specs.Text.{Text, fits, refused, mark}
use Rattle.rules.specs.InlineBlock.{part_of, is_comment, level_after, closes_at, is_forbidden_token, measured, forbid, unbuilt, build_from, build_info, is_inline_block, is_active, begins_inline, begin_if_possible}
use Rattle.rules.specs.State.{State, start, on_text}
use Rattle.rules.specs.Formatter.{format_no_change, format_opening_parentheses, format_closing_parentheses, format_token}
use Rattle.rules.specs.Switch.{Switch, switch_in, turn_by, turn_of, switch_after, switched_on}
use Rattle.rules.specs.Answer.{Answer, taken_as, taken, unless_refused, format, format_from}
use Rattle.rules.proofs.Inner.{never, inlined, pushes, blocks-few, Plain, plain-level, plain-same, plain-inline, begins, opening-inline, opening-blocks, opening-six, closing-blocks, closing-inline}
use Rattle.rules.specs.Nested.{blocks_in, quiet, Nested, meets_seven, seven_from, with_seven}

-- ---- what is read ahead of an inline block is quiet

or-false : (a b : Bool) → (a || b) ≡ false → (a ≡ false) × (b ≡ false)
or-false true b h = never h
or-false false b h = (refl, h)

and-true : (a b : Bool) → (a && b) ≡ true → (a ≡ true) × (b ≡ true)
and-true true b h = (refl, h)
and-true false b h = never (sym h)

quiet_none : (ts : List Token) → quiet 0 ts ≡ true
unfolding quiet
quiet_none [] = refl
quiet_none (t ∷ ts) = refl

quiet-closed : (p : Part) (d : ℕ) (ts : List Token) → closes_at p (level_after p d) ≡ true → quiet (level_after p d) ts ≡ true
quiet-closed part.Top d ts h = never (sym h)
quiet-closed part.Newline d ts h = never (sym h)
quiet-closed part.Open d ts h = never (sym h)
quiet-closed part.Close d ts h = rw (eqb-true (d - 1) 0 h) (quiet_none ts)
quiet-closed part.Comment d ts h = never (sym h)
quiet-closed part.Rest d ts h = never (sym h)

-- what was forbidden stays so
was_free : (ts : List Token) (b : BlockInfo) → (build_from ts b).has_forbidden_tokens ≡ false → b.has_forbidden_tokens ≡ false
unfolding build_from
was_free [] b h = h
was_free (t ∷ ts) b h = go (closes_at (part_of t.kind) (measured t b).level) h (was_free ts _)
  where
    go : (f : Bool) → (if f then measured t b else build_from ts (forbid (is_forbidden_token t) (measured t b))).has_forbidden_tokens ≡ false
        → ((build_from ts (forbid (is_forbidden_token t) (measured t b))).has_forbidden_tokens ≡ false → (b.has_forbidden_tokens || is_forbidden_token t) ≡ false) → b.has_forbidden_tokens ≡ false
    go true k ih = k
    go false k ih = (or-false _ _ (ih k)).0

free-quiet : (ts : List Token) (b : BlockInfo) → (build_from ts b).has_forbidden_tokens ≡ false → quiet b.level ts ≡ true
unfolding build_from quiet
free-quiet [] b h = refl
free-quiet (t ∷ ts) b h = go (eqb b.level 0) (closes_at (part_of t.kind) (measured t b).level) refl h (free-quiet ts _)
  where
    next : BlockInfo
    next = forbid (is_forbidden_token t) (measured t b)

    go : (z c : Bool) → closes_at (part_of t.kind) (measured t b).level ≡ c → (if c then measured t b else build_from ts next).has_forbidden_tokens ≡ false
        → ((build_from ts next).has_forbidden_tokens ≡ false → quiet (level_after (part_of t.kind) b.level) ts ≡ true)
        → (z || (c || not (is_forbidden_token t)) && quiet (level_after (part_of t.kind) b.level) ts) ≡ true
    go true c e k ih = refl
    go false true e k ih = quiet-closed (part_of t.kind) b.level ts e
    go false false e k ih =
        let m : is_forbidden_token t ≡ false = (or-false b.has_forbidden_tokens (is_forbidden_token t) (was_free ts next k)).1 in
        rw m (ih k)

-- ---- one token, as it is taken

pub nested-start : (ts : List Token) → Nested switched_on ts start
unfolding start is_active
nested-start ts = record { under = omega arith; on = λ a. refl; calm = quiet_none ts }

-- where no inline block is open nothing is asked
idle : (w : Switch) (after : List Token) (u : State) → u.inline_block ≡ [] → Nested w after u
unfolding is_active
idle w after u h = record { under = rw h (omega arith); on = λ a. never (sym (rw h at a)); calm = rw h (quiet_none after) }

data Sorted (k : TokenKind) : Type 0 where
  plain : Plain k → Sorted k
  opens_one : k ≡ kind.OpenParen → Sorted k
  closes-one : k ≡ kind.CloseParen → Sorted k

sorted : (k : TokenKind) → Sorted k
sorted kind.TypeSpecifier = plain refl
sorted kind.Whitespace = plain refl
sorted kind.String = plain refl
sorted kind.Reserved = plain refl
sorted kind.ReservedTopLevel = plain refl
sorted kind.ReservedTopLevelNoIndent = plain refl
sorted kind.ReservedNewline = plain refl
sorted kind.ReservedNewlineAfter = plain refl
sorted kind.Operator = plain refl
sorted kind.OpenParen = opens_one refl
sorted kind.CloseParen = closes-one refl
sorted kind.LineComment = plain refl
sorted kind.BlockComment = plain refl
sorted kind.Number = plain refl
sorted kind.Placeholder = plain refl
sorted kind.Word = plain refl
sorted kind.Join = plain refl

-- only a comment switches
no_switch : (k : TokenKind) (v : List ℕ) → is_comment (part_of k) ≡ false → turn_of switched_on k v ≡ turn.LaidOut
unfolding turn_of switched_on turn_by switch_in
no_switch kind.TypeSpecifier v c = refl
no_switch kind.Whitespace v c = refl
no_switch kind.String v c = refl
no_switch kind.Reserved v c = refl
no_switch kind.ReservedTopLevel v c = refl
no_switch kind.ReservedTopLevelNoIndent v c = refl
no_switch kind.ReservedNewline v c = refl
no_switch kind.ReservedNewlineAfter v c = refl
no_switch kind.Operator v c = refl
no_switch kind.OpenParen v c = refl
no_switch kind.CloseParen v c = refl
no_switch kind.LineComment v c = never c
no_switch kind.BlockComment v c = never c
no_switch kind.Number v c = refl
no_switch kind.Placeholder v c = refl
no_switch kind.Word v c = refl
no_switch kind.Join v c = refl

-- a token is laid out only while the switch is on
abbrev unlaid : Turn → Bool
unlaid turn.Dropped = true
unlaid (turn.Switches off) = true
unlaid turn.LaidOut = false
unlaid turn.Copied = true

laid_on : (w : Switch) (k : TokenKind) (v : List ℕ) → turn_of w k v ≡ turn.LaidOut → w ≡ switched_on
unfolding turn_of turn_by switched_on
laid_on w k v h = go w.enabled w.drop_next (switch_in k v) h
  where
    go : (on drop : Bool) (o : Option Bool) → (if drop then turn.Dropped else turn_by on o) ≡ turn.LaidOut → record { enabled = on; drop_next = drop } ≡ switched_on
    go on true o h = never (ap unlaid h)
    go on false (Some off) h = never (ap unlaid h)
    go true false None h = refl
    go false false None h = never (ap unlaid h)

-- one less, one more
less_one : (n : ℕ) → suc n - 1 ≡ n
less_one n = omega arith

more-one : (n : ℕ) → n + 1 ≡ suc n
more-one n = omega arith

-- a block that begins inline on its own holds nothing that is forbidden
inline-quiet : (op : FormatOptions) (t : Token) (after : List Token) → t.kind ≡ kind.OpenParen → is_inline_block op (build_info (t ∷ after)) ≡ true → quiet 1 after ≡ true
unfolding is_inline_block build_info build_from
inline-quiet op t after o h =
    let k : (build_from (t ∷ after) unbuilt).has_forbidden_tokens ≡ false = not-true _ (and-true _ _ h).0 in
    let c : closes_at (part_of t.kind) (measured t unbuilt).level ≡ false = rw o in
    let q : quiet (level_after (part_of t.kind) 0) after ≡ true = free-quiet after (forbid (is_forbidden_token t) (measured t unbuilt)) (rw c at k) in
    rw o at q

module _ (e : Env) (before : List Token) (t : Token) (after : List Token) (w : Switch) (s : State) where
  abbrev here : Here
  here = record { before = before; token = t; after = after }

  by_kind : (k : TokenKind) → t.kind ≡ k → format_token e here t.kind (on_text mark s) ≡ format_token e here k (on_text mark s)
  by_kind k o = ap (λ (y : TokenKind). format_token e here y (on_text mark s)) o

  -- ---- while an inline block is open

  module _ (x : ℕ) (l : List ℕ) (active : s.inline_block ≡ x ∷ l) (n : Nested w (t ∷ after) s) where
    is-on : w ≡ switched_on
    unfolding is_active
    is-on = n.on (rw active (lt-ltb 0 (suc (length l)) (omega arith)))

    -- the level after it
    abbrev level : ℕ
    level = level_after (part_of t.kind) (suc (length l))

    calm-here : ((closes_at (part_of t.kind) level || not (is_forbidden_token t)) ≡ true) × (quiet level after ≡ true)
    unfolding quiet
    calm-here = and-true _ _ (rw (active, eqb-suc-zero (length l)) at n.calm)

    -- a token that is not the last close is free
    free : closes_at (part_of t.kind) level ≡ false → (is_comment (part_of t.kind) ≡ false) × (same t.value (bytes ";") ≡ false)
    free c = or-false _ _ (not-true (is_forbidden_token t) (rw c at calm-here.0))

    -- it is laid out, and the switch stays on
    abbrev LaidOn : Type 0
    LaidOn = (turn_of w t.kind t.value ≡ turn.LaidOut) × (switch_after (turn_of w t.kind t.value) w ≡ switched_on)

    laid-still : is_comment (part_of t.kind) ≡ false → LaidOn
    unfolding switch_after
    laid-still c = let k = no_switch t.kind t.value c in (rw is-on k, rw (is-on, k))

    -- the invariant after it, where the token is laid out
    abbrev After : Type 0
    After = Nested (switch_after (turn_of w t.kind t.value) w) after (taken (turn_of w t.kind t.value) e here s)

    still : (u : State) → is_comment (part_of t.kind) ≡ false → taken_as turn.LaidOut e here (on_text mark s) ≡ u
        → length u.inline_block ≤ blocks_in u.indentation.indent_types → quiet (length u.inline_block) after ≡ true → After
    unfolding taken
    still u c is under calm =
        let k = laid-still c in
        rw (k.0, is) (record { under = under; on = λ a. rw k.0 at k.1; calm = calm })

    active_plain : Plain t.kind → After
    unfolding taken_as on_text
    active_plain p =
        let c = (plain-level (part_of t.kind) p level).1 in
        let k = plain-same e here (on_text mark s) t.kind p (free c).1 in
        let q : quiet (suc (length l)) after ≡ true = rw (plain-level (part_of t.kind) p (suc (length l))).0 at calm-here.1 in
        let i : (format_token e here t.kind (on_text mark s)).inline_block ≡ s.inline_block = k.inline in
        still _ (free c).0 refl (rw (i, k.stacks) n.under) (rw (i, active) q)

    active_close : t.kind ≡ kind.CloseParen → After
    unfolding taken_as format_token on_text is_active
    active_close o =
        let m = on_text mark s in
        let i : (format_closing_parentheses e here m).inline_block ≡ l = closing-inline e here m ∙ rw (active, lt-ltb 0 (suc (length l)) (omega arith)) in
        let b : blocks_in (format_closing_parentheses e here m).indentation.indent_types ≡ blocks_in s.indentation.indent_types - 1 = closing-blocks e here m in
        let u : suc (length l) ≤ blocks_in s.indentation.indent_types = rw active at n.under in
        let q : quiet (suc (length l) - 1) after ≡ true = rw o at calm-here.1 in
        still (format_closing_parentheses e here m) (rw o) (by_kind kind.CloseParen o) (rw (i, b) (omega arith)) (rw i (rw (less_one (length l)) at q))

    active_open : t.kind ≡ kind.OpenParen → full s.indentation.indent_types ≡ false → After
    unfolding taken_as format_token on_text is_active begins_inline begin_if_possible
    active_open o f =
        let m = on_text mark s in
        let info = build_info (t ∷ after) in
        let i : (format_opening_parentheses e here info m).inline_block ≡ info.length ∷ x ∷ l = opening-inline e here info m ∙ rw (active, lt-ltb 0 (suc (length l)) (omega arith), f) in
        let b : blocks_in (format_opening_parentheses e here info m).indentation.indent_types ≡ suc (blocks_in s.indentation.indent_types) = (opening-blocks e here info m).more f in
        let u : suc (length l) ≤ blocks_in s.indentation.indent_types = rw active at n.under in
        let q : quiet (suc (length l) + 1) after ≡ true = rw o at calm-here.1 in
        still (format_opening_parentheses e here info m) (rw o) (by_kind kind.OpenParen o) (rw (i, b) (omega arith)) (rw i (rw (more-one (suc (length l))) at q))

    -- 6 was not given
    not-six : t.kind ≡ kind.OpenParen → (k m : ℕ) (b : List ℕ) → (taken (turn_of w t.kind t.value) e here s).text ≡ fits k m b → full s.indentation.indent_types ≡ false
    unfolding taken taken_as format_token on_text
    not-six o k m b g = opening-six e here (build_info (t ∷ after)) (on_text mark s) k m b (ap (λ (u : State). u.text) (sym (by_kind kind.OpenParen o)) ∙ (rw (laid-still (rw o)).0 at g))

  -- ---- while none is open

  module _ (none_open : s.inline_block ≡ []) where
    -- a block begins
    begun-quiet : (turned : turn_of w t.kind t.value ≡ turn.LaidOut) → t.kind ≡ kind.OpenParen → (b : Bool) → begins e (build_info (t ∷ after)) (on_text mark s) ≡ b
        → Nested w after (format_opening_parentheses e here (build_info (t ∷ after)) (on_text mark s))
    unfolding on_text begin_if_possible is_active begins_inline
    begun-quiet turned o false h = idle w after _ (opening-inline e here (build_info (t ∷ after)) (on_text mark s) ∙ rw (h, none_open))
    begun-quiet turned o true h =
        let m = on_text mark s in
        let info = build_info (t ∷ after) in
        let both = and-true (begins_inline e.options info s.inline_block) (not (full s.indentation.indent_types)) h in
        let f : full s.indentation.indent_types ≡ false = not-true _ both.1 in
        let i : (format_opening_parentheses e here info m).inline_block ≡ info.length ∷ [] = opening-inline e here info m ∙ rw (h, none_open) in
        let b : blocks_in (format_opening_parentheses e here info m).indentation.indent_types ≡ suc (blocks_in s.indentation.indent_types) = (opening-blocks e here info m).more f in
        let a : is_inline_block e.options info ≡ true = rw none_open at both.0 in
        record { under = rw (i, b) (omega arith); on = λ z. laid_on w t.kind t.value turned; calm = rw i (inline-quiet e.options t after o a) }

    idle-laid : turn_of w t.kind t.value ≡ turn.LaidOut → Sorted t.kind → Nested w after (format_token e here t.kind (on_text mark s))
    unfolding on_text is_active format_token
    idle-laid turned (plain p) = idle w after _ (plain-inline e here (on_text mark s) t.kind p ∙ none_open)
    idle-laid turned (opens_one o) = rw (by_kind kind.OpenParen o) (begun-quiet turned o _ refl)
    idle-laid turned (closes-one o) = rw (by_kind kind.CloseParen o) (idle w after _ (closing-inline e here (on_text mark s) ∙ rw none_open))

    idle-next : (T : Turn) → turn_of w t.kind t.value ≡ T → Nested (switch_after T w) after (taken T e here s)
    unfolding taken taken_as on_text switch_after format_no_change
    idle-next turn.Dropped k = idle _ after _ none_open
    idle-next (turn.Switches off) k = idle _ after _ none_open
    idle-next turn.LaidOut k = idle-laid k (sorted t.kind)
    idle-next turn.Copied k = idle _ after _ ((pushes {f = inlined} e t.value).inline ∙ none_open)

  -- ---- every token keeps the invariant, if it leaves a text

  pub nested-next : Nested w (t ∷ after) s → (k m : ℕ) (b : List ℕ) → (taken (turn_of w t.kind t.value) e here s).text ≡ fits k m b
      → Nested (switch_after (turn_of w t.kind t.value) w) after (taken (turn_of w t.kind t.value) e here s)
  nested-next n k m b g = go s.inline_block refl (sorted t.kind)
    where
      go : (l : List ℕ) → s.inline_block ≡ l → Sorted t.kind → Nested (switch_after (turn_of w t.kind t.value) w) after (taken (turn_of w t.kind t.value) e here s)
      go [] h k = idle-next h _ refl
      go (x ∷ l) h (plain p) = active_plain x l h n p
      go (x ∷ l) h (opens_one o) = active_open x l h n o (not-six x l h n o k m b g)
      go (x ∷ l) h (closes-one o) = active_close x l h n o

-- ---- so refusal 7 is never met

-- where 6 is not given there is room for one inline block more
pub nested-room : (w : Switch) (ts : List Token) (s : State) → Nested w ts s → full s.indentation.indent_types ≡ false → full s.inline_block ≡ false
unfolding full
nested-room w ts s n f =
    let h = leb-false 128 (length s.indentation.indent_types) f in
    let k = blocks-few s.indentation.indent_types in
    let u = n.under in
    lt-leb 128 (length s.inline_block) (omega arith)

no_seven : (T : Turn) (e : Env) (h : Here) (w : Switch) (ts : List Token) (s : State) → Nested w ts s → meets_seven T e h s ≡ false
unfolding meets_seven
no_seven turn.Dropped e h w ts s n = refl
no_seven (turn.Switches off) e h w ts s n = refl
no_seven turn.LaidOut e h w ts s n = go (full s.indentation.indent_types) refl (is h.token.kind kind.OpenParen) (begins_inline e.options (build_info (h.token ∷ h.after)) s.inline_block)
  where
    go : (f : Bool) → full s.indentation.indent_types ≡ f → (o b : Bool) → (o && (not f && (b && full s.inline_block))) ≡ false
    go f q false b = refl
    go true q true b = refl
    go false q true false = refl
    go false q true true = nested-room w ts s n q
no_seven turn.Copied e h w ts s n = refl

later : (t : Text) (place : ℕ) (a b : Answer) → ((k m : ℕ) (c : List ℕ) → t ≡ fits k m c → a ≡ b) → unless_refused t place a ≡ unless_refused t place b
unfolding unless_refused
later (fits k m c) place a b h = h k m c refl
later (refused n) place a b h = refl

seven-from : (e : Env) (before ts : List Token) (w : Switch) (s : State) → Nested w ts s → seven_from e before ts w s ≡ format_from e before ts w s
unfolding seven_from format_from
seven-from e before [] w s n = refl
seven-from e before (t ∷ ts) w s n =
    rw (no_seven (turn_of w t.kind t.value) e (record { before = before; token = t; after = ts }) w (t ∷ ts) s n)
    (later _ (length before) _ _ (λ k m c g. seven-from e (t ∷ before) ts _ _ (nested-next e before t ts w s n k m c g)))

-- the theorem: with 7 or without, every run over every tokens has the same answer, whatever the options and the buffer
pub never-seven : (e : Env) (ts : List Token) → with_seven e ts ≡ format e ts
unfolding with_seven format
never-seven e ts = seven-from e [] ts switched_on start (nested-start ts)
