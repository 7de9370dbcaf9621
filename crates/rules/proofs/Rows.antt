-- Wish 2: the rows of a run point at what is shown, and there is one for each placeholder laid out. Assumes nothing.
use mathlib.Core.Path.{◌≡◌, refl, sym, ap, subst, ◌∙◌}
use mathlib.Core.Bool.{Bool, true, false, ◌&&◌}
use mathlib.Core.List.{List, [], ◌∷◌, ◌++◌, map, map-map, append_assoc, append-nil}
use Prim.Native.Nat.{ℕ, suc, ◌+◌, ◌-◌, ◌≤◌, min}
use native.Mathlib.Nat.{zero-add, add-zero}
use native.Mathlib.Omega.{arith}
use lib.Dec.{leb}
use lib.ListN.{length, take, length-append, length-map}
use lib.Seq.{take-append_seam, drop-append_seam}
use Rattle.rules.specs.declared.TokenKind.{TokenKind}
use Rattle.rules.specs.declared.TokenKind.TheVariants as kind
use Rattle.rules.specs.declared.Turn.{Turn}
use Rattle.rules.specs.declared.Turn.TheVariants as turn
use Rattle.rules.specs.Base.{when}
use Rattle.std.specs.Prelude.{if◌then◌else◌}
use Rattle.rules.specs.Tokens.{Token, Here, is}
use Rattle.rules.specs.Sheet.{Env, QueryParams}
use Rattle.rules.specs.Text.{Text, fits, refused, mark, low_of, bytes_in, is_white, trim_end, trim_start, trimmed, append, refuse}
use Rattle.rules.specs.Params.{get, advances, offends}
use Rattle.rules.specs.Params as Params
use Rattle.rules.specs.Switch.{Switch, turn_of, switch_after, switched_on}
use Rattle.rules.specs.State.{State, start, on_text, on_index, push_str, push, refuse_if}
use Rattle.rules.specs.Formatter.{span_info, format_placeholder, format_token, format_no_change}
use Rattle.rules.specs.InlineBlock.{build_info}
use Rattle.rules.specs.Answer.{Answer, laid, refusal, taken_as, taken, report, unless_refused, finish, format_from, format}
use Rattle.rules.specs.Rows.{Row, between, clip, shift, lays_out, row_of, rows_after, trim_row, rows_from, rows, placeholders_from, placeholders}
use Rattle.rules.specs.Due.{white, strip, Piece, kept_tokens, due_from, due}
use Rattle.rules.specs.Shown.{Shown, showing, shown_from, shown, stretch, Survives, Placed}
use Rattle.rules.proofs.Strip.{white-true}
use Rattle.rules.proofs.Kept.{trim_end-front, Under, Kept, kept_append, under-end}
use Rattle.rules.proofs.Stretch.{survives_all, survives_then, clip-survives, clip-front, shift-survives, shift-front}
use Rattle.rules.proofs.Adds
use Rattle.rules.proofs.Keeps.{counter, onto, due_by, due-append, LaysOut, kept_here, next_switch, kept_after, kept_step, lays_step, counter-none}

-- ---- rows over one text, then over another

placed-within : (to : ℕ → List ℕ) (b : List ℕ) (t u : ℕ) (xs : List Shown) (rs : List Row) → t ≤ u → Placed to b t xs rs → Placed to b u xs rs
placed-within to b t u [] [] h p = tt
placed-within to b t u [] (r ∷ rs) h p = absurd p
placed-within to b t u (x ∷ xs) [] h p = absurd p
placed-within to b t u (x ∷ xs) (r ∷ rs) h p =
    let q = p.0.ends in
    (record { token = p.0.token; entry = p.0.entry; ends = omega arith; before = p.0.before; bytes = p.0.bytes }, p.1)

-- g: where a byte of b stands in c
module _ (to : ℕ → List ℕ) (b c : List ℕ) (g : ℕ → ℕ) (up : (i j : ℕ) → i ≤ j → g i ≤ g j) (front : (i : ℕ) → strip (take (g i) c) ≡ strip (take i b))
    (left : (r : Row) → r.start + r.len ≤ length b → Survives (stretch c (between (g r.start) (g (r.start + r.len)) r)) (stretch b r)) where
  placed-over : (top : ℕ) (xs : List Shown) (rs : List Row) → top ≤ length b → Placed to b top xs rs → Placed to c (g top) xs (map (λ r. between (g r.start) (g (r.start + r.len)) r) rs)
  unfolding between
  placed-over top [] [] h p = tt
  placed-over top [] (r ∷ rs) h p = absurd p
  placed-over top (x ∷ xs) [] h p = absurd p
  placed-over top (x ∷ xs) (r ∷ rs) h p =
      let ends : r.start + r.len ≤ top = p.0.ends in
      let in_b : r.start + r.len ≤ length b = omega arith in
      let low : g r.start ≤ g (r.start + r.len) = up r.start (r.start + r.len) (omega arith) in
      let high : g (r.start + r.len) ≤ g top = up (r.start + r.len) top ends in
      let there : Survives (stretch c (between (g r.start) (g (r.start + r.len)) r)) x.value = survives_then _ (stretch b r) x.value p.0.bytes (left r in_b) in
      (record { token = p.0.token; entry = p.0.entry; ends = omega arith; before = front r.start ∙ p.0.before; bytes = there }, placed-over r.start xs rs (omega arith) p.1)

placed-cut : (to : ℕ → List ℕ) (b c : List ℕ) (n : ℕ) (xs : List Shown) (rs : List Row) → Under (length b) b n c → Placed to b (length b) xs rs → Placed to c n xs (map (clip n) rs)
unfolding clip
placed-cut to b c n xs rs u p =
    let low = u.lower in
    let m : min n (length b) ≡ n = omega arith in
    subst (λ (t : ℕ). Placed to c t xs (map (clip n) rs)) m (placed-over to b c (min n) (λ i j h. omega arith) (clip-front n b c u) (clip-survives n b c u) (length b) xs rs (omega arith) p)

-- ---- the trim at both ends

-- l is white bytes, then what the trim leaves
record Back (l d : List ℕ) : Type 0 where
  pub lead : List ℕ
  pub whole : lead ++ d ≡ l
  pub blank : strip lead ≡ []

trim_start-back : (p : ℕ → Bool) → ((x : ℕ) → p x ≡ true → white x ≡ true) → (l : List ℕ) → Back l (trim_start p l)
trim_start-back p w [] = record { lead = []; whole = refl; blank = refl }
trim_start-back p w (x ∷ xs) = go (p x) refl (trim_start-back p w xs)
  where
    go : (b : Bool) → p x ≡ b → Back xs (trim_start p xs) → Back (x ∷ xs) (if b then trim_start p xs else x ∷ xs)
    go true e f = record { lead = x ∷ f.lead; whole = ap (λ (l : List ℕ). x ∷ l) f.whole; blank = rw (w x e) f.blank }
    go false e f = record { lead = []; whole = refl; blank = refl }

placed-shift : (to : ℕ → List ℕ) (p d : List ℕ) (xs : List Shown) (rs : List Row) → strip p ≡ [] → Placed to (p ++ d) (length (p ++ d)) xs rs → Placed to d (length d) xs (map (shift (length p)) rs)
unfolding shift
placed-shift to p d xs rs w h =
    let m : length (p ++ d) - length p ≡ length d = simp length-append (omega arith) in
    subst (λ (t : ℕ). Placed to d t xs (map (shift (length p)) rs)) m
    (placed-over to (p ++ d) d (λ n. n - length p) (λ i j k. omega arith) (shift-front p d w) (λ r k. shift-survives p d w r) (length (p ++ d)) xs rs (omega arith) h)

placed-trimmed : (to : ℕ → List ℕ) (b : List ℕ) (xs : List Shown) (rs : List Row) → Placed to b (length b) xs rs → Placed to (trimmed b) (length (trimmed b)) xs (map (trim_row b) rs)
unfolding trimmed trim_row
placed-trimmed to b xs rs p =
    let c : List ℕ = trim_end is_white b in
    let d : List ℕ = trim_start is_white c in
    let k : Back c d = trim_start-back is_white white-true c in
    let qs : List Row = map (clip (length c)) rs in
    let cut : Placed to c (length c) xs qs = placed-cut to b c (length c) xs rs (under-end b c (trim_end-front is_white white-true b)) p in
    let moved = placed-shift to k.lead d xs qs k.blank (subst (λ (l : List ℕ). Placed to l (length l) xs qs) (sym k.whole) cut) in
    let n = simp length-append at (ap length k.whole) in
    let m : length k.lead ≡ length c - length d = omega arith in
    subst (λ (qs : List Row). Placed to d (length d) xs qs) (map-map (shift (length c - length d)) (clip (length c)) rs) (rw m at moved)

-- ---- a token is a placeholder that is laid out, or it takes a step that keeps the counter

record Quiet (s u : State) : Type 0 where
  pub kept : Kept s.text u.text
  pub counted : u.index ≡ s.index

quiet : {s u : State} {v : List ℕ} → Adds.Adds s u v → Quiet s u
quiet p = record { kept = p.goes.kept; counted = p.counted }

module _ (e : Env) (h : Here) (s : State) (P : Bool → State → Type 0) (other : (u : State) → Quiet s u → P false u) (fill : P true (format_placeholder e h.token s)) where
  steps : {u : State} {v : List ℕ} → Adds.Adds s u v → P false u
  steps {u} p = other u (quiet p)

  by_kind : (k : TokenKind) → P (is k kind.Placeholder) (format_token e h k s)
  unfolding format_token
  by_kind kind.Whitespace = steps (Adds.same_text {s = s} {u = s} refl refl)
  by_kind kind.LineComment = steps (Adds.line_comment e h)
  by_kind kind.BlockComment = steps (Adds.block_comment e h)
  by_kind kind.ReservedTopLevel = steps (Adds.top_level e h (span_info e h s))
  by_kind kind.ReservedTopLevelNoIndent = steps (Adds.top_level_no_indent e h (span_info e h s))
  by_kind kind.ReservedNewlineAfter = steps (Adds.newline_after e h (span_info e h s))
  by_kind kind.ReservedNewline = steps (Adds.newline e h)
  by_kind kind.Reserved = steps (Adds.reserved e h)
  by_kind kind.OpenParen = steps (Adds.opening e h (build_info (h.token ∷ h.after)))
  by_kind kind.CloseParen = steps (Adds.closing e h)
  by_kind kind.Placeholder = fill
  by_kind kind.TypeSpecifier = steps (Adds.type_specifier e h)
  by_kind kind.String = steps (Adds.by_value e h.token.value)
  by_kind kind.Operator = steps (Adds.by_value e h.token.value)
  by_kind kind.Number = steps (Adds.by_value e h.token.value)
  by_kind kind.Word = steps (Adds.by_value e h.token.value)
  by_kind kind.Join = steps (Adds.by_value e h.token.value)

  by_turn : (t : Turn) → P (lays_out t h.token.kind) (taken_as t e h s)
  unfolding lays_out taken_as format_no_change
  by_turn turn.Dropped = steps (Adds.same_text {s = s} {u = s} refl refl)
  by_turn (turn.Switches off) = steps (Adds.same_text {s = s} {u = s} refl refl)
  by_turn turn.LaidOut = by_kind h.token.kind
  by_turn turn.Copied = steps (Adds.pushes e h.token.value)

-- ---- the counter

moved : (b : Bool) (q : State) → (when b (on_index suc) q).index ≡ when b suc q.index
unfolding when on_index
moved true q = refl
moved false q = refl

pub counts : (e : Env) (h : Here) (s : State) (t : Turn) → (taken_as t e h s).index ≡ when (lays_out t h.token.kind && advances e.params h.token.key) suc s.index
unfolding when format_placeholder push push_str refuse_if on_text
counts e h s t =
    by_turn e h s (λ here u. u.index ≡ when (here && advances e.params h.token.key) suc s.index) (λ u q. q.counted)
    (moved (advances e.params h.token.key) _) t

-- ---- one token

-- the rows over a working text; a refusal has none
abbrev Stands : (ℕ → List ℕ) → Text → List Shown → List Row → Type 0
Stands to (fits k m b) xs rs = Placed to b (length b) xs rs
Stands to (refused n) xs rs = Unit {0}

still : (b : Bool) (q : State) → (when b (on_index suc) q).text ≡ q.text
unfolding when on_index
still true q = refl
still false q = refl

-- what a token that is a placeholder laid out (here) adds
abbrev shown_here : Env → ℕ → Token → State → Bool → List Shown → List Shown
shown_here e n t s here xs = when here (λ ys. showing e.params n s.index t ∷ ys) xs

abbrev rows_here : Env → ℕ → Token → State → Bool → List Row → List Row
rows_here e n t s here rs = when here (λ qs. row_of e n t s ∷ qs) rs

-- s: marked, with the text b, in which the first n tokens stand
module _ (to : ℕ → List ℕ) (e : Env) (h : Here) (n : ℕ) (s : State) (k : ℕ) (b : List ℕ) (at : s.text ≡ fits k (length b) b) (so_far : to n ≡ strip b)
    (xs : List Shown) (rs : List Row) (placed : Placed to b (length b) xs rs) where
  stands-quiet : (x : Text) → Kept (fits k (length b) b) x → Stands to x xs (map (clip (low_of x)) rs)
  stands-quiet (fits l m c) q = let u = q (omega arith) in placed-within to c m (length c) xs (map (clip m) rs) u.within (placed-cut to b c m xs rs u placed)
  stands-quiet (refused m) q = tt

  -- v is appended, and a blank: x is shown, and r points at it
  module _ (v : List ℕ) (x : Shown) (r : Row) (number : x.token ≡ n) (value : x.value ≡ v) (token : r.token ≡ x.token) (entry : r.entry ≡ x.entry) (from : r.start ≡ length b) (len : r.len ≡ length v) where
    placed-new : Placed to (b ++ v ++ 32 ∷ []) (length (b ++ v ++ 32 ∷ [])) (x ∷ xs) (r ∷ map (clip (length b)) rs)
    placed-new =
        let c : List ℕ = b ++ v ++ 32 ∷ [] in
        let whole : c ≡ b ++ (v ++ 32 ∷ []) = append_assoc b v (32 ∷ []) in
        let under : Under (length b) b (length b) c = rw whole (kept_append k (length b) b (v ++ 32 ∷ []) (omega arith)) in
        let there : stretch c r ≡ v = rw (from, len, whole, drop-append_seam b (v ++ 32 ∷ [])) (take-append_seam v (32 ∷ [])) in
        let before : strip (take r.start c) ≡ to x.token = rw (from, whole, take-append_seam b (v ++ 32 ∷ []), number, so_far) in (
          record { token = token; entry = entry; ends = simp length-append (omega arith); before = before; bytes = rw (there, value) (survives_all v) },
          rw from (placed-cut to b c (length b) xs rs under placed),
        )

    stands-new : (o : Bool) → let u = append e.room (32 ∷ []) (append e.room v (if o then refuse 5 (fits k (length b) b) else fits k (length b) b)) in Stands to u (x ∷ xs) (r ∷ map (clip (low_of u)) rs)
    stands-new true = tt
    stands-new false = one (leb (length b + length v) e.room)
      where
        two : (f : Bool) → let u = if f then fits k (length b) (b ++ v ++ 32 ∷ []) else refused 9 in Stands to u (x ∷ xs) (r ∷ map (clip (low_of u)) rs)
        two true = placed-new
        two false = tt

        one : (f : Bool) → let u = append e.room (32 ∷ []) (if f then fits k (length b) (b ++ v) else refused 9) in Stands to u (x ∷ xs) (r ∷ map (clip (low_of u)) rs)
        one true = two (leb (length (b ++ v) + 1) e.room)
        one false = tt

  stands-placeholder : let u = format_placeholder e h.token s in Stands to u.text (showing e.params n s.index h.token ∷ xs) (row_of e n h.token s ∷ map (clip (low_of u.text)) rs)
  unfolding format_placeholder push push_str refuse_if on_text showing row_of get Params.entry
  stands-placeholder =
      rw (still (advances e.params h.token.key) _, at)
      (stands-new (get e.params h.token.key s.index h.token.value) _ _ refl refl refl refl refl refl (offends e.params h.token.key))

  stands : (t : Turn) → let u = taken_as t e h s in let here = lays_out t h.token.kind in Stands to u.text (shown_here e n h.token s here xs) (rows_here e n h.token s here (map (clip (low_of u.text)) rs))
  unfolding when
  stands t =
      by_turn e h s (λ here u. Stands to u.text (shown_here e n h.token s here xs) (rows_here e n h.token s here (map (clip (low_of u.text)) rs)))
      (λ u q. stands-quiet u.text (rw at at q.kept)) stands-placeholder t

-- ---- the whole run

-- the rows over a text that is laid out
abbrev pub PlacedIn : (ℕ → List ℕ) → Answer → List Shown → List Row → Type 0
PlacedIn to (laid b l w) xs rs = Placed to b (length b) xs rs
PlacedIn to (refusal n p) xs rs = Unit {0}

marked-bytes : (x : Text) → bytes_in (mark x) ≡ bytes_in x
marked-bytes (fits k m b) = refl
marked-bytes (refused n) = refl

marked_row : (e : Env) (n : ℕ) (t : Token) (s : State) → row_of e n t (on_text mark s) ≡ row_of e n t s
unfolding row_of on_text
marked_row e n t s = rw (marked-bytes s.text)

-- from token n on, v being what is due of those before: what is due of the first so many tokens
abbrev Along : Env → (ℕ → List ℕ) → ℕ → List ℕ → List Piece → Switch → List Token → Type 0
Along e to n v past w [] = Unit {0}
Along e to n v past w (t ∷ ts) =
    (to n ≡ v) × Along e to (suc n) (v ++ due_by e past (kept_here w.enabled w.drop_next t)) (onto (kept_here w.enabled w.drop_next t) past) (next_switch w.enabled w.drop_next t) ts

-- one step and the rest
placed-next : (to : ℕ → List ℕ) (x : Text) (place : ℕ) (rest : Answer) (xs ys : List Shown) (rs qs : List Row) (k m : ℕ) (a d : List ℕ) → Adds.Grown (fits k m a) x d → Stands to x xs rs
    → ((l n : ℕ) (c : List ℕ) → x ≡ fits l n c → strip c ≡ strip a ++ d → Placed to c (length c) xs rs → PlacedIn to rest ys qs) → PlacedIn to (unless_refused x place rest) ys qs
unfolding unless_refused
placed-next to (fits l n c) place rest xs ys rs qs k m a d g p ih = ih l n c refl g p
placed-next to (refused n) place rest xs ys rs qs k m a d g p ih = tt

placed-from : (to : ℕ → List ℕ) (e : Env) (before ts : List Token) (past : List Piece) (w : Switch) (s : State) (xs : List Shown) (rs : List Row) (k m : ℕ) (b : List ℕ)
    → s.text ≡ fits k m b → s.index ≡ counter e.params past → Along e to (length before) (strip b) past w ts → Placed to b (length b) xs rs
    → PlacedIn to (format_from e before ts w s) (shown_from e.params (length before) s.index w ts xs) (rows_from e before ts w s rs)
unfolding format_from shown_from rows_from rows_after finish report unless_refused taken on_text
placed-from to e before [] past w s xs rs k m b at sync along p = rw at (placed-trimmed to b xs rs p)
placed-from to e before (t ∷ ts) past w s xs rs k m b at sync along p =
    let here : Here = record { before = before; token = t; after = ts } in
    let turn : Turn = turn_of w t.kind t.value in
    let from : State = on_text mark s in
    let u : State = taken_as turn e here from in
    let kept : List Piece = kept_here w.enabled w.drop_next t in
    let ys : List Shown = shown_here e (length before) t s (lays_out turn t.kind) xs in
    let qs : List Row = rows_here e (length before) t s (lays_out turn t.kind) (map (clip (low_of u.text)) rs) in
    let marked : from.text ≡ fits k (length b) b = ap mark at in
    let lays : LaysOut e past from u kept = lays_step e here past from sync w.enabled w.drop_next in
    let st : Stands to u.text ys qs = rw (marked_row e (length before) t s) at (stands to e here (length before) from k b marked along.0 xs rs p turn) in
    placed-next to u.text (length before) (format_from e (t ∷ before) ts (switch_after turn w) u) ys _ qs _ k (length b) b (due_by e past kept) (subst (λ (x : Text). Adds.Grown x u.text (due_by e past kept)) marked lays.grown) st
    (λ l n c q g r.
    rw (← counts e here from turn)
    (placed-from to e (t ∷ before) ts (onto kept past) (switch_after turn w) u ys qs l n c q lays.count (rw g along.1) r))

-- ---- what is due of the first tokens

onto-append : (ps xs past : List Piece) → onto (ps ++ xs) past ≡ onto xs (onto ps past)
onto-append [] xs past = refl
onto-append (p ∷ ps) xs past = onto-append ps xs (p ∷ past)

-- us: the tokens before, of which ps is kept
along_from : (e : Env) (us ts : List Token) (ps : List Piece) (w : Switch) → ((zs : List Token) → kept_tokens true false (us ++ zs) ≡ ps ++ kept_after w zs)
    → Along e (λ n. due e.params e.keep e.options.casing (take n (us ++ ts))) (length us) (due_by e [] ps) (onto ps []) w ts
unfolding due kept_tokens
along_from e us [] ps w h = tt
along_from e us (t ∷ ts) ps w h =
    let xs : List Piece = kept_here w.enabled w.drop_next t in
    let next : Switch = next_switch w.enabled w.drop_next t in
    let later : (zs : List Token) → kept_tokens true false ((us ++ t ∷ []) ++ zs) ≡ (ps ++ xs) ++ kept_after next zs =
    λ zs. rw (append_assoc us (t ∷ []) zs, h (t ∷ zs), kept_step w.enabled w.drop_next t zs) (sym (append_assoc ps xs (kept_after next zs)))
    in
    let now : kept_tokens true false us ≡ ps = ap (kept_tokens true false) (sym (append-nil us)) ∙ h [] ∙ append-nil ps in
    let n : length (us ++ t ∷ []) ≡ suc (length us) = simp length-append (omega arith) in (
      rw (take-append_seam us (t ∷ ts), now),
      rw (append_assoc us (t ∷ []) ts, n, due-append e [] ps xs, onto-append ps xs []) at (along_from e (us ++ t ∷ []) ts (ps ++ xs) next later),
    )

-- where a text is laid out, its rows point at what is shown
pub rows-placed : (e : Env) (ts : List Token) → PlacedIn (λ n. due e.params e.keep e.options.casing (take n ts)) (format e ts) (shown e.params ts) (rows e ts)
unfolding format shown rows start switched_on due_from
rows-placed e ts = placed-from _ e [] ts [] switched_on start [] [] 0 0 [] refl (counter-none e.params) (along_from e [] ts [] switched_on (λ zs. refl)) tt

-- ---- one row for each placeholder laid out, refused or not

-- f of a row is g of what is shown: it does not change with the place
module _ {A : Type 0} (f : Row → A) (g : Shown → A) (still-so : (a b : ℕ) (r : Row) → f (between a b r) ≡ f r) (new-so : (e : Env) (n : ℕ) (t : Token) (s : State) → f (row_of e n t s) ≡ g (showing e.params n s.index t)) where
  map-so : (h : Row → Row) → ((r : Row) → f (h r) ≡ f r) → (rs : List Row) (xs : List Shown) → map f rs ≡ map g xs → map f (map h rs) ≡ map g xs
  map-so h q [] xs e = e
  map-so h q (r ∷ rs) [] e = absurd (let z : ◌≡◌ {A = ℕ} 0 1 = cc in omega arith)
  map-so h q (r ∷ rs) (x ∷ xs) e = rw (q r, map-so h q rs xs (cc)) (cc)

  clip-so : (n : ℕ) (r : Row) → f (clip n r) ≡ f r
  unfolding clip
  clip-so n r = still-so _ _ r

  trim-so : (b : List ℕ) (r : Row) → f (trim_row b r) ≡ f r
  unfolding trim_row shift
  trim-so b r = still-so _ _ (clip (length (trim_end is_white b)) r) ∙ clip-so (length (trim_end is_white b)) r

  here-so : (e : Env) (n : ℕ) (t : Token) (s : State) (here : Bool) (rs : List Row) (xs : List Shown) → map f rs ≡ map g xs → map f (rows_here e n t s here rs) ≡ map g (shown_here e n t s here xs)
  unfolding when
  here-so e n t s true rs xs h = rw (new-so e n t s, h)
  here-so e n t s false rs xs h = h

  told-from : (e : Env) (before ts : List Token) (w : Switch) (s : State) (rs : List Row) (xs : List Shown) → map f rs ≡ map g xs
      → map f (rows_from e before ts w s rs) ≡ map g (shown_from e.params (length before) s.index w ts xs)
  unfolding rows_from shown_from rows_after taken on_text
  told-from e before [] w s rs xs h = map-so (trim_row (bytes_in s.text)) (trim-so (bytes_in s.text)) rs xs h
  told-from e before (t ∷ ts) w s rs xs h =
      let here : Here = record { before = before; token = t; after = ts } in
      let turn : Turn = turn_of w t.kind t.value in
      let from : State = on_text mark s in
      let u : State = taken_as turn e here from in
      let low : List Row = map (clip (low_of u.text)) rs in
      rw (← counts e here from turn)
      (told-from e (t ∷ before) ts (switch_after turn w) u (rows_here e (length before) t s (lays_out turn t.kind) low) (shown_here e (length before) t s (lays_out turn t.kind) xs)
      (here-so e (length before) t s (lays_out turn t.kind) low xs (map-so (clip (low_of u.text)) (clip-so (low_of u.text)) rs xs h)))

  told : (e : Env) (ts : List Token) → map f (rows e ts) ≡ map g (shown e.params ts)
  unfolding rows shown start
  told e ts = told-from e [] ts switched_on start [] [] refl

pub rows-tokens : (e : Env) (ts : List Token) → map (λ (r : Row). r.token) (rows e ts) ≡ map (λ (x : Shown). x.token) (shown e.params ts)
unfolding between row_of showing
rows-tokens e ts = told (λ r. r.token) (λ x. x.token) (λ a b r. refl) (λ e n t s. refl) e ts

pub rows-entries : (e : Env) (ts : List Token) → map (λ (r : Row). r.entry) (rows e ts) ≡ map (λ (x : Shown). x.entry) (shown e.params ts)
unfolding between row_of showing
rows-entries e ts = told (λ r. r.entry) (λ x. x.entry) (λ a b r. refl) (λ e n t s. refl) e ts

one_more : (here : Bool) (p : ℕ) (x : Shown) (xs : List Shown) → p + length (when here (λ ys. x ∷ ys) xs) ≡ when here suc p + length xs
unfolding when
one_more true p x xs = omega arith
one_more false p x xs = refl

shown-from : (ps : QueryParams) (n i : ℕ) (w : Switch) (ts : List Token) (xs : List Shown) → length (shown_from ps n i w ts xs) ≡ placeholders_from w ts + length xs
unfolding shown_from placeholders_from
shown-from ps n i w [] xs = sym (zero-add (length xs))
shown-from ps n i w (t ∷ ts) xs = shown-from ps (suc n) _ _ ts _ ∙ one_more (lays_out (turn_of w t.kind t.value) t.kind) _ (showing ps n i t) xs

pub shown-count : (ps : QueryParams) (ts : List Token) → length (shown ps ts) ≡ placeholders ts
unfolding shown placeholders
shown-count ps ts = shown-from ps 0 0 switched_on ts [] ∙ add-zero (placeholders_from switched_on ts)

pub rows-count : (e : Env) (ts : List Token) → length (rows e ts) ≡ placeholders ts
rows-count e ts = sym (length-map (rows e ts) (λ (r : Row). r.token)) ∙ ap length (rows-tokens e ts) ∙ length-map (shown e.params ts) (λ (x : Shown). x.token) ∙ shown-count e.params ts
