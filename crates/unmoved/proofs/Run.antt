-- Two runs side by side over the same tokens, with parameters of one shape: the texts stay the same items, and the rows with an entry stand at their values. Assumes nothing.
use mathlib.Core.Path.{◌≡◌, refl, sym, ap, subst, ◌∙◌}
use mathlib.Core.Bool.{Bool, true, false}
use Rattle.std.specs.Prelude.{Option, None, Some, if◌then◌else◌}
use mathlib.Core.List.{List, [], ◌∷◌, ◌++◌, map}
use Prim.Native.Nat.{ℕ, suc}
use lib.ListN.{length}
use Rattle.rules.specs.declared.Turn.{Turn}
use Rattle.rules.specs.declared.FormatOptions.{FormatOptions}
use Rattle.rules.specs.Base.{◌▹◌, when}
use Rattle.rules.specs.Tokens.{Token, Here, is}
use Rattle.rules.specs.Sheet.{Env, QueryParams}
use Rattle.rules.specs.Text.{Text, fits, refused, append, refuse, mark, low_of, bytes_in}
use Rattle.rules.specs.Params.{source, get, advances, offends}
use Rattle.rules.specs.Switch.{Switch, turn_of, switch_after, switched_on}
use Rattle.rules.specs.State.{State, start, on_text, on_index, refuse_if, push_str}
use Rattle.rules.specs.Formatter.{format_placeholder}
use Rattle.rules.specs.Answer.{Answer, laid, refusal, taken_as, taken, report, unless_refused, finish, format_from, format}
use Rattle.rules.specs.Rows.{Row, clip, lays_out, row_of, rows_after, trim_row, rows_from, rows}
use Rattle.unmoved.specs.Unmoved.{shape, values, all_firm, left}
use Rattle.unmoved.proofs.Items.{Spot}
use Rattle.unmoved.proofs.Texts.{Reads, Texts, both, one-refused, other-refused, texts-append, texts-hole, texts-mark}
use Rattle.unmoved.proofs.Ends.{spotted, spot_in, spots, spots-clip, left-trimmed}
use Rattle.unmoved.proofs.Shape.{Filled, source-same, advances-same, offends-same, filled}
use Rattle.unmoved.proofs.Rules as Rules
use Rattle.unmoved.proofs.Rules.{put, Twins, twins, on_texts, counts, maybe}

-- ---- a placeholder

-- both are refused, whatever else
gone : {ls hs ls' hs' : List Spot} (ms is ms' is' : List Spot) (room room' n : ℕ) (v w : List ℕ) {t u : Text} → Texts ls hs ls' hs' t u → Texts ms is ms' is' (append room v (refuse n t)) (append room' w (refuse n u))
gone ms is ms' is' room room' n v w (both p q) = one-refused
gone ms is ms' is' room room' n v w one-refused = one-refused
gone ms is ms' is' room room' n v w other-refused = other-refused

-- what a placeholder shows is put behind the text, unless it is refused
texts-shown : {ls hs ls' hs' : List Spot} (room room' : ℕ) (c : Bool) (v : List ℕ) (o : Option ℕ) (x y : List ℕ) → Filled v o x y → {t u : Text} → Texts ls hs ls' hs' t u
    → Texts ls (spotted o (record { start = length (bytes_in t); len = length x }) hs) ls' (spotted o (record { start = length (bytes_in u); len = length y }) hs')
    (append room x (if c then refuse 5 t else t)) (append room' y (if c then refuse 5 u else u))
texts-shown room room' true v o x y f p = gone _ _ _ _ room room' 5 x y p
texts-shown room room' false v None x y f p = rw (f.0, f.1) (texts-append room room' v p)
texts-shown room room' false v (Some n) x y f p = texts-hole room room' x y f.0 f.1 p

-- ---- rows

marked-bytes : (x : Text) → bytes_in (mark x) ≡ bytes_in x
marked-bytes (fits k m b) = refl
marked-bytes (refused n) = refl

marked_row : (e : Env) (n : ℕ) (t : Token) (s : State) → row_of e n t (on_text mark s) ≡ row_of e n t s
unfolding row_of on_text
marked_row e n t s = rw (marked-bytes s.text)

spots-when : (b : Bool) (r : Row) (rs : List Row) → spots (when b (λ zs. r ∷ zs) rs) ≡ when b (spot_in r) (spots rs)
unfolding when
spots-when true r rs = refl
spots-when false r rs = refl

-- the rows are clipped to the low, which is past all of their values
clipped : (b : Bool) (r r' : Row) (rs rs' : List Row) {x y : Text} → Texts (spots rs) (when b (spot_in r) (spots rs)) (spots rs') (when b (spot_in r') (spots rs')) x y
    → Texts (spots rs) (spots (when b (λ zs. r ∷ zs) (map (clip (low_of x)) rs))) (spots rs') (spots (when b (λ zs. r' ∷ zs) (map (clip (low_of y)) rs'))) x y
clipped b r r' rs rs' (both {l = l} {l' = l'} p q) = rw (spots-when b r (map (clip l) rs), spots-when b r' (map (clip l') rs'), spots-clip l rs p.low, spots-clip l' rs' q.low) (both p q)
clipped b r r' rs rs' one-refused = one-refused
clipped b r r' rs rs' other-refused = other-refused

-- where both are laid out, what is left of their texts is the same
abbrev pub LeftSame : Answer → List Row → Answer → List Row → Type 0
LeftSame (laid b l w) rs (laid c m x) rs' = left rs b ≡ left rs' c
LeftSame (laid b l w) rs (refusal n p) rs' = Unit {0}
LeftSame (refusal n p) rs a rs' = Unit {0}

unless_same : (x y : Text) (p p' : ℕ) (a a' : Answer) (rs rs' : List Row) → LeftSame a rs a' rs' → LeftSame (unless_refused x p a) rs (unless_refused y p' a') rs'
unfolding unless_refused
unless_same (fits k l b) (fits k' l' b') p p' a a' rs rs' h = h
unless_same (fits k l b) (refused n) p p' a a' rs rs' h = beside a
  where
    beside : (a : Answer) → LeftSame a rs (refusal n p') rs'
    beside (laid c m x) = tt
    beside (refusal m q) = tt
unless_same (refused n) y p p' a a' rs rs' h = tt

ended : {ls ls' : List Spot} (p p' : ℕ) (rs rs' : List Row) {x y : Text} → Texts ls (spots rs) ls' (spots rs') x y → LeftSame (finish p x) (map (trim_row (bytes_in x)) rs) (finish p' y) (map (trim_row (bytes_in y)) rs')
unfolding finish unless_refused report
ended p p' rs rs' (both {free = free} {held = held} q r) = rw (q.bytes, r.bytes) (left-trimmed true (free ++ held) rs q.spots ∙ sym (left-trimmed false (free ++ held) rs' r.spots))
ended p p' rs rs' one-refused = tt
ended p p' rs rs' (other-refused {t = t} {n = n}) = beside t
  where
    beside : (t : Text) → LeftSame (finish p t) (map (trim_row (bytes_in t)) rs) (finish p' (refused n)) (map (trim_row []) rs')
    beside (fits k l b) = tt
    beside (refused m) = tt

module _ (op : FormatOptions) (keep : List (List ℕ)) (ps qs : QueryParams) (room room' : ℕ) (shapes : shape ps ≡ shape qs) (firm-ps : all_firm (values ps) ≡ true) (firm-qs : all_firm (values qs) ≡ true) where
  abbrev E : Env
  E = Rules.ones op keep ps qs room room'

  abbrev F : Env
  F = Rules.others op keep ps qs room room'

  module _ {ls hs ls' hs' : List Spot} where
    placeholder : (n : ℕ) (tok : Token) (s : State) (u : Text) → Texts ls hs ls' hs' s.text u
        → Twins ls (spot_in (row_of E n tok s) hs) ls' (spot_in (row_of F n tok (put u s)) hs') (format_placeholder E tok s) (format_placeholder F tok (put u s))
    unfolding format_placeholder refuse_if push_str on_text row_of
    placeholder n tok s u p =
        let k = tok.key in
        let i = s.index in
        rw (← source-same ps qs shapes k i, ← advances-same ps qs shapes k, ← offends-same ps qs shapes k)
        (twins {s = put (append room (get ps k i tok.value) (if offends ps k then refuse 5 s.text else s.text)) s}
        (texts-shown room room' (offends ps k) tok.value (source ps k i) (get ps k i tok.value) (get qs k i tok.value) (filled ps qs shapes firm-ps firm-qs k i tok.value) p)
        ▹ Rules.blank op keep ps qs room room' ▹ maybe (advances ps k) (on_index suc) (on_index suc) counts)

  -- ---- one token

  abbrev spot_here : Bool → Row → List Spot → List Spot
  spot_here here r hs = when here (spot_in r) hs

  module _ (hs hs' : List Spot) (h : Here) (n : ℕ) (s : State) (u : Text) (p : Texts hs hs hs' hs' s.text u) where
    -- here: it is a placeholder that is laid out
    abbrev Stays : Bool → State → State → Type 0
    Stays here a b = Twins hs (spot_here here (row_of E n h.token s) hs) hs' (spot_here here (row_of F n h.token (put u s)) hs') a b

    taken-so : (t : Turn) → Stays (lays_out t h.token.kind) (taken_as t E h s) (taken_as t F h (put u s))
    unfolding when
    taken-so t = Rules.by_turn op keep ps qs room room' hs hs' h s u p Stays (λ a b q. q) (placeholder n h.token s u p) t

  module _ (h : Here) (n : ℕ) (t : Turn) (rs rs' : List Row) {ls ls' : List Spot} {a b : State} (p : Twins ls (spots rs) ls' (spots rs') a b) where
    stepped : Twins (spots rs) (spot_here (lays_out t h.token.kind) (row_of E n h.token a) (spots rs)) (spots rs') (spot_here (lays_out t h.token.kind) (row_of F n h.token b) (spots rs')) (taken t E h a) (taken t F h b)
    unfolding taken
    stepped =
        let here = lays_out t h.token.kind in
        let m : Twins (spots rs) (spots rs) (spots rs') (spots rs') (on_text mark a) (on_text mark b) = on_texts mark mark (λ x y q. texts-mark q) p in
        let d = taken-so (spots rs) (spots rs') h n (on_text mark a) m.other m.texts t in
        rw (marked_row E n h.token a, marked_row F n h.token b) at
        (subst (λ (x : State). Twins (spots rs) (spot_here here (row_of E n h.token (on_text mark a)) (spots rs)) (spots rs') (spot_here here (row_of F n h.token x) (spots rs')) (taken_as t E h (on_text mark a)) (taken_as t F h x)) (sym m.alike) d)

    next : Twins (spots rs) (spots (rows_after E n h.token t a (taken t E h a) rs)) (spots rs') (spots (rows_after F n h.token t b (taken t F h b) rs')) (taken t E h a) (taken t F h b)
    unfolding rows_after
    next = let d = stepped in record { other = d.other; alike = d.alike; texts = rw (ap (λ (x : State). x.text) d.alike) (clipped (lays_out t h.token.kind) _ _ rs rs' d.texts) }

  -- ---- the whole run

  runs : (before ts : List Token) (w : Switch) (a b : State) (rs rs' : List Row) (ls ls' : List Spot) → Twins ls (spots rs) ls' (spots rs') a b
      → LeftSame (format_from E before ts w a) (rows_from E before ts w a rs) (format_from F before ts w b) (rows_from F before ts w b rs')
  unfolding format_from rows_from
  runs before [] w a b rs rs' ls ls' p = rw (ap (λ (x : State). x.text) p.alike) (ended (length before) (length before) rs rs' p.texts)
  runs before (t ∷ ts) w a b rs rs' ls ls' p =
      let here : Here = record { before = before; token = t; after = ts } in
      let turn : Turn = turn_of w t.kind t.value in
      unless_same (taken turn E here a).text (taken turn F here b).text (length before) (length before) _ _ _ _
      (runs (t ∷ before) ts (switch_after turn w) (taken turn E here a) (taken turn F here b) _ _ (spots rs) (spots rs') (next here (length before) turn rs rs' p))

  pub left-same : (ts : List Token) → LeftSame (format E ts) (rows E ts) (format F ts) (rows F ts)
  unfolding format rows start
  left-same ts = runs [] ts switched_on start start [] [] [] [] (record { other = fits 0 0 []; alike = refl; texts = both empty empty })
    where
      empty : {i : Bool} → Reads i [] [] 0 0 [] [] []
      empty = record { bytes = refl; floor = refl; spots = refl; low = tt }
