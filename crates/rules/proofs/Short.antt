-- No text is long: a sheet that passes the checks gives fewer than 2 ^ 60 bytes, so 64 bits hold its width. Assumes nothing.
use mathlib.Core.Path.{◌≡◌, refl, ap}
use mathlib.Core.Bool.{Bool, true, false}
use Rattle.std.specs.Prelude.{Option, None, Some, if◌then◌else◌, unwrap_or}
use mathlib.Core.List.{List, [], ◌∷◌}
use Prim.Native.Nat.{ℕ, zero, suc, ◌+◌, ◌*◌, ◌^◌, ◌≤◌, ◌<◌}
use native.Mathlib.Omega.{arith}
use native.Mathlib.Nat.{mul-le-mul}
use lib.Dec.{eqb}
use lib.ListN.{length, drop, length-take, length-drop}
use Rattle.rules.specs.declared.TokenKind.TheVariants as kind
use Rattle.rules.specs.declared.Turn.{Turn}
use Rattle.rules.specs.declared.Turn.TheVariants as turn
use Rattle.rules.specs.declared.Indent.TheVariants as indent
use Rattle.rules.specs.declared.Counts.{Counts}
use Rattle.rules.specs.declared.Place.{Place}
use Rattle.rules.specs.Bytes.{bytes}
use Rattle.rules.specs.Base.{same, nth?}
use Rattle.rules.specs.Tokens.{Key, Token, is}
use Rattle.rules.specs.Words.{word_at, body_at}
use Rattle.rules.specs.Sheet.{Env, Param, QueryParams, NoParams, Indexed, Named, body_part, list_of, indent_from, options_of, token_of, value_of, param_of, params_of, env_of, tokens_of}
use Rattle.rules.specs.Text.{line_feeds}
use Rattle.rules.specs.Switch.{Switch, turn_of, switch_after, switched_on}
use Rattle.rules.specs.Params.{source, value_in, value_at, value_from, entry, get}
use Rattle.rules.specs.Answer.{Answer, laid, refusal, format}
use Rattle.rules.specs.Room.{full_indent, room_laid_out, shown_by, room_of, counter_after, room_from, room}
use Rattle.rules.proofs.Enough.{FitsIn, enough}

abbrev pub Short : Answer → Type 0
Short (laid b l w) = length b < 2 ^ 60
Short (refusal n p) = Unit {0}

-- ---- what is bounded: every value by a sheet's length, the indent and the lines by their words

-- each value of a list
abbrev pub Each : {A : Type 0} → (A → List ℕ) → List A → Type 0
Each f [] = Unit {0}
Each f (x ∷ xs) = (length (f x) ≤ 65536) × Each f xs

abbrev Shown : Option (List ℕ) → Type 0
Shown None = Unit {0}
Shown (Some v) = length v ≤ 65536

abbrev pub Entries : QueryParams → Type 0
Entries NoParams = Unit {0}
Entries (Indexed vs) = Each (λ v. v) vs
Entries (Named ps) = Each (λ (p : Param). p.value) ps

pub record Modest (e : Env) : Type 0 where
  pub indent : full_indent e.options.indent ≤ 32768
  pub between : e.options.lines_between_queries ≤ 256
  pub entries : Entries e.params

-- ---- a placeholder

shown-nth : (vs : List (List ℕ)) (n : ℕ) → Each (λ v. v) vs → Shown (nth? vs n)
shown-nth [] n h = tt
shown-nth (v ∷ vs) zero h = h.0
shown-nth (v ∷ vs) (suc n) h = shown-nth vs n h.1

shown-param : (ps : List Param) (n : ℕ) → Each (λ (p : Param). p.value) ps → Shown (value_in (nth? ps n))
unfolding value_in
shown-param [] n h = tt
shown-param (p ∷ ps) zero h = h.0
shown-param (p ∷ ps) (suc n) h = shown-param ps n h.1

shown-from : (ps : QueryParams) (o : Option ℕ) → Entries ps → Shown (value_from ps o)
unfolding value_from value_at
shown-from ps None h = tt
shown-from NoParams (Some n) h = tt
shown-from (Indexed vs) (Some n) h = shown-nth vs n h
shown-from (Named ps) (Some n) h = shown-param ps n h

shown-or : (o : Option (List ℕ)) (v : List ℕ) → Shown o → length v ≤ 65536 → length (unwrap_or o v) ≤ 65536
shown-or None v h l = l
shown-or (Some w) v h l = h

length-get : (ps : QueryParams) (k : Key) (i : ℕ) (v : List ℕ) → Entries ps → length v ≤ 65536 → length (get ps k i v) ≤ 65536
unfolding get entry
length-get ps k i v h l = shown-or (value_from ps (source ps k i)) v (shown-from ps (source ps k i) h) l

-- ---- the sum of Wish 9

-- each token's term is less than 2 ^ 32
abbrev step_most : ℕ
step_most = 4294967296

pub feeds-few : (v : List ℕ) → line_feeds v ≤ length v
feeds-few [] = omega arith
feeds-few (x ∷ xs) = go (eqb x 10) (feeds-few xs)
  where
    go : (b : Bool) → line_feeds xs ≤ length xs → (if b then suc (line_feeds xs) else line_feeds xs) ≤ length (x ∷ xs)
    go true h = omega arith
    go false h = omega arith

at_most : (b : Bool) (n : ℕ) → (if b then n else 0) ≤ n
at_most true n = omega arith
at_most false n = omega arith

module _ (e : Env) (m : Modest e) where
  laid_out-few : (v : List ℕ) → length v ≤ 65536 → room_laid_out e.options v ≤ step_most
  unfolding room_laid_out
  laid_out-few v l =
      let i = m.indent in
      let n = m.between in
      let b = at_most (same v (bytes ";")) e.options.lines_between_queries in
      let f = feeds-few v in
      let g : line_feeds v ≤ 65536 = omega arith in
      let w : full_indent e.options.indent + 1 ≤ 32769 = omega arith in
      let p : (full_indent e.options.indent + 1) * line_feeds v ≤ 32769 * 65536 = mul-le-mul w g in
      omega arith

  module _ (i : ℕ) (t : Token) (l : length t.value ≤ 65536) where
    length-shown : length (shown_by e.params i t) ≤ 65536
    unfolding shown_by
    length-shown = go (is t.kind kind.Placeholder)
      where
        go : (b : Bool) → length (if b then get e.params t.key i t.value else t.value) ≤ 65536
        go true = length-get e.params t.key i t.value m.entries l
        go false = l

    term_few : (u : Turn) → room_of e.options e.params i u t ≤ step_most
    unfolding room_of
    term_few turn.Dropped = omega arith
    term_few (turn.Switches off) = omega arith
    term_few turn.LaidOut = go (is t.kind kind.Whitespace)
      where
        go : (b : Bool) → (if b then 0 else room_laid_out e.options (shown_by e.params i t)) ≤ step_most
        go true = omega arith
        go false = laid_out-few (shown_by e.params i t) length-shown
    term_few turn.Copied = omega arith

  sum_few : (w : Switch) (i : ℕ) (ts : List Token) → Each (λ (t : Token). t.value) ts → room_from e.options e.params w i ts ≤ length ts * step_most
  unfolding room_from
  sum_few w i [] each = omega arith
  sum_few w i (t ∷ ts) each =
      let u = turn_of w t.kind t.value in
      let h = term_few i t each.0 u in
      let k = sum_few (switch_after u w) (counter_after e.params u t i) ts each.1 in
      omega arith

  -- the text is no longer than the sum
  short : (n : ℕ) (a : Answer) → FitsIn e n a → n < 2 ^ 60 → Short a
  unfolding FitsIn
  short n (laid b l w) h k = omega arith
  short n (refusal f p) h k = tt

  pub format-short : (ts : List Token) → Each (λ (t : Token). t.value) ts → length ts ≤ 1024 → Short (format e ts)
  unfolding room
  format-short ts each few = let h = sum_few switched_on 0 ts each in short _ (format e ts) (enough e ts) (omega arith)

-- ---- a sheet

length_part : (s : List ℕ) (base : ℕ) (p : Place) → length s ≤ 65536 → length (body_part s base p) ≤ 65536
unfolding body_part
length_part s base p l =
    let t = length-take p.len (drop (base + p.start) s) in
    let d = length-drop (base + p.start) s in
    omega arith

each-listed : {A : Type 0} (f : A → List ℕ) (g : ℕ → A) → ((i : ℕ) → length (f (g i)) ≤ 65536) → (i k : ℕ) → Each f (list_of g i k)
unfolding list_of
each-listed f g h i zero = tt
each-listed f g h i (suc k) = (h i, each-listed f g h (suc i) k)

length-listed : {A : Type 0} (g : ℕ → A) (i k : ℕ) → length (list_of g i k) ≡ k
unfolding list_of
length-listed g i zero = refl
length-listed g i (suc k) = ap suc (length-listed g (suc i) k)

indent-few : (w : ℕ) → w ≤ 256 → full_indent (indent_from w) ≤ 32768
unfolding indent_from full_indent
indent-few w h = go (eqb w 256)
  where
    go : (b : Bool) → full_indent (if b then indent.Tabs else indent.Spaces w) ≤ 32768
    go true = omega arith
    go false = omega arith

module _ (s : List ℕ) (c : Counts) (l : length s ≤ 65536) where
  entries-few : Entries (params_of s c)
  unfolding params_of value_of
  entries-few = go (eqb (word_at s 16) 0) (eqb (word_at s 16) 1)
    where
      go : (a b : Bool) → Entries (if a then NoParams else if b then Indexed (list_of (value_of s c) 0 c.params) else Named (list_of (param_of s c) 0 c.params))
      go true b = tt
      go false true = each-listed (λ v. v) (value_of s c) (λ i. length_part s _ _ l) 0 c.params
      go false false = each-listed (λ (p : Param). p.value) (param_of s c) (λ i. length_part s _ _ l) 0 c.params

  -- a sheet of at most 65,536 bytes and 1,024 tokens, its indent and its lines in their bounds: its text is short in any buffer
  pub sheet-short : (room : ℕ) → c.tokens ≤ 1024 → word_at s 20 ≤ 256 → word_at s 32 ≤ 255 → Short (format (env_of s c room) (tokens_of s c))
  unfolding env_of options_of tokens_of
  sheet-short room few indent lines =
      let n = length-listed (token_of s (body_at c)) 0 c.tokens in
      format-short (env_of s c room)
      (record { indent = indent-few (word_at s 20) indent; between = omega arith; entries = entries-few })
      (tokens_of s c)
      (each-listed (λ (t : Token). t.value) (token_of s (body_at c)) (λ i. length_part s _ _ l) 0 c.tokens)
      (omega arith)
