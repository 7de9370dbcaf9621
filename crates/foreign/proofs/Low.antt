-- What is due of a checked sheet has no byte of 128 or more. Assumes nothing.
use mathlib.Core.Path.{◌≡◌, refl}
use mathlib.Core.Bool.{Bool, true, false, ◌&&◌}
use Rattle.std.specs.Prelude.{Option, None, Some, if◌then◌else◌, unwrap_or}
use mathlib.Core.List.{List, [], ◌∷◌, ◌++◌}
use Prim.Native.Nat.{ℕ, zero, suc, ◌+◌, ◌-◌, ◌≤◌, ◌<◌}
use native.Mathlib.Omega.{arith}
use lib.Dec.{eqb, leb}
use lib.ListN.{length, drop, get_or}
use borrow.Author.Tests.{lt-leb}
use Rattle.std.proofs.lemmas.Bool.Decides.{nat_tests}
use Rattle.rules.specs.declared.Case.{Case}
use Rattle.rules.specs.declared.Case.TheVariants as case
use Rattle.rules.specs.declared.Counts.{Counts}
use Rattle.rules.specs.declared.Place.{Place}
use Rattle.rules.specs.Base.{same, find, nth?}
use Rattle.rules.specs.Tokens.{Key, absent, named, zero_indexed, one_indexed, Token}
use Rattle.rules.specs.Text.{byte_in_case, in_case}
use Rattle.rules.specs.Words.{word_at, body_at, token_at}
use Rattle.rules.specs.Sheet.{body_part, list_of, Param, QueryParams, NoParams, Indexed, Named, token_of, value_of, param_of, params_of, Env, env_of, tokens_of}
use Rattle.rules.specs.Formatter.{case_for, format_reserved_word}
use Rattle.rules.specs.Due.{white, strip, Piece, own, cased, filled, Role, blank, comment, placeholder, reserved, other, role_of, kept_on, switches, kept_by, kept_tokens, in_asked_case, one_based, called_by, entry_of, count_next, shows, due_from, due}
use Rattle.rules.proofs.Own.{word-is}
use Rattle.rules.proofs.Keeps.{due_by, kept_here, next_switch, kept_after, kept_step}
use Rattle.tokens.specs.Placed.{Inside}
use Rattle.records.specs.Sheeted.{Sheeted}
use Rattle.ascii.specs.Part.{part}
use Rattle.ascii.proofs.PartLaws.{part-cons}

-- ---- lists of bytes

-- every byte is below 128
abbrev pub Low : List ℕ → Type 0
Low [] = Unit {0}
Low (x ∷ v) = (x < 128) × Low v

pub low-find : (n : ℕ) (v : List ℕ) → Low v → find (leb 128) n v ≡ None
low-find n [] h = refl
low-find n (x ∷ v) h = rw (lt-leb 128 x h.0) (low-find (suc n) v h.1)

low-append : (v w : List ℕ) → Low v → Low w → Low (v ++ w)
low-append [] w h k = k
low-append (x ∷ v) w h k = (h.0, low-append v w h.1 k)

-- ---- white bytes

white_low : (x : ℕ) → white x ≡ true → x < 128
white_low x h = grind (arith, nat_tests)

low-strip : (v : List ℕ) → Low v → Low (strip v)
low-strip [] h = tt
low-strip (x ∷ v) h = go (white x) (low-strip v h.1)
  where
    go : (b : Bool) → Low (strip v) → Low (if b then strip v else x ∷ strip v)
    go true k = k
    go false k = (h.0, k)

pub strip-low : (v : List ℕ) → Low (strip v) → Low v
strip-low [] h = tt
strip-low (x ∷ v) h = go (white x) refl h (strip-low v)
  where
    go : (b : Bool) → white x ≡ b → Low (if b then strip v else x ∷ strip v) → (Low (strip v) → Low v) → Low (x ∷ v)
    go true e k ih = (white_low x e, ih k)
    go false e k ih = (k.0, ih k.1)

-- ---- letter case

upper-low : (x : ℕ) → x < 128 → (if leb 97 x && leb x 122 then x - 32 else x) < 128
upper-low x h = grind (arith, nat_tests)

lower-low : (x : ℕ) → x < 128 → (if leb 65 x && leb x 90 then x + 32 else x) < 128
lower-low x h = grind (arith, nat_tests)

low_byte : (k : Case) (x : ℕ) → x < 128 → byte_in_case k x < 128
low_byte case.AsIs x h = h
low_byte case.Upper x h = upper-low x h
low_byte case.Lower x h = lower-low x h

low-case : (k : Case) (v : List ℕ) → Low v → Low (in_case k v)
low-case k [] h = tt
low-case k (x ∷ v) h = (low_byte k x h.0, low-case k v h.1)

-- ---- parameters

abbrev LowValues : List (List ℕ) → Type 0
LowValues [] = Unit {0}
LowValues (v ∷ vs) = Low v × LowValues vs

abbrev LowParams : List Param → Type 0
LowParams [] = Unit {0}
LowParams (p ∷ ps) = Low p.value × LowParams ps

abbrev LowList : QueryParams → Type 0
LowList NoParams = Unit {0}
LowList (Indexed vs) = LowValues vs
LowList (Named ps) = LowParams ps

module _ (v : List ℕ) (l : Low v) where
  low-nth : (vs : List (List ℕ)) (n : ℕ) → LowValues vs → Low (unwrap_or (nth? vs n) v)
  low-nth [] n h = l
  low-nth (w ∷ vs) zero h = h.0
  low-nth (w ∷ vs) (suc n) h = low-nth vs n h.1

  low-one : (vs : List (List ℕ)) (n : ℕ) → LowValues vs → Low (unwrap_or (one_based vs n) v)
  low-one vs zero h = l
  low-one vs (suc n) h = low-nth vs n h

  low-called : (n : List ℕ) (ps : List Param) → LowParams ps → Low (unwrap_or (called_by n ps) v)
  low-called n [] h = l
  low-called n (p ∷ ps) h = go (same p.name n) (low-called n ps h.1)
    where
      go : (b : Bool) → Low (unwrap_or (called_by n ps) v) → Low (unwrap_or (if b then Some p.value else called_by n ps) v)
      go true k = h.0
      go false k = k

  low-entry : (ps : QueryParams) (key : Key) (i : ℕ) → LowList ps → Low (unwrap_or (entry_of ps key i) v)
  low-entry NoParams key i h = l
  low-entry (Indexed vs) absent i h = low-nth vs i h
  low-entry (Indexed vs) (named []) i h = low-nth vs i h
  low-entry (Indexed vs) (named (c ∷ n)) i h = l
  low-entry (Indexed vs) (zero_indexed n) i h = low-nth vs n.0 h
  low-entry (Indexed vs) (one_indexed n) i h = low-one vs n.0 h
  low-entry (Named ps) absent i h = l
  low-entry (Named ps) (named n) i h = low-called n ps h
  low-entry (Named ps) (zero_indexed n) i h = low-called [] ps h
  low-entry (Named ps) (one_indexed n) i h = low-called [] ps h

-- ---- what is due

abbrev LowPieces : List Piece → Type 0
LowPieces [] = Unit {0}
LowPieces (own v ∷ xs) = Low v × LowPieces xs
LowPieces (cased v ∷ xs) = Low v × LowPieces xs
LowPieces (filled k v ∷ xs) = Low v × LowPieces xs

abbrev LowTokens : List Token → Type 0
LowTokens [] = Unit {0}
LowTokens (t ∷ ts) = Low t.value × LowTokens ts

module _ (t : Token) (xs : List Piece) (l : Low t.value) (r : LowPieces xs) where
  low-role : (o : Role) → LowPieces (kept_on o t ++ xs)
  low-role blank = r
  low-role comment = (l, r)
  low-role placeholder = (l, r)
  low-role reserved = (l, r)
  low-role other = (l, r)

  low_by : (o : Option Bool) (on : Bool) → LowPieces (kept_by o on t ++ xs)
  low_by (Some off) on = r
  low_by None true = low-role (role_of t.kind)
  low_by None false = (l, r)

  low-here : (on drop : Bool) → LowPieces (kept_here on drop t ++ xs)
  low-here on true = r
  low-here on false = low_by (switches (role_of t.kind) t.value) on

low-kept : (on drop : Bool) (ts : List Token) → LowTokens ts → LowPieces (kept_tokens on drop ts)
unfolding kept_tokens
low-kept on drop [] h = tt
low-kept on drop (t ∷ ts) h =
    let w = next_switch on drop t in
    rw (kept_step on drop t ts) (low-here t (kept_after w ts) h.0 (low-kept w.enabled w.drop_next ts h.1) on drop)

module _ (e : Env) (ps : LowList e.params) where
  low-due : (before xs : List Piece) → LowPieces xs → Low (due_by e before xs)
  unfolding due_from format_reserved_word
  low-due before [] h = tt
  low-due before (own v ∷ xs) h = low-append (strip v) _ (low-strip v h.0) (low-due (own v ∷ before) xs h.1)
  low-due before (cased v ∷ xs) h = low-append (strip (shows e.params e.keep e.options.casing before (cased v))) _ (low-strip (in_asked_case e.keep e.options.casing v) (rw (← word-is e v) (low-case (case_for e v) v h.0))) (low-due (cased v ∷ before) xs h.1)
  low-due before (filled k v ∷ xs) h = low-append (strip (shows e.params e.keep e.options.casing before (filled k v))) _ (low-strip (unwrap_or (entry_of e.params k (count_next before)) v) (low-entry v h.0 e.params k (count_next before) ps)) (low-due (filled k v ∷ before) xs h.1)

-- ---- a checked sheet

low_part : (s : List ℕ) (start n : ℕ) → start + n ≤ length s → ((i : ℕ) → i < n → get_or s (start + i) 0 < 128) → Low (part s start n)
low_part s start zero h f = tt
low_part s start (suc n) h f =
    let z : start + 0 ≡ start = omega arith in
    rw (part-cons s start n (omega arith)) (rw z at (f 0 (omega arith)), low_part s (start + 1) n (omega arith) (λ i l. let e : start + 1 + i ≡ start + suc i = omega arith in rw e (f (suc i) (omega arith))))

module _ (s : List ℕ) (c : Counts) (h : Sheeted s c) where
  low-place : (p : Place) → Inside s (body_at c) p → Low (body_part s (body_at c) p)
  unfolding body_part
  low-place p k =
      let l = h.long in
      let m = k.inside in
      low_part s (body_at c + p.start) p.len (omega arith) (λ i j. let e : body_at c + p.start + i ≡ body_at c + (p.start + i) = omega arith in rw e (h.ascii (p.start + i) (omega arith)))

  low-tokens : (i k : ℕ) → i + k ≤ c.tokens → LowTokens (list_of (token_of s (body_at c)) i k)
  unfolding list_of
  low-tokens i zero l = tt
  low-tokens i (suc k) l = (low-place (token_at s i).value (h.tokens.within i (omega arith)).value_in, low-tokens (suc i) k (omega arith))

  low_value : (i : ℕ) → i < c.params → Low (value_of s c i)
  unfolding value_of
  low_value i l = low-place _ (h.params.within i l).value_in

  low_values : (i k : ℕ) → i + k ≤ c.params → LowValues (list_of (value_of s c) i k)
  unfolding list_of
  low_values i zero l = tt
  low_values i (suc k) l = (low_value i (omega arith), low_values (suc i) k (omega arith))

  low-params : (i k : ℕ) → i + k ≤ c.params → LowParams (list_of (param_of s c) i k)
  unfolding list_of
  low-params i zero l = tt
  low-params i (suc k) l = (low_value i (omega arith), low-params (suc i) k (omega arith))

  low-list : LowList (params_of s c)
  unfolding params_of
  low-list = go (eqb (word_at s 16) 0) (eqb (word_at s 16) 1)
    where
      go : (z o : Bool) → LowList (if z then NoParams else if o then Indexed (list_of (value_of s c) 0 c.params) else Named (list_of (param_of s c) 0 c.params))
      go true o = tt
      go false true = low_values 0 c.params (omega arith)
      go false false = low-params 0 c.params (omega arith)

  pub due-low : (room : ℕ) → Low (due (env_of s c room).params (env_of s c room).keep (env_of s c room).options.casing (tokens_of s c))
  unfolding due tokens_of env_of
  due-low room = low-due (env_of s c room) low-list [] _ (low-kept true false (tokens_of s c) (low-tokens 0 c.tokens (omega arith)))
