-- Wish 9: the working text is never longer than the sum, so a buffer that long never meets refusal 9. For any buffer and any value of word 7. Assumes nothing.
use Rattle.rules.specs.declared.Offence.TheVariants as offence
use Rattle.rules.specs.declared.Counts.{Counts}
use Rattle.rules.specs.declared.Offence.{Offence}
use mathlib.Core.Path.{◌≡◌, refl, ap}
use mathlib.Core.Bool.{Bool, true, false}
use mathlib.Core.List.{List, [], ◌∷◌}
use Prim.Native.Nat.{ℕ, zero, suc, ◌+◌, ◌≤◌}
use native.Mathlib.Omega.{arith}
use lib.ListN.{length, take, get_or}
use Rattle.rules.specs.declared.Turn.{Turn}
use Rattle.rules.specs.declared.FormatOptions.{FormatOptions}
use Rattle.std.specs.Prelude.{if◌then◌else◌, Err, Ok, Result}
use Rattle.rules.specs.Tokens.{Token, Here}
use Rattle.rules.specs.Checks.{checked}
use Rattle.rules.specs.Sheet.{Env, QueryParams, options_of, params_of, env_of, tokens_of}
use Rattle.rules.specs.Text.{Text, fits, refused, bytes_in}
use Rattle.rules.specs.Switch.{Switch, turn_of, switch_after, switched_on}
use Rattle.rules.specs.State.{State, start}
use Rattle.rules.specs.Indentation.{no_indentation}
use Rattle.rules.specs.Answer.{Answer, laid, refusal, report, unless_refused, finish, taken, format_from, format, is_withdrawn, answer_as, answer}
use Rattle.rules.specs.Compacted.{refusal as unwritten, outcome_of}
use Rattle.rules.specs.Rows.{is_short, listed_as, listed}
use Rattle.rules.specs.Room.{counter_after, room_of, room_from, room, room_as, room_for}
use Rattle.rules.specs.RoomRun.{texts_from, texts, text_after, answer_from, NotNine, with_room, tries_from, tried_at}
use Rattle.rules.proofs.Lengths.{length-trimmed}
use Rattle.rules.proofs.Growth.{length_of, Deep, Grows}
use Rattle.rules.proofs.TokenGrowth.{token-grows, token-counts}

-- ---- the text along the run

-- the first tokens have no more than all
part-less : (o : FormatOptions) (ps : QueryParams) (w : Switch) (i n : ℕ) (ts : List Token) → room_from o ps w i (take n ts) ≤ room_from o ps w i ts
unfolding room_from
part-less o ps w i zero ts = omega arith
part-less o ps w i (suc n) [] = omega arith
part-less o ps w i (suc n) (t ∷ ts) =
    let u = turn_of w t.kind t.value in
    let h = part-less o ps (switch_after u w) (counter_after ps u t i) n ts in
    omega arith

module _ (e : Env) where
  -- what is left of the sum
  abbrev left : Switch → State → List Token → ℕ
  left w s ts = room_from e.options e.params w s.index ts

  -- a token is taken
  module _ (before : List Token) (t : Token) (after : List Token) (w : Switch) (s : State) where
    abbrev here : Here
    here = record { before = before; token = t; after = after }

    abbrev turned : Turn
    turned = turn_of w t.kind t.value

    abbrev switched : Switch
    switched = switch_after turned w

    abbrev next : State
    next = taken turned e here s

    grown : Grows e.room s next (room_of e.options e.params s.index turned t)
    grown = token-grows e here turned s

    -- the text and what is left of the sum are together no more than before
    left-on : Deep s → (ts : List Token) → length_of next.text + left switched next ts ≤ length_of s.text + left w s (t ∷ ts)
    unfolding room_from
    left-on d ts = let h = (grown.longer d).more in rw (token-counts e here turned s) (omega arith)

  within-from : (before ts : List Token) (w : Switch) (s : State) (n : ℕ) → Deep s → length_of (get_or (s.text ∷ texts_from e before ts w s) n (fits 0 0 [])) ≤ length_of s.text + left w s (take n ts)
  unfolding texts_from
  within-from before ts w s zero d = omega arith
  within-from before [] w s (suc n) d = omega arith
  within-from before (t ∷ ts) w s (suc n) d =
      let h = within-from (t ∷ before) ts (switched before t ts w s) (next before t ts w s) n ((grown before t ts w s).deep d) in
      let k = left-on before t ts w s d (take n ts) in
      omega arith

  -- after the first n tokens the text is at most their sum, and so at most the whole sum
  pub within : (ts : List Token) (n : ℕ) → length (bytes_in (text_after e ts n)) ≤ room e.options e.params (take n ts)
  unfolding text_after texts room start no_indentation
  within ts n = let h = within-from [] ts switched_on start n (omega arith) in omega arith

  pub within-whole : (ts : List Token) (n : ℕ) → length (bytes_in (text_after e ts n)) ≤ room e.options e.params ts
  unfolding room
  within-whole ts n =
      let h = within ts n in
      let k = part-less e.options e.params switched_on 0 n ts in
      omega arith

  -- nor is it longer at any moment of a token: token n, tried in a buffer as long as the sum up to it, never meets 9
  tries-from : (m : ℕ) (before ts : List Token) (w : Switch) (s : State) (n : ℕ) → Deep s → length_of s.text + left w s (take (suc n) ts) ≤ m
      → NotNine (get_or (s.text ∷ texts_from e before ts w s) n (fits 0 0 [])) → NotNine (get_or (tries_from m e before ts w s) n (fits 0 0 []))
  unfolding texts_from tries_from with_room room_from
  tries-from m before [] w s n d l f = tt
  tries-from m before (t ∷ ts) w s zero d l f =
      ((token-grows (with_room m e) (here before t ts w s) (turned before t ts w s) s).longer d).no_nine (omega arith) f
  tries-from m before (t ∷ ts) w s (suc n) d l f =
      let k = left-on before t ts w s d (take (suc n) ts) in
      tries-from m (t ∷ before) ts (switched before t ts w s) (next before t ts w s) n ((grown before t ts w s).deep d) (omega arith) f

  pub moments : (ts : List Token) (n m : ℕ) → room e.options e.params (take (suc n) ts) ≤ m → NotNine (text_after e ts n) → NotNine (tried_at m e ts n)
  unfolding text_after texts tried_at room start no_indentation
  moments ts n m l f = tries-from m [] ts switched_on start n (omega arith) (omega arith) f

  -- these are the texts of the run: the answer is read off them
  answered-from : (before ts : List Token) (w : Switch) (s : State) → format_from e before ts w s ≡ answer_from (length before) s.text (texts_from e before ts w s)
  unfolding format_from answer_from texts_from
  answered-from before [] w s = refl
  answered-from before (t ∷ ts) w s = ap (unless_refused _ _) (answered-from (t ∷ before) ts _ _)

  pub texts-answer : (ts : List Token) → format e ts ≡ answer_from 0 start.text (texts e ts)
  unfolding format texts
  texts-answer ts = answered-from [] ts switched_on start

  -- ---- the answer

  -- a text of at most n bytes; or a refusal, which is not 9 if the buffer has n
  unfoldable pub FitsIn : ℕ → Answer → Type 0
  FitsIn n (laid b l w) = length b ≤ n
  FitsIn n (refusal k p) = n ≤ e.room → k ≡ 9 → ⊥

  looser : {n m : ℕ} → n ≤ m → (a : Answer) → FitsIn n a → FitsIn m a
  unfolding FitsIn
  looser l (laid b k w) h = omega arith
  looser l (refusal k p) h = λ r. h (omega arith)

  finished : (place n : ℕ) (t : Text) → length_of t ≤ n → NotNine t → FitsIn n (finish place t)
  unfolding finish unless_refused report FitsIn
  finished place n (fits k m b) l f = let h = length-trimmed b in omega arith
  finished place n (refused k) l f = λ r. f

  later : (place n : ℕ) (t : Text) (a : Answer) → (n ≤ e.room → NotNine t) → (NotNine t → FitsIn n a) → FitsIn n (unless_refused t place a)
  unfolding unless_refused FitsIn
  later place n (fits k m b) a f h = h tt
  later place n (refused k) a f h = f

  enough-from : (before ts : List Token) (w : Switch) (s : State) → Deep s → NotNine s.text → FitsIn (length_of s.text + left w s ts) (format_from e before ts w s)
  unfolding format_from room_from
  enough-from before [] w s d f = finished (length before) _ s.text (omega arith) f
  enough-from before (t ∷ ts) w s d f =
      let g = grown before t ts w s in
      let k = left-on before t ts w s d ts in
      later (length before) _ (next before t ts w s).text _
      (λ l. (g.longer d).no_nine (omega arith) f)
      (λ n. looser k _ (enough-from (t ∷ before) ts (switched before t ts w s) (next before t ts w s) (g.deep d) n))

  pub enough : (ts : List Token) → FitsIn (room e.options e.params ts) (format e ts)
  unfolding format room start no_indentation
  enough ts = looser (omega arith) _ (enough-from [] ts switched_on start (omega arith) tt)

  pub never_nine : (ts : List Token) → room e.options e.params ts ≤ e.room → (p : ℕ) → format e ts ≡ refusal 9 p → ⊥
  unfolding FitsIn
  never_nine ts l p h = (rw h at (enough ts)) l refl

-- ---- a sheet, in a buffer of n bytes

abbrev NoNine : Answer → Type 0
NoNine (laid b l w) = Unit {0}
NoNine (refusal k p) = k ≡ 9 → ⊥

without_nine : (e : Env) (n : ℕ) (a : Answer) → FitsIn e n a → n ≤ e.room → NoNine a
unfolding FitsIn
without_nine e n (laid b l w) h r = tt
without_nine e n (refusal k p) h r = h r

checked-no-nine : (s : List ℕ) (n : ℕ) (c : Result Counts Offence) → (room_as s c).length ≤ n → NoNine (answer_as s n c)
unfolding room_as answer_as env_of outcome_of
checked-no-nine s n (Ok c) l = go (is_withdrawn s) l
  where
    go : (b : Bool) → (if b then outcome_of (unwritten 14 28) else record { refusal = 0; place = 0; length = room (options_of s) (params_of s c) (tokens_of s c) }).length ≤ n → NoNine (if b then refusal 14 28 else format (env_of s c n) (tokens_of s c))
    go true h = λ z. omega arith
    go false h = without_nine (env_of s c n) _ _ (enough (env_of s c n) (tokens_of s c)) h
checked-no-nine s n (Err offence.Size) l = λ h. omega arith
checked-no-nine s n (Err (offence.Word p)) l = λ h. omega arith
checked-no-nine s n (Err (offence.Place p)) l = λ h. omega arith
checked-no-nine s n (Err (offence.Byte p)) l = λ h. omega arith

pub sheet-never-nine : (s : List ℕ) (n : ℕ) → (room_for s).length ≤ n → (p : ℕ) → answer s n ≡ refusal 9 p → ⊥
unfolding room_for answer
sheet-never-nine s n l p h = (rw h at (checked-no-nine s n (checked s) l)) refl

-- with a list of k words
pub listed-never-nine : (s : List ℕ) (n k : ℕ) → (room_for s).length ≤ n → (p : ℕ) → listed s n k ≡ refusal 9 p → ⊥
unfolding room_for listed listed_as
listed-never-nine s n k l p h = (rw h at (go (is_short s k (checked s)))) refl
  where
    go : (b : Bool) → NoNine (if b then refusal 10 0 else answer_as s n (checked s))
    go true = λ h. omega arith
    go false = checked-no-nine s n (checked s) l
