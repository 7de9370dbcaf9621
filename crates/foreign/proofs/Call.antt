-- What the call's verdict says: the definition's numbers are the wish's sentence. Assumes nothing.
use Rattle.rules.specs.declared.Offence.TheVariants as offence
use Rattle.rules.specs.declared.Offence.{Offence}
use mathlib.Core.Path.{◌≡◌, refl, sym, ap, subst, ◌∙◌}
use mathlib.Core.Bool.{Bool, true, false, not, false≢true}
use Rattle.std.specs.Prelude.{Option, None, Some, if◌then◌else◌, Err, Ok, Result}
use mathlib.Core.List.{List, [], ◌∷◌, ◌++◌, append_assoc, append-nil}
use Prim.Native.Nat.{ℕ, zero, suc, ◌+◌, ◌≤◌, ◌<◌}
use native.Mathlib.Omega.{arith}
use lib.Dec.{eqb, leb}
use lib.ListN.{length, take, drop, length-append}
use lib.Seq.{take-length}
use borrow.Author.Tests.{eqb-true, eqb-false, not-true, not-false}
use Rattle.rules.specs.declared.Case.{Case}
use Rattle.rules.specs.declared.Counts.{Counts}
use Rattle.rules.specs.Base.{same, any_of, find}
use Rattle.rules.specs.Tokens.{Token}
use Rattle.rules.specs.Checks.{checked}
use Rattle.rules.specs.Sheet.{list_of, token_of, options_of, params_of, keeps_of, QueryParams, Env, env_of, tokens_of}
use Rattle.rules.specs.Words.{body_at}
use Rattle.rules.specs.Due.{strip, Piece, role_of, kept_on, switches, kept_by, kept_tokens, Role, blank, comment, placeholder, reserved, other, due_from, due, due_in, due_of}
use Rattle.checks.proofs.Sound.{sound-sheeted}
use Rattle.ascii.proofs.RunLaws.{same_true}
use Rattle.rules.proofs.Keeps.{onto, due_by, due-append, kept_here, next_switch, kept_after, kept_step}
use Rattle.foreign.specs.declared.Verdict.{Verdict}
use Rattle.foreign.specs.declared.Refusal.{Refusal}
use Rattle.foreign.specs.declared.Judged.{Judged}
use Rattle.foreign.specs.Foreign.{begins, first_from, unless_at, has_first, unless_no, compared, judge_tokens, judge_as, judge, number_of, judged_of}
use Rattle.foreign.proofs.Walk.{begins-on, begins-rest, same-on}
use Rattle.foreign.specs.Judges.{Begins, kept_first, due_first, LacksAt, NoAt, lacking, exceeding, Judges}

-- ---- the first number with p

module _ (p : ℕ → Bool) where
  -- p holds of it, and of none before
  pub record First (i k j : ℕ) : Type 0 where
    pub holds : p j ≡ true
    pub low : i ≤ j
    pub high : j < i + k
    pub none_before : (m : ℕ) → i ≤ m → m < j → p m ≡ false

  Finds : ℕ → ℕ → Option ℕ → Type 0
  Finds i k None = (m : ℕ) → i ≤ m → m < i + k → p m ≡ false
  Finds i k (Some j) = First i k j

  finds-next : (i k : ℕ) (o : Option ℕ) → p i ≡ false → Finds (suc i) k o → Finds i (suc k) o
  unfolding Finds
  finds-next i k None e f = λ m low high. by-eq m low high (eqb m i) refl
    where
      by-eq : (m : ℕ) → i ≤ m → m < i + suc k → (b : Bool) → eqb m i ≡ b → p m ≡ false
      by-eq m low high true q = rw (eqb-true m i q) e
      by-eq m low high false q = let n = eqb-false m i q in f m (omega arith) (omega arith)
  finds-next i k (Some j) e f =
      let low = f.low in
      let high = f.high in
      record { holds = f.holds; low = omega arith; high = omega arith; none_before = λ m l h. by-eq m l h (eqb m i) refl }
    where
      by-eq : (m : ℕ) → i ≤ m → m < j → (b : Bool) → eqb m i ≡ b → p m ≡ false
      by-eq m low high true q = rw (eqb-true m i q) e
      by-eq m low high false q = let n = eqb-false m i q in f.none_before m (omega arith) high

  finds : (i k : ℕ) → Finds i k (first_from p i k)
  unfolding Finds first_from
  finds i zero = λ m low high. absurd (omega arith)
  finds i (suc k) = go (p i) refl (finds (suc i) k)
    where
      go : (b : Bool) → p i ≡ b → Finds (suc i) k (first_from p (suc i) k) → Finds i (suc k) (if b then Some i else first_from p (suc i) k)
      go true e f = record { holds = e; low = omega arith; high = omega arith; none_before = λ m l h. absurd (omega arith) }
      go false e f = finds-next i k (first_from p (suc i) k) e f

-- ---- one more token

-- at most one piece is kept of it
pub data Few (xs : List Piece) : Type 0 where
  is_none : xs ≡ [] → Few xs
  is_one : (x : Piece) → xs ≡ x ∷ [] → Few xs

few-role : (r : Role) (t : Token) → Few (kept_on r t)
few-role blank t = is_none refl
few-role comment t = is_one _ refl
few-role placeholder t = is_one _ refl
few-role reserved t = is_one _ refl
few-role other t = is_one _ refl

few-by : (o : Option Bool) (on : Bool) (t : Token) → Few (kept_by o on t)
few-by (Some off) on t = is_none refl
few-by None true t = few-role (role_of t.kind) t
few-by None false t = is_one _ refl

few-here : (on drop : Bool) (t : Token) → Few (kept_here on drop t)
few-here on true t = is_none refl
few-here on false t = few-by (switches (role_of t.kind) t.value) on t

pub record OneMore (xs ys : List Piece) : Type 0 where
  pub added : List Piece
  pub whole : ys ≡ xs ++ added
  pub few : Few added

one_more : (on drop : Bool) (ts : List Token) (i : ℕ) → i < length ts → OneMore (kept_tokens on drop (take i ts)) (kept_tokens on drop (take (suc i) ts))
unfolding kept_tokens
one_more on drop [] i h = absurd (omega arith)
one_more on drop (t ∷ ts) zero h = record { added = kept_here on drop t; whole = kept_step on drop t [] ∙ append-nil (kept_here on drop t); few = few-here on drop t }
one_more on drop (t ∷ ts) (suc i) h =
    let w = next_switch on drop t in
    let r = one_more w.enabled w.drop_next ts i (omega arith) in
    record {
      added = r.added;
      whole = rw (kept_step on drop t (take (suc i) ts), kept_step on drop t (take i ts), r.whole) (sym (append_assoc (kept_here on drop t) (kept_after w (take i ts)) r.added));
      few = r.few;
    }

-- those kept of the first tokens come first
pub record Prefix (xs ys : List Piece) : Type 0 where
  pub others : List Piece
  pub whole : ys ≡ xs ++ others

kept-first : (on drop : Bool) (ts : List Token) (i : ℕ) → Prefix (kept_tokens on drop (take i ts)) (kept_tokens on drop ts)
unfolding kept_tokens
kept-first on drop ts zero = record { others = kept_tokens on drop ts; whole = refl }
kept-first on drop [] (suc i) = record { others = []; whole = refl }
kept-first on drop (t ∷ ts) (suc i) =
    let w = next_switch on drop t in
    let r = kept-first w.enabled w.drop_next ts i in
    record {
      others = r.others;
      whole = rw (kept_step on drop t ts, kept_step on drop t (take i ts), r.whole) (sym (append_assoc (kept_here on drop t) (kept_after w (take i ts)) r.others));
    }

-- ---- beginnings, and what is the same

begins-so : (v text : List ℕ) → Begins v text → begins v text ≡ true
unfolding begins
begins-so v text b = let e : begins (v ++ []) (v ++ b.rest) ≡ true = begins-on v [] b.rest in rw b.whole (rw (append-nil v) at e)

so_begins : (v text : List ℕ) → begins v text ≡ true → Begins v text
so_begins v text h = record { rest = drop (length v) text; whole = begins-rest v text h }

-- what is due and more is not what is due
not_more : (v rest : List ℕ) (y : ℕ) → v ≡ v ++ (y ∷ rest) → ⊥
not_more v rest y h = let l = length-append v (y ∷ rest) in let e = ap length h in omega arith

-- a number that the call gives
abbrev Given : ℕ → Type 0
Given n = any_of (eqb n) (0 ∷ 1 ∷ 2 ∷ 3 ∷ 4 ∷ 5 ∷ 15 ∷ []) ≡ true

judges_refused : (s text : List ℕ) (r : Refusal) → (number_of r ≡ 0 → ⊥) → Given (number_of r) → Judges s text (judged_of (Err r))
unfolding judged_of
judges_refused s text r k g = record { sound = λ z. absurd (k z); yes_due = λ z. absurd (k z); due_yes = λ z. absurd (k z); no_at = λ z. absurd (k z); given = g; refused = λ z. (refl, refl) }

-- ---- the tokens of a sheet

length-list : (f : ℕ → Token) (i k : ℕ) → length (list_of f i k) ≡ k
unfolding list_of
length-list f i zero = refl
length-list f i (suc k) = ap suc (length-list f (suc i) k)

module _ (s : List ℕ) (c : Counts) (text : List ℕ) where
  abbrev e : Env
  e = env_of s c 0

  abbrev ts : List Token
  ts = tokens_of s c

  abbrev due_all : List ℕ
  due_all = due (params_of s c) (keeps_of s c) (options_of s).casing ts

  length-tokens : length ts ≡ c.tokens
  unfolding tokens_of
  length-tokens = length-list (token_of s (body_at c)) 0 c.tokens

  -- what is due of the first comes first
  due-first : (i : ℕ) → Begins (due_first s c i) due_all
  unfolding due env_of
  due-first i =
      let r = kept-first true false ts i in
      record { rest = due_by e (onto (kept_first s c i) []) r.others; whole = rw r.whole (due-append e [] (kept_first s c i) r.others) }

  has-none : has_first (params_of s c) (keeps_of s c) (options_of s).casing ts text 0 ≡ true
  unfolding has_first due kept_tokens due_from begins
  has-none = refl

  abbrev lacks_to : ℕ → Bool
  lacks_to i = not (has_first (params_of s c) (keeps_of s c) (options_of s).casing ts text (suc i))

  -- no token below i lacks something
  has-before : (i : ℕ) → ((m : ℕ) → 0 ≤ m → m < i → lacks_to m ≡ false) → Begins (due_first s c i) (strip text)
  unfolding has_first
  has-before zero h = so_begins _ _ has-none
  has-before (suc i) h = so_begins _ _ (not-false _ (h i (omega arith) (omega arith)))

  same-due : (i : ℕ) → kept_first s c (suc i) ≡ kept_first s c i → due_first s c (suc i) ≡ due_first s c i
  unfolding due
  same-due i h = rw h

  -- a token that lacks something is kept
  lacks-here : (i : ℕ) → First lacks_to 0 (length ts) i → LacksAt s c text i
  unfolding has_first
  lacks-here i f =
      let high = f.high in
      let n = length-tokens in
      let lacks : Begins (due_first s c (suc i)) (strip text) → ⊥ = λ b. false≢true (sym (not-true _ f.holds) ∙ begins-so _ _ b) in
      let one = one_more true false ts i (omega arith) in
      go (omega arith) (has-before i f.none_before) lacks one.added one.whole one.few
    where
      go : i < c.tokens → Begins (due_first s c i) (strip text) → (Begins (due_first s c (suc i)) (strip text) → ⊥) → (xs : List Piece) → kept_first s c (suc i) ≡ kept_first s c i ++ xs → Few xs → LacksAt s c text i
      go high before lacks xs whole (is_none q) = absurd (lacks (rw (same-due i (whole ∙ rw (q, append-nil (kept_first s c i)))) before))
      go high before lacks xs whole (is_one x q) = record { within = high; piece = x; kept = rw q at whole; before = before; lacks = lacks }

  -- ---- what the comparison says

  Says : Verdict → Type 0
  Says Verdict.Yes = strip text ≡ due_all
  Says (Verdict.No i) = NoAt s c text i × (strip text ≡ due_all → ⊥)

  Told : Result Verdict Refusal → Type 0
  Told (Ok v) = Says v
  Told (Err r) = (number_of r ≡ 0 → ⊥) × Given (number_of r)

  -- all is there: nothing more, or more
  all_there : checked s ≡ Ok c → Begins due_all (strip text) → (b : Bool) → same due_all (strip text) ≡ b → Says (if b then Verdict.Yes else Verdict.No (length ts))
  unfolding Says due_of due_in
  all_there h k true q = sym (same_true _ _ q)
  all_there h k false q = go k.rest k.whole
    where
      go : (rest : List ℕ) → strip text ≡ due_all ++ rest → NoAt s c text (length ts) × (strip text ≡ due_all → ⊥)
      go [] w = absurd (false≢true (sym q ∙ rw w (same-on due_all [])))
      go (y ∷ rest) w = (exceeding (record { past = length-tokens; byte = y; rest = rest; more = rw h w }), λ z. not_more due_all rest y (sym z ∙ w))

  says-compared : checked s ≡ Ok c → (o : Option ℕ) → Finds lacks_to 0 (length ts) o → Says (unless_no (params_of s c) (keeps_of s c) (options_of s).casing ts text o)
  unfolding Says Finds unless_no
  says-compared h None f = all_there h (rw (take-length ts) at (has-before (length ts) (λ m l k. f m l (omega arith)))) (same due_all (strip text)) refl
  says-compared h (Some i) f =
      let l = lacks-here i f in
      (lacking l, λ z. l.lacks (rw z (due-first (suc i))))

  told-unless : (r : ℕ → Refusal) (o : Option ℕ) (v : Result Verdict Refusal) → ((p : ℕ) → (number_of (r p) ≡ 0 → ⊥) × Given (number_of (r p))) → Told v → Told (unless_at r o v)
  unfolding Told unless_at
  told-unless r None v z k = k
  told-unless r (Some p) v z k = z p

  told-tokens : checked s ≡ Ok c → Told (judge_tokens (params_of s c) (keeps_of s c) (options_of s).casing ts text)
  unfolding Told judge_tokens compared
  told-tokens h = told-unless _ _ _ (λ p. (λ z. omega arith, refl)) (told-unless _ _ _ (λ p. (λ z. omega arith, refl)) (says-compared h _ (finds lacks_to 0 (length ts))))

  -- in numbers
  due-is : checked s ≡ Ok c → due_of s ≡ due_all
  unfolding due_of due_in
  due-is h = rw h

  judges_so : checked s ≡ Ok c → (v : Result Verdict Refusal) → Told v → Judges s text (judged_of v)
  unfolding Says Told judged_of
  judges_so h (Ok Verdict.Yes) k =
      record {
        sound = λ z. h ∙ ap (λ (x : Counts). Ok x) (sound-sheeted s c h).counted;
        yes_due = λ z m. k ∙ sym (due-is h);
        due_yes = λ z d. refl;
        no_at = λ z n. absurd (n refl);
        given = refl;
        refused = λ z. absurd (z refl);
      }
  judges_so h (Ok (Verdict.No i)) k =
      record {
        sound = λ z. h ∙ ap (λ (x : Counts). Ok x) (sound-sheeted s c h).counted;
        yes_due = λ z m. absurd (omega arith);
        due_yes = λ z d. absurd (k.1 (d ∙ due-is h));
        no_at = λ z n. subst (λ (x : Counts). NoAt s x text i) (sound-sheeted s c h).counted k.0;
        given = refl;
        refused = λ z. absurd (z refl);
      }
  judges_so h (Err r) k = judges_refused s text r k.0 k.1

-- ---- the call

judges_as : (s text : List ℕ) (f : Result Counts Offence) → checked s ≡ f → Judges s text (judged_of (judge_as s text f))
unfolding judge_as
judges_as s text (Ok c) h = judges_so s c text h _ (told-tokens s c text h)
judges_as s text (Err offence.Size) h = judges_refused s text (Refusal.Sheet offence.Size) (λ z. omega arith) refl
judges_as s text (Err (offence.Word p)) h = judges_refused s text (Refusal.Sheet (offence.Word p)) (λ z. omega arith) refl
judges_as s text (Err (offence.Place p)) h = judges_refused s text (Refusal.Sheet (offence.Place p)) (λ z. omega arith) refl
judges_as s text (Err (offence.Byte p)) h = judges_refused s text (Refusal.Sheet (offence.Byte p)) (λ z. omega arith) refl

-- any numbers that the call's equation allows
pub call_judges : (s text : List ℕ) (r : Judged) → r ≡ judged_of (judge s text) → Judges s text r
unfolding judge
call_judges s text r e = rw e (judges_as s text (checked s) refl)

-- ---- a text that is what is due is a yes

pub due-compared : (s : List ℕ) (c : Counts) (text : List ℕ) → checked s ≡ Ok c → strip text ≡ due_all s c text
    → compared (params_of s c) (keeps_of s c) (options_of s).casing (tokens_of s c) text ≡ Verdict.Yes
unfolding compared unless_no Says
due-compared s c text h d = go (first_from (lacks_to s c text) 0 (length (tokens_of s c))) (says-compared s c text h _ (finds (lacks_to s c text) 0 (length (tokens_of s c))))
  where
    by-same : (b : Bool) → Says s c text (if b then Verdict.Yes else Verdict.No (length (tokens_of s c))) → (if b then Verdict.Yes else Verdict.No (length (tokens_of s c))) ≡ Verdict.Yes
    by-same true k = refl
    by-same false k = absurd (k.1 d)

    go : (o : Option ℕ) → Says s c text (unless_no (params_of s c) (keeps_of s c) (options_of s).casing (tokens_of s c) text o) → unless_no (params_of s c) (keeps_of s c) (options_of s).casing (tokens_of s c) text o ≡ Verdict.Yes
    go None k = by-same (same (due_all s c text) (strip text)) k
    go (Some i) k = absurd (k.1 d)

-- ---- only white bytes differ

module _ (ps : QueryParams) (keep : List (List ℕ)) (k : Case) (us : List Token) (v w : List ℕ) (same_bytes : strip v ≡ strip w) where
  unless_same : (o : Option ℕ) → unless_no ps keep k us v o ≡ unless_no ps keep k us w o
  unfolding unless_no
  unless_same None = rw same_bytes
  unless_same (Some i) = refl

  compared_same : compared ps keep k us v ≡ compared ps keep k us w
  unfolding compared has_first
  compared_same = rw (← same_bytes) (unless_same (first_from (λ i. not (begins (due ps keep k (take (suc i) us)) (strip v))) 0 (length us)))

-- two texts that are the same but for white bytes get one verdict, whoever laid them out
pub white-moves : (s v w : List ℕ) → strip v ≡ strip w → find (leb 128) 0 v ≡ find (leb 128) 0 w → judge s v ≡ judge s w
unfolding judge judge_as judge_tokens
white-moves s v w h f = go (checked s)
  where
    go : (d : Result Counts Offence) → judge_as s v d ≡ judge_as s w d
    go (Ok c) = rw (f, compared_same (params_of s c) (keeps_of s c) (options_of s).casing (tokens_of s c) v w h)
    go (Err offence.Size) = refl
    go (Err (offence.Word p)) = refl
    go (Err (offence.Place p)) = refl
    go (Err (offence.Byte p)) = refl
