-- A token of the pass, over plain variables. Assumes nothing.
use mathlib.Core.Bool.{Bool, true, false}
use mathlib.Core.Path.{◌≡◌, refl, sym, ap, ◌∙◌}
use mathlib.Core.Logic.{◌⊎◌, ⊎_elim}
use mathlib.Core.List.{List}
use Prim.Native.Nat.{ℕ, zero, suc, ◌+◌, ◌-◌, ◌*◌, ◌≤◌, ◌<◌}
use native.Mathlib.Omega.{arith}
use lib.Dec.{eqb, ltb, eqb-suc-zero}
use lib.ListN.{length}
use borrow.Author.Tests.{eqb-true, eqb-false}
use Rattle.rules.specs.declared.TokenKind.TheVariants as kind
use Rattle.rules.specs.declared.Sort.{Sort}
use Rattle.rules.specs.declared.Sort.TheVariants as sort
use Rattle.std.specs.Prelude.{if◌then◌else◌}
use Rattle.rules.specs.Tokens.{Token}
use Rattle.rules.specs.Sheet.{token_of, tokens_from, here_at}
use Rattle.rules.specs.Span.{sort_in, scan, unread}
use Rattle.around.specs.Readable.{Readable}
use Rattle.around.proofs.Lists.{tokens-step, tokens_none}
use Rattle.table.specs.Table.{word_of, ReadAs, Spans, SameBlocks}
use Rattle.table_spans.specs.declared.Rest.{Rest}
use Rattle.table_spans.specs.declared.Rests.{Rests}
use Rattle.table_spans.specs.Back.{level_in, closes_in, close_in, opens_in, saves_in, read_back, total_of, others_of, closed_in, closed, ended, front_in, under_in, through_in, FewRests}
use Rattle.table_spans.specs.Rows.{counts_of, with_row, past_in}
use Rattle.table_spans.specs.Filling.{Closes, ReadFrom, Row, Rows}
use Rattle.table_spans.proofs.Scans.{scan-joins}
use Rattle.table_spans.proofs.Passing.{closed-again, passed, under-as}
use Rattle.table_spans.proofs.RowLaws.{above, row-holds, row_other, held-still, row_back}
use Rattle.table_spans.proofs.Bounds.{few-read}

-- ---- sorts

not-both : (b : Bool) → b ≡ true → b ≡ false → ⊥
not-both b p q = let z : ◌≡◌ {A = Bool} true false = sym p ∙ q in let w : ◌≡◌ {A = ℕ} 0 1 = cc in omega arith

level-open : (x : Sort) → opens_in x ≡ true → level_in x 0 ≡ 1
level-open sort.Open h = refl
level-open sort.Close h = absurd (not-both false h refl)
level-open sort.Head h = absurd (not-both false h refl)
level-open sort.White h = absurd (not-both false h refl)
level-open sort.Semicolon h = absurd (not-both false h refl)
level-open sort.Comma h = absurd (not-both false h refl)
level-open sort.Other h = absurd (not-both false h refl)

level-own : (x : Sort) → opens_in x ≡ false → level_in x 0 ≡ 0
level-own sort.Open h = absurd (not-both true refl h)
level-own sort.Close h = refl
level-own sort.Head h = refl
level-own sort.White h = refl
level-own sort.Semicolon h = refl
level-own sort.Comma h = refl
level-own sort.Other h = refl

open_unsaved : (x : Sort) → opens_in x ≡ true → saves_in x ≡ false
open_unsaved sort.Open h = refl
open_unsaved sort.Close h = absurd (not-both false h refl)
open_unsaved sort.Head h = absurd (not-both false h refl)
open_unsaved sort.White h = refl
open_unsaved sort.Semicolon h = refl
open_unsaved sort.Comma h = refl
open_unsaved sort.Other h = refl

bracket_unsaved : (t : Token) → t.kind ≡ kind.OpenParen → saves_in (sort_in t) ≡ false
unfolding sort_in
bracket_unsaved t e = rw e

-- ---- what is read

pub ended-reads : (s : List ℕ) (base n j : ℕ) → n ≤ j → ReadFrom 0 s base n j (ended n)
unfolding read_back total_of others_of closed
ended-reads s base n j h =
    let e = tokens_none s base j n h in
    let p = tokens_none s base (n + 1) n (omega arith) in
    record {
      inner = rw e;
      outer = rw e;
      total = rw e;
      others = rw e;
      close = record { after = rw (e, p); from = omega arith; to = omega arith; at_close = λ l. absurd (omega arith) };
    }

module _ (s : List ℕ) (base n j : ℕ) (f p : Rests) (h : ReadFrom 0 s base n j f) (q : ReadFrom 0 s base n (f.close + 1) p) where
  abbrev those : List Token
  those = tokens_from s base j (n - j)

  under-reads : (outer : Bool) (u : Rest) → u ≡ read_back outer 0 (tokens_from s base (f.close + 1) (n - (f.close + 1))) → under_in (f.total - p.total) (ltb p.others f.others) u ≡ read_back outer 1 those
  under-reads outer u e = rw (q.total, q.others, e, h.total, h.others, ← h.close.after) (sym (under-as outer those 0))

  pub through_reads : ReadFrom 1 s base n j (through_in f p)
  through_reads =
      let a = h.close in
      let b = q.close in
      record {
        inner = under-reads false p.inner q.inner;
        outer = under-reads true p.outer q.outer;
        total = h.total;
        others = h.others;
        close = record { after = closed-again those 0 ∙ ap (closed 0) a.after ∙ b.after; from = omega arith; to = b.to; at_close = b.at_close };
      }

  pub through_less : p.total ≤ f.total
  through_less = rw (q.total, h.total, ← h.close.after) (passed false those 0).totals

module _ (s : List ℕ) (base n i : ℕ) (h : i < n) where
  abbrev later : List Token
  later = tokens_from s base (i + 1) (n - (i + 1))

  abbrev here : Token
  here = token_of s base i

  -- the close is as far off as it was
  sooner : (us : List Token) (c : ℕ) → Closes s base n (i + 1) us c → Closes s base n i us c
  sooner us c e = record { after = e.after; from = omega arith; to = e.to; at_close = e.at_close }

  front-close : (x : Sort) (c : ℕ) → sort_in here ≡ x → Closes s base n (i + 1) (closed (level_in x 0) later) c → Closes s base n i (closed_in (closes_in x 0) later (closed (level_in x 0) later)) (close_in x i c)
  front-close sort.Open c e f = sooner _ c f
  front-close sort.Close c e f = record { after = refl; from = omega arith; to = omega arith; at_close = λ l. e }
  front-close sort.Head c e f = sooner _ c f
  front-close sort.White c e f = sooner _ c f
  front-close sort.Semicolon c e f = sooner _ c f
  front-close sort.Comma c e f = sooner _ c f
  front-close sort.Other c e f = sooner _ c f

  front-here : (g : Rests) → ReadFrom (level_in (sort_in here) 0) s base n (i + 1) g → ReadFrom 0 s base n i (front_in (sort_in here) (length here.value) i g)
  unfolding read_back total_of others_of closed
  front-here g r =
      let e = tokens-step s base i n h in
      record {
        inner = rw (e, r.inner);
        outer = rw (e, r.outer);
        total = rw (e, r.total);
        others = rw (e, r.others);
        close = rw e (front-close (sort_in here) g.close refl r.close);
      }

  module _ (x : Sort) (len : ℕ) (is : x ≡ sort_in here) (m : len ≡ length here.value) (g : Rests) where
    pub front-open : opens_in x ≡ true → ReadFrom 1 s base n (i + 1) g → ReadFrom 0 s base n i (front_in x len i g)
    front-open o r = rw (is, m) (front-here g (rw (← is, level-open x o) r))

    pub front-own : opens_in x ≡ false → ReadFrom 0 s base n (i + 1) g → ReadFrom 0 s base n i (front_in x len i g)
    front-own o r = rw (is, m) (front-here g (rw (← is, level-own x o) r))

-- ---- the rows

module _ (s : List ℕ) (base n i : ℕ) (t : List ℕ) (x : Sort) (is : x ≡ sort_in (token_of s base i)) (r : Rows s base n (i + 1) t) where
  pub rows-unsaved : saves_in x ≡ false → Rows s base n i t
  rows-unsaved e = record { rows = λ k l h m. r.rows k (above i k l (λ z. not-both (saves_in x) (rw (is, ← z) m) e)) h m }

  pub rows-open : opens_in x ≡ true → Rows s base n i t
  rows-open o = rows-unsaved (open_unsaved x o)

  pub rows-put : (f : Rests) → 6 * i + 6 ≤ length t → ReadFrom 0 s base n (i + 1) f → Rows s base n i (with_row t i f)
  rows-put f room q = record { rows = λ k l h m. by-eq k l h m (eqb k i) refl }
    where
      by-eq : (k : ℕ) → i ≤ k → k < n → saves_in (sort_in (token_of s base k)) ≡ true → (b : Bool) → eqb k i ≡ b → Row s base n (with_row t i f) k
      by-eq k l h m true e = rw (eqb-true k i e) (record { after = f; read = q; held = row-holds t i f room })
      by-eq k l h m false e =
          let z = eqb-false k i e in
          let w = r.rows k (above i k l z) h m in
          record { after = w.after; read = w.read; held = held-still t i f k w.after z w.held }

pub same_blocks : (s : List ℕ) (base n : ℕ) (t : List ℕ) → SameBlocks s base n t t
same_blocks s base n t = record { same = λ i h e. (refl, refl) }

pub same-put : (s : List ℕ) (base n i : ℕ) (t : List ℕ) (x : Sort) (f : Rests) → x ≡ sort_in (token_of s base i) → saves_in x ≡ true → SameBlocks s base n t (with_row t i f)
same-put s base n i t x f is m =
    record { same = λ k h e. let z : k ≡ i → ⊥ = λ w. not-both (saves_in x) m (rw (is, ← w) (bracket_unsaved (token_of s base k) e)) in (row_other t i f k 0 z (omega arith), row_other t i f k 1 z (omega arith)) }

pub same-on : (s : List ℕ) (base n : ℕ) (t u v : List ℕ) → SameBlocks s base n t u → SameBlocks s base n u v → SameBlocks s base n t v
same-on s base n t u v a b = record { same = λ i h e. let p = a.same i h e in let q = b.same i h e in (q.0 ∙ p.0, q.1 ∙ p.1) }

-- ---- after the close

pub past-reads : (s : List ℕ) (base n i : ℕ) (t : List ℕ) (f p : Rests) → Readable s base n → i < n → Rows s base n (i + 1) t → ReadFrom 0 s base n (i + 1) f → p ≡ past_in t n f.close → ReadFrom 0 s base n (f.close + 1) p
unfolding past_in
past-reads s base n i t f p q h r d e = by-eq (eqb f.close n) refl
  where
    by-eq : (b : Bool) → eqb f.close n ≡ b → ReadFrom 0 s base n (f.close + 1) p
    by-eq true z =
        let w = eqb-true f.close n z in
        rw e (rw z (ended-reads s base n (f.close + 1) (omega arith)))
    by-eq false z =
        let w = eqb-false f.close n z in
        let a = d.close.from in
        let l : f.close < n = omega (arith, above f.close n d.close.to (λ v. w (sym v))) in
        let c = d.close.at_close l in
        let row = r.rows f.close (omega arith) l (rw c) in
        let m = row_back t f.close row.after (few-read 0 s base n (f.close + 1) row.after q row.read) row.held in
        rw e (rw (z, m) row.read)

-- ---- one token: x is its sort, and len its length

pub saved : (x : Sort) → (x ≡ sort.Head) ⊎ (x ≡ sort.Close) → (opens_in x ≡ false) × (saves_in x ≡ true)
saved x = ⊎_elim (λ e. rw e (refl, refl)) (λ e. rw e (refl, refl))

pub unsaved : (x : Sort) → (x ≡ sort.White) ⊎ ((x ≡ sort.Semicolon) ⊎ ((x ≡ sort.Comma) ⊎ (x ≡ sort.Other))) → (opens_in x ≡ false) × (saves_in x ≡ false)
unsaved x = ⊎_elim (λ e. rw e (refl, refl)) (⊎_elim (λ e. rw e (refl, refl)) (⊎_elim (λ e. rw e (refl, refl)) (λ e. rw e (refl, refl))))

module _ (s : List ℕ) (base n i : ℕ) (t : List ℕ) (f : Rests) (q : Readable s base n) (h : i < n) (d : ReadFrom 0 s base n (i + 1) f) (r : Rows s base n (i + 1) t) where
  -- what a turn gives: v, and the table as it is now
  abbrev Given : Rests → List ℕ → Type 0
  Given v u = record { read_from_2 : ReadFrom 0 s base n i v; rows_2 : Rows s base n i u; same_blocks : SameBlocks s base n t u }

  module _ (p : Rests) (e : p ≡ past_in t n f.close) where
    past_is : ReadFrom 0 s base n (f.close + 1) p
    past_is = past-reads s base n i t f p q h r d e

    pub past-room : record { few_rests : FewRests f; few_rests_2 : FewRests p; total_le_total : p.total ≤ f.total }
    past-room = record {
      few_rests = few-read 0 s base n (i + 1) f q d;
      few_rests_2 = few-read 0 s base n (f.close + 1) p q past_is;
      total_le_total = through_less s base n (i + 1) f p d past_is;
    }

    module _ (g : Rests) (k : g ≡ through_in f p) where
      through_is : ReadFrom 1 s base n (i + 1) g
      through_is = rw k (through_reads s base n (i + 1) f p d past_is)

      pub through_few : FewRests g
      through_few = few-read 1 s base n (i + 1) g q through_is

      pub turn_open : (x : Sort) (len : ℕ) (v : Rests) → x ≡ sort_in (token_of s base i) → len ≡ length (token_of s base i).value → x ≡ sort.Open → v ≡ front_in x len i g → Given v t
      turn_open x len v is m a w =
          let o : opens_in x ≡ true = rw a refl in
          record { read_from_2 = rw w (front-open s base n i h x len is m g o through_is); rows_2 = rows-open s base n i t x is r o; same_blocks = same_blocks s base n t }

  module _ (x : Sort) (len : ℕ) (v : Rests) (is : x ≡ sort_in (token_of s base i)) (m : len ≡ length (token_of s base i).value) (w : v ≡ front_in x len i f) where
    own-reads : opens_in x ≡ false → ReadFrom 0 s base n i v
    own-reads o = rw w (front-own s base n i h x len is m f o d)

    pub turn_saved : (u : List ℕ) → (x ≡ sort.Head) ⊎ (x ≡ sort.Close) → 6 * n ≤ length t → u ≡ with_row t i f → Given v u
    turn_saved u b l c =
        let o = saved x b in
        rw c (record { read_from_2 = own-reads o.0; rows_2 = rows-put s base n i t x is r f (omega arith) d; same_blocks = same-put s base n i t x f is o.1 })

    pub turn_unsaved : (x ≡ sort.White) ⊎ ((x ≡ sort.Semicolon) ⊎ ((x ≡ sort.Comma) ⊎ (x ≡ sort.Other))) → Given v t
    turn_unsaved b =
        let o = unsaved x b in
        record { read_from_2 = own-reads o.0; rows_2 = rows-unsaved s base n i t x is r o.1; same_blocks = same_blocks s base n t }

-- ---- the whole table

read_as : (t : List ℕ) (i k o : ℕ) (outer : Bool) (r : Rest) (ts : List Token) → outer ≡ eqb o 0 → r ≡ read_back outer 0 ts → word_of t i k ≡ r.full → word_of t i (k + 1) ≡ counts_of r → ReadAs t i k (scan o ts (unread o))
read_as t i k o outer r ts e is p q =
    let j = scan-joins o outer e ts 0 (unread o) (omega arith) in
    let a = j.full in
    let b = j.blocks in
    let c = j.arguments in
    let x : word_of t i k ≡ (read_back outer 0 ts).full = rw (← is) p in
    let y : word_of t i (k + 1) ≡ counts_of (read_back outer 0 ts) = rw (← is) q in
    record { full-span = omega arith; counts = omega arith }

pub all-spans : (s : List ℕ) (base n : ℕ) (t : List ℕ) → Rows s base n 0 t → Spans s base n t
all-spans s base n t r = record { spans = λ i h e o. by_level i (r.rows i (omega arith) h (rw e)) o }
  where
    by_level : (i : ℕ) → Row s base n t i → (o : ℕ) → ReadAs t i (if eqb o 0 then 2 else 0) (scan o (here_at s base n i).after (unread o))
    by_level i w zero = read_as t i 2 0 true w.after.outer (here_at s base n i).after refl w.read.outer w.held.outer_full w.held.outer_counts
    by_level i w (suc o) = rw (eqb-suc-zero o) (read_as t i 0 (suc o) false w.after.inner (here_at s base n i).after (sym (eqb-suc-zero o)) w.read.inner w.held.inner_full w.held.inner_counts)

-- token i is the last that was read
pub record Filling (s : List ℕ) (base n : ℕ) (t₀ t : List ℕ) (f : Rests) (i : ℕ) : Type 0 where
  pub up_to : i ≤ n
  pub long : length t ≡ length t₀
  pub read : ReadFrom 0 s base n i f
  pub rows : Rows s base n i t
  pub same : SameBlocks s base n t₀ t

pub filling_starts : (s : List ℕ) (base n : ℕ) (t : List ℕ) (f : Rests) → f ≡ ended n → Filling s base n t t f n
filling_starts s base n t f e =
    record {
      up_to = omega arith;
      long = refl;
      read = rw e (ended-reads s base n n (omega arith));
      rows = record { rows = λ k l h m. absurd (omega arith) };
      same = same_blocks s base n t;
    }

pub filling_ends : (s : List ℕ) (base n : ℕ) (t₀ t : List ℕ) (f : Rests) (i : ℕ) → Filling s base n t₀ t f i → i ≤ 0 → Spans s base n t
filling_ends s base n t₀ t f i w h = let e : i ≡ 0 = omega arith in all-spans s base n t (rw e at w.rows)
