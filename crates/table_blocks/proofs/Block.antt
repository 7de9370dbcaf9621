-- The facts of a block, by what is counted up to its end. Assumes nothing.
use mathlib.Core.Path.{◌≡◌, refl, sym, ap, ◌∙◌}
use mathlib.Core.Bool.{Bool, true, false, ◌&&◌, ◌||◌, or-false}
use mathlib.Core.Logic.{⊎_elim}
use mathlib.Core.List.{◌∷◌}
use Prim.Native.Nat.{ℕ, zero, suc, ◌+◌, ◌-◌, ◌≤◌, ◌<◌, min}
use native.Mathlib.Numerals.{add-one}
use native.Mathlib.Omega.{arith}
use lib.Dec.{eqb, ltb}
use lib.ListN.{length}
use borrow.Author.Tests.{eq-eqb, ne_eqb, eqb-true, eqb-false}
use Rattle.rules.specs.declared.Part.{Part}
use Rattle.rules.specs.declared.Part.TheVariants as part
use Rattle.rules.specs.declared.Start.{Start}
use Rattle.rules.specs.declared.BlockInfo.{BlockInfo}
use Rattle.std.specs.Prelude.{if◌then◌else◌, Option, None, Some}
use Rattle.rules.specs.Sheet.{list_of}
use Rattle.rules.specs.Tokens.{Token}
use Rattle.rules.specs.InlineBlock.{is_top, is_newline, level_after, closes_at, start_after, span_after, measured, is_forbidden_token, forbid, build_from, unbuilt, build_info}
use Rattle.blocks.proofs.Built.{build_none, build_stop, build_go}
use Rattle.table_blocks.specs.Sums.{part_at, depth, size, count, newline_at, forbidden_at}
use Rattle.table_blocks.specs.First.{First, is_close, close_to}
use Rattle.table_blocks.specs.Spans.{read_span, span_from}
use Rattle.table_blocks.proofs.Firsts.{true_false, less-or, first_on, first-here}
use Rattle.table_blocks.proofs.Counts.{depth-step, size_step, found_none, found-on}
use Rattle.table_blocks.proofs.Chain.{read_none, read_step}

-- levels and lengths are counted from a block's start on; d and a are the depth and the length before it
abbrev lift : ℕ → ℕ → Option Start → Option Start
lift d a None = None
lift d a (Some w) = Some (record { level = w.level + d; span = w.span + a })

eqb-add : (l v d : ℕ) → eqb (l + d) (v + d) ≡ eqb l v
eqb-add l v d = by-test (eqb l v) refl
  where
    by-test : (c : Bool) → eqb l v ≡ c → eqb (l + d) (v + d) ≡ c
    by-test true e = let h = eqb-true l v e in eq-eqb (l + d) (v + d) (omega arith)
    by-test false e = ne_eqb (l + d) (v + d) (λ h. eqb-false l v e (omega arith))

lift-if : (c : Bool) (d a : ℕ) (x y : Option Start) → lift d a (if c then x else y) ≡ (if c then lift d a x else lift d a y)
lift-if true d a x y = refl
lift-if false d a x y = refl

lift-start : (d a : ℕ) (s : Option Start) (level len : ℕ) → lift d a (start_after s level len) ≡ start_after (lift d a s) (level + d) (len + a)
lift-start d a None level len = refl
lift-start d a (Some w) level len = rw (eqb-add w.level level d) (lift-if (eqb w.level level) d a None (Some w))

lift-span : (d a : ℕ) (s : Option Start) (level len b : ℕ) → span_after s level len b ≡ span_after (lift d a s) (level + d) (len + a) b
lift-span d a None level len b = refl
lift-span d a (Some w) level len b = let e : len + a - (w.span + a) ≡ len - w.span = omega arith in rw (eqb-add w.level level d, e)

-- a bracket closes the block where the depth is one above that before it
closes_as : (p : Part) (level d : ℕ) → 1 ≤ level → closes_at p (level_after p level) ≡ (is_close p && eqb (level + d) (d + 1))
closes_as part.Top level d h = refl
closes_as part.Newline level d h = refl
closes_as part.Open level d h = refl
closes_as part.Close level d h =
    let e : d + 1 ≡ 1 + d = omega arith in
    let g : level ≡ level - 1 + 1 = omega arith in
    let k : eqb (level - 1 + 1) (0 + 1) ≡ eqb (level - 1) 0 = eqb-add (level - 1) 0 1 in
    rw (e, eqb-add level 1 d) (sym k ∙ ap (λ (x : ℕ). eqb x 1) (sym g))
closes_as part.Comment level d h = refl
closes_as part.Rest level d h = refl

-- inside a block no level falls below nought
deeper : (p : Part) (level d : ℕ) → 1 ≤ level → level_after p level + d ≡ level_after p (level + d)
deeper part.Top level d h = refl
deeper part.Newline level d h = refl
deeper part.Open level d h = omega arith
deeper part.Close level d h = omega arith
deeper part.Comment level d h = refl
deeper part.Rest level d h = refl

still-deep : (p : Part) (level : ℕ) → 1 ≤ level → closes_at p (level_after p level) ≡ false → 1 ≤ level_after p level
still-deep part.Top level h c = h
still-deep part.Newline level h c = h
still-deep part.Open level h c = omega arith
still-deep part.Close level h c = let n : (level - 1 ≡ 0) → ⊥ = eqb-false (level - 1) 0 c in ⊎_elim (λ l. l) (λ l. absurd (n (omega arith))) (less-or 0 (level - 1))
still-deep part.Comment level h c = h
still-deep part.Rest level h c = h

-- r is what the reading of a block gives, i being its bracket, b what is read up to token j, and m its close (n: none)
pub record Read (f : ℕ → Token) (n i j m : ℕ) (b r : BlockInfo) : Type 0 where
  pub length_is : r.length + size f i ≡ size f (min (m + 1) n)
  pub forbidden_is : r.has_forbidden_tokens ≡ (b.has_forbidden_tokens || ltb (count (forbidden_at f) j) (count (forbidden_at f) m))
  pub reserved_is : r.has_reserved_tokens ≡ (b.has_reserved_tokens || ltb (count (newline_at f) j) (count (newline_at f) m))
  pub span_is : r.top_level_token_span ≡ read_span f (m - j) j (lift (depth f i) (size f i) b.start) b.top_level_token_span

-- inside the block
pub record Inside (f : ℕ → Token) (i j : ℕ) (b : BlockInfo) : Type 0 where
  pub level_is : b.level + depth f i ≡ depth f j
  pub deep : 1 ≤ b.level
  pub length_is : b.length + size f i ≡ size f j

module _ (f : ℕ → Token) (n i : ℕ) where
  list-step : (j k : ℕ) → list_of f j (suc k) ≡ f j ∷ list_of f (j + 1) k
  unfolding list_of
  list-step j k = rw add-one

  -- token j taken
  abbrev taken : ℕ → BlockInfo → BlockInfo
  taken j b = forbid (is_forbidden_token (f j)) (measured (f j) b)

  module _ (j : ℕ) (b : BlockInfo) (q : Inside f i j b) where
    closes-at : closes_at (part_at f j) (measured (f j) b).level ≡ close_to f (depth f i) j
    closes-at = closes_as (part_at f j) b.level (depth f i) q.deep ∙ rw q.level_is

    longer-by : b.length + length (f j).value + size f i ≡ size f (j + 1)
    longer-by = let e = size_step f j in let g = q.length_is in omega arith

    inside_on : close_to f (depth f i) j ≡ false → Inside f i (j + 1) (taken j b)
    inside_on c = record {
      level_is = deeper (part_at f j) b.level (depth f i) q.deep ∙ rw (q.level_is, depth-step f j);
      deep = still-deep (part_at f j) b.level q.deep (closes-at ∙ c);
      length_is = longer-by;
    }

    start-on : lift (depth f i) (size f i) (taken j b).start ≡ (if is_top (part_at f j) then start_after (lift (depth f i) (size f i) b.start) (depth f j) (size f (suc j)) else lift (depth f i) (size f i) b.start)
    start-on =
        let z : size f (suc j) ≡ size f (j + 1) = ap (size f) (sym (add-one j)) in
        lift-if (is_top (part_at f j)) (depth f i) (size f i) (start_after b.start b.level (b.length + length (f j).value)) b.start
        ∙ rw (z, ← longer-by, ← q.level_is, lift-start (depth f i) (size f i) b.start b.level (b.length + length (f j).value))

    span-on : (taken j b).top_level_token_span ≡ (if is_top (part_at f j) then span_after (lift (depth f i) (size f i) b.start) (depth f j) (size f (suc j)) b.top_level_token_span else b.top_level_token_span)
    span-on =
        let z : size f (suc j) ≡ size f (j + 1) = ap (size f) (sym (add-one j)) in
        rw (z, ← longer-by, ← q.level_is, ← lift-span (depth f i) (size f i) b.start b.level (b.length + length (f j).value) b.top_level_token_span)

  close-plain : (p : Part) (q : Bool) → (is_close p && q) ≡ true → (is_newline p ≡ false) × (is_top p ≡ false)
  close-plain part.Top q h = absurd (true_false h refl)
  close-plain part.Newline q h = absurd (true_false h refl)
  close-plain part.Open q h = absurd (true_false h refl)
  close-plain part.Close q h = (refl, refl)
  close-plain part.Comment q h = absurd (true_false h refl)
  close-plain part.Rest q h = absurd (true_false h refl)

  -- no token is left, or the block closes here: m is j
  ends : (j m : ℕ) (b r : BlockInfo) → m ≡ j → r.length + size f i ≡ size f (min (m + 1) n) → r.has_forbidden_tokens ≡ b.has_forbidden_tokens → r.has_reserved_tokens ≡ b.has_reserved_tokens
      → r.top_level_token_span ≡ b.top_level_token_span
      → Read f n i j m b r
  ends j m b r e l x y z =
      let d : m - j ≡ 0 = omega arith in
      record {
        length_is = l;
        forbidden_is = x ∙ rw e (found_none (forbidden_at f) b.has_forbidden_tokens j);
        reserved_is = y ∙ rw e (found_none (newline_at f) b.has_reserved_tokens j);
        span_is = z ∙ sym (rw d (read_none f j (lift (depth f i) (size f i) b.start) b.top_level_token_span));
      }

  read-ends : (j m : ℕ) (b : BlockInfo) → j ≡ n → Inside f i j b → First (close_to f (depth f i)) j n m → Read f n i j m b b
  read-ends j m b e q r =
      let p = r.past in
      let u = r.up_to in
      let d : min (m + 1) n ≡ j = omega arith in ends j m b b (omega arith) (rw d q.length_is) refl refl refl

  read-stops : (j m : ℕ) (b : BlockInfo) → j < n → Inside f i j b → First (close_to f (depth f i)) j n m → close_to f (depth f i) j ≡ true → Read f n i j m b (measured (f j) b)
  read-stops j m b h q r c =
      let e : j ≡ m = first-here (close_to f (depth f i)) n j m c r in
      let o = close-plain (part_at f j) (eqb (depth f j) (depth f i + 1)) c in
      let d : min (m + 1) n ≡ j + 1 = omega arith in
      ends j m b (measured (f j) b) (sym e) (rw d (longer-by j b q)) refl (rw o.0 (or-false b.has_reserved_tokens)) (rw o.1)

  -- what is read from the next token on is what is read from here on
  read_back : (j m : ℕ) (b r : BlockInfo) → j + 1 ≤ m → Inside f i j b → Read f n i (j + 1) m (taken j b) r → Read f n i j m b r
  read_back j m b r l q g =
      let d : m - j ≡ suc (m - (j + 1)) = omega arith in
      record {
        length_is = g.length_is;
        forbidden_is = g.forbidden_is ∙ found-on (forbidden_at f) b.has_forbidden_tokens j m l;
        reserved_is = g.reserved_is ∙ found-on (newline_at f) b.has_reserved_tokens j m l;
        span_is =
            g.span_is
            ∙ rw (start-on j b q, span-on j b q, d, add-one) (sym (read_step f (m - suc j) j (lift (depth f i) (size f i) b.start) b.top_level_token_span));
      }

  pub read-inside : (k j m : ℕ) (b : BlockInfo) → j + k ≡ n → Inside f i j b → First (close_to f (depth f i)) j n m → Read f n i j m b (build_from (list_of f j k) b)
  unfolding list_of
  read-inside zero j m b e q r = rw (build_none b) (read-ends j m b (omega arith) q r)
  read-inside (suc k) j m b e q r =
      by-test (close_to f (depth f i) j) refl (λ (x : BlockInfo) (u : Inside f i (j + 1) x) (v : First (close_to f (depth f i)) (j + 1) n m). read-inside k (j + 1) m x (omega arith) u v)
    where
      by-test : (c : Bool) → close_to f (depth f i) j ≡ c → ((x : BlockInfo) → Inside f i (j + 1) x → First (close_to f (depth f i)) (j + 1) n m → Read f n i (j + 1) m x (build_from (list_of f (j + 1) k) x)) → Read f n i j m b (build_from (list_of f j (suc k)) b)
      by-test true c g = rw (build_stop (f j) (list_of f (suc j) k) b (closes-at j b q ∙ c)) (read-stops j m b (omega arith) q r c)
      by-test false c g =
          let o = first_on (close_to f (depth f i)) n j m (omega arith) c r in
          rw (list-step j k, build_go (f j) (list_of f (j + 1) k) b (closes-at j b q ∙ c)) (read_back j m b (build_from (list_of f (j + 1) k) (taken j b)) o.past q (g (taken j b) (inside_on j b q c) o))

-- ---- the facts of the block of an opening bracket i, m being its close

pub record Facts (f : ℕ → Token) (n i m : ℕ) (r : BlockInfo) : Type 0 where
  pub length_is : r.length + size f i ≡ size f (min (m + 1) n)
  pub forbidden_is : r.has_forbidden_tokens ≡ ltb (count (forbidden_at f) i) (count (forbidden_at f) m)
  pub reserved_is : r.has_reserved_tokens ≡ ltb (count (newline_at f) i) (count (newline_at f) m)
  pub span_is : r.top_level_token_span ≡ span_from f (i + 1) m 0

module _ (f : ℕ → Token) (n i m : ℕ) (o : part_at f i ≡ part.Open) (h : i < n) (q : First (close_to f (depth f i)) (i + 1) n m) where
  opened : Inside f i (i + 1) (taken f n i i unbuilt)
  opened =
      let e = size_step f i in
      let g : depth f (i + 1) ≡ depth f i + 1 = depth-step f i ∙ rw o in
      let l : (taken f n i i unbuilt).level ≡ 1 = rw o in record { level_is = omega arith; deep = omega arith; length_is = omega arith }

  build_open : build_info (list_of f i (n - i)) ≡ build_from (list_of f (i + 1) (n - (i + 1))) (taken f n i i unbuilt)
  unfolding build_info
  build_open =
      let e : n - i ≡ suc (n - (i + 1)) = omega arith in
      let c : closes_at (part_at f i) (measured (f i) unbuilt).level ≡ false = rw o in rw (e, list-step f n i i (n - (i + 1))) (build_go (f i) (list_of f (i + 1) (n - (i + 1))) unbuilt c)

  pub block_facts : Facts f n i m (build_info (list_of f i (n - i)))
  unfolding span_from
  block_facts =
      let u = taken f n i i unbuilt in
      let g = read-inside f n i (n - (i + 1)) (i + 1) m u (omega arith) opened q in
      let p = q.past in
      let s : u.start ≡ None = rw o in
      let z : u.top_level_token_span ≡ 0 = rw o in
      rw build_open
      (record {
        length_is = g.length_is;
        forbidden_is = g.forbidden_is ∙ found-on (forbidden_at f) false i m p;
        reserved_is = g.reserved_is ∙ found-on (newline_at f) false i m p;
        span_is = g.span_is ∙ rw (s, z);
      })
