-- Laws of the stacks. Assumes nothing.
use mathlib.Core.Path.{◌≡◌, refl, sym, ap, ◌∙◌}
use mathlib.Core.Bool.{Bool, true, false, ◌&&◌, not}
use mathlib.Core.Logic.{⊎_elim}
use mathlib.Core.List.{List, [], ◌∷◌, map, tail}
use Prim.Native.Nat.{ℕ, zero, suc, ◌+◌, ◌-◌, ◌*◌, ◌≤◌, ◌<◌}
use native.Mathlib.Omega.{arith}
use Rattle.std.specs.Prelude.{Option, None, Some, if◌then◌else◌, min, slice_get, unwrap_or}
use Rattle.std.specs.Option.{SomeIff}
use Rattle.std.specs.Int.{from_bool}
use Rattle.std.proofs.Math.Nat.{min-eq_left}
use Rattle.std.proofs.lemmas.Bool.{cases_eq, and_parts}
use Rattle.indentation.specs.declared.TheConstants.{TOP, BLOCK, FOLDED_BLOCK}
use native.Mathlib.Nat.{add-zero, sub-zero}
use native.Mathlib.Numerals.{add-one}
use lib.Dec.{eqb, leb, ltb}
use lib.ListN.{length, get_or, set, replicate, take, length-map}
use lib.Seq.{get_or-set_same, set-get_or}
use borrow.Author.Tests.{eq-eqb, le-leb, lt-leb, ne_eqb, eqb-true, ltb-true, ltb-false, lt-ltb, leb-false}
use Rattle.rules.specs.declared.IndentType.{IndentType}
use Rattle.rules.specs.declared.IndentType.TheVariants.{Top, Block, FoldedBlock}
use Rattle.rules.specs.declared.SpanInfo.{SpanInfo}
use Rattle.rules.specs.Base.{when, full}
use Rattle.rules.specs.Indentation.{Indentation, PreviousTokens, no_indentation, is_single, asked, mark_reserved, mark_top_level, increase_top_level, increase_block_level, decrease_top_level, pop_top, decrease_block_level, pop_block, set_previous_reserved, set_previous_top_level, last_top_level, last_reserved, previous_reserved, previous_top_level_reserved, unfolded, indent_level, span, no_previous as none_before}
use Rattle.stacks.specs.Stack.{stack, Kept}
use Rattle.stacks.proofs.StackLaws.{length-stack, top_is, stack_push, stack-put, stack-pop, stack-popped, kept_push, kept_put, kept-pop, every_set, kept-none, every-same, unless_both, tail_map}
use Rattle.indentation.specs.declared.Indentation.{Indentation as Code}
use Rattle.indentation.specs.declared.Previous.{Previous}
use Rattle.indentation.specs.Of.{reserved_after, top_level_after, type_of, kind_for, word_of, marks_of, top_span, top_of, previous_of, entry, no_previous, entry_for, types_of, indentation_of, last_of, tops, ends_top, Told, Clean, Stands, StandsClosed}

tops_within : (ts : List IndentType) → tops ts ≤ length ts
unfolding tops
tops_within [] = omega arith
tops_within (Top ∷ ts) = let h = tops_within ts in omega arith
tops_within (Block ∷ ts) = let h = tops_within ts in omega arith
tops_within (FoldedBlock ∷ ts) = let h = tops_within ts in omega arith

pub types_length : (i : Code) → length (types_of i) ≡ i.nkinds
unfolding types_of
types_length i = length-map (stack 0 i.nkinds i.kinds) type_of ∙ length-stack 0 i.nkinds i.kinds

-- there is room for a span where there is room for an entry
pub spans-room : (i : Code) → Clean i → i.nkinds < 128 → i.nspans < 128
spans-room i c h =
    let p = c.paired in
    let t = tops_within (types_of i) in
    let l = types_length i in
    omega arith

-- ---- numbers

pub by_token : (r : Option ℕ) (w : ℕ) → SomeIff r (1 ≤ w) (w - 1) → r ≡ word_of w
unfolding word_of
by_token None zero h = refl
by_token None (suc n) h = absurd (h (omega arith))
by_token (Some m) zero h = absurd (omega (arith, h.0))
by_token (Some m) (suc n) h = let e : m ≡ n = omega (arith, h.1) in ap Some e

pub by_marks : (single after : Bool) → 1 + from_bool single + 2 * from_bool after ≡ marks_of single after
unfolding marks_of
by_marks false false = refl
by_marks false true = refl
by_marks true false = refl
by_marks true true = refl

pub by_single : (sp : SpanInfo) → sp.blocks ≤ 2 → eqb sp.arguments 1 ≡ is_single sp
unfolding is_single
by_single sp h = rw (le-leb _ _ h)

pub by_told : (m : ℕ) (sp : SpanInfo) → (m ≡ 0 → ⊥) → Some sp ≡ top_of m sp
unfolding top_of
by_told zero sp z = absurd (z refl)
by_told (suc m) sp z = refl

-- ---- a top-level entry on a list of entries

top-stays : (ts : List IndentType) → ends_top ts ≡ false → (d : Indentation ℕ) → pop_top ts d ≡ d
unfolding pop_top ends_top
top-stays [] e d = refl
top-stays (Top ∷ ts) e d = cc
top-stays (Block ∷ ts) e d = refl
top-stays (FoldedBlock ∷ ts) e d = refl

top-pops : (ts : List IndentType) → ends_top ts ≡ true → (d : Indentation ℕ) → pop_top ts d ≡ record { indent_types = tail ts; top_level_span = tail d.top_level_span; previous = tail d.previous }
unfolding pop_top ends_top
top-pops [] e d = cc
top-pops (Top ∷ ts) e d = refl
top-pops (Block ∷ ts) e d = cc
top-pops (FoldedBlock ∷ ts) e d = cc

top-counts : (ts : List IndentType) → ends_top ts ≡ true → tops ts ≡ suc (tops (tail ts))
unfolding tops ends_top
top-counts [] e = cc
top-counts (Top ∷ ts) e = refl
top-counts (Block ∷ ts) e = cc
top-counts (FoldedBlock ∷ ts) e = cc

-- ---- the kind of a block

type_for : (folded : Bool) → type_of (kind_for folded) ≡ (if folded then FoldedBlock else Block)
unfolding type_of kind_for
type_for true = refl
type_for false = refl

kind-small : (folded : Bool) → kind_for folded ≤ 2
unfolding kind_for
kind-small true = omega arith
kind-small false = omega arith

no_top : (folded : Bool) (ts : List IndentType) → tops (type_of (kind_for folded) ∷ ts) ≡ tops ts
unfolding type_of kind_for tops
no_top true ts = refl
no_top false ts = refl

-- ---- the top entry is a block

block_pops : (k : ℕ) (ts : List IndentType) (sp : List ℕ) (pr : List (PreviousTokens ℕ)) → k ≤ 2 → ends_top (type_of k ∷ ts) ≡ false
    → pop_block (type_of k ∷ ts) sp pr ≡ record { folded = eqb k 2; left = record { indent_types = ts; top_level_span = sp; previous = tail pr } }
unfolding type_of ends_top pop_block
block_pops zero ts sp pr h e = cc
block_pops (suc zero) ts sp pr h e = refl
block_pops (suc (suc zero)) ts sp pr h e = refl
block_pops (suc (suc (suc k))) ts sp pr h e = absurd (omega arith)

block_counts : (ts : List IndentType) → ends_top ts ≡ false → tops ts ≡ tops (tail ts)
unfolding tops ends_top
block_counts [] e = refl
block_counts (Top ∷ ts) e = cc
block_counts (Block ∷ ts) e = refl
block_counts (FoldedBlock ∷ ts) e = refl

-- a top-level entry goes first
pub top-skips : (d : Indentation ℕ) → ends_top d.indent_types ≡ true → decrease_block_level (decrease_top_level d) ≡ decrease_block_level d
unfolding decrease_block_level decrease_top_level pop_block pop_top ends_top
top-skips d h = go d.indent_types h
  where
    go : (ts : List IndentType) → ends_top ts ≡ true → pop_block (pop_top ts d).indent_types (pop_top ts d).top_level_span (pop_top ts d).previous ≡ pop_block ts d.top_level_span d.previous
    go [] e = cc
    go (Top ∷ ts) e = refl
    go (Block ∷ ts) e = cc
    go (FoldedBlock ∷ ts) e = cc

-- ---- previous words

-- what is asked of the span that was put there
span-back : (w : ℕ) (sp : SpanInfo) → top_of (top_level_after w sp).marks (top_span (top_level_after w sp)) ≡ Some (asked sp)
unfolding marks_of top_of asked
span-back w sp = go (is_single sp) sp.newline_after
  where
    go : (b d : Bool)
        → top_of (marks_of b d) (top_span (entry sp.full_span w (marks_of b d)))
        ≡ Some (record { full_span = sp.full_span; blocks = 0; newline_before = false; newline_after = d; arguments = (if b then 1 else 0) })
    go false false = refl
    go true false = refl
    go false true = refl
    go true true = refl

told_none : Told no_previous
unfolding entry_for top_of
told_none = refl

asked-single : (sp : SpanInfo) → is_single (asked sp) ≡ is_single sp
unfolding asked is_single
asked-single sp = go (is_single sp)
  where
    go : (b : Bool) → (true && eqb (if b then 1 else 0) 1) ≡ b
    go true = refl
    go false = refl

told-top-level : (w : ℕ) (sp : SpanInfo) → Told (top_level_after w sp)
unfolding entry_for asked
told-top-level w sp = rw (span-back w sp, asked-single sp)

told-reserved : (p : Previous) (t : ℕ) → Told p → Told (reserved_after p t)
unfolding entry_for
told-reserved p t h = ap (λ (q : Previous). reserved_after q t) h ∙ go (top_of p.marks (top_span p))
  where
    go : (v : Option SpanInfo) → reserved_after (entry_for v p.word) t ≡ entry_for v (t + 1)
    go None = refl
    go (Some sp) = refl

after-reserved : (p : Previous) (t : ℕ) → previous_of (reserved_after p t) ≡ record { top_level_reserved = (previous_of p).top_level_reserved; reserved = Some t }
unfolding previous_of word_of
after-reserved p t = rw add-one

after-top-level : (w : ℕ) (sp : SpanInfo) → previous_of (top_level_after w sp) ≡ record { top_level_reserved = Some (asked sp); reserved = word_of w }
unfolding previous_of
after-top-level w sp = rw (span-back w sp)

ends-kind : (k : ℕ) (ts : List IndentType) → eqb k 0 ≡ ends_top (type_of k ∷ ts)
unfolding type_of ends_top
ends-kind zero ts = refl
ends-kind (suc zero) ts = refl
ends-kind (suc (suc k)) ts = ne_eqb (suc (suc k)) 0 (λ h. omega arith)

last-top-level : (l : List Previous) → last_top_level (map previous_of l) ≡ top_of (get_or l 0 no_previous).marks (top_span (get_or l 0 no_previous))
unfolding last_top_level previous_of top_of
last-top-level [] = refl
last-top-level (p ∷ ps) = refl

last-reserved : (l : List Previous) → last_reserved (map previous_of l) ≡ word_of (get_or l 0 no_previous).word
unfolding last_reserved previous_of word_of
last-reserved [] = refl
last-reserved (p ∷ ps) = refl

-- ---- the entries that aren't folded

unfolded-within : (ts : List IndentType) → unfolded ts ≤ length ts
unfolding unfolded
unfolded-within [] = omega arith
unfolded-within (Top ∷ ts) = let h = unfolded-within ts in omega arith
unfolded-within (Block ∷ ts) = let h = unfolded-within ts in omega arith
unfolded-within (FoldedBlock ∷ ts) = let h = unfolded-within ts in omega arith

level-within : (i : Code) → Clean i → i.level ≤ 128
level-within i c =
    let t = unfolded-within (types_of i) in
    let l = types_length i in
    let e = c.counted in
    let k = c.kinds.within in
    omega arith

pub by_room : (i : Code) → Clean i → i.level ≤ 129
by_room i c = let h = level-within i c in omega arith

-- a block counts unless it is folded
block_level : (folded : Bool) (n : ℕ) (ts : List IndentType) → n ≡ unfolded ts → (if eqb (kind_for folded) 1 then n + 1 else n) ≡ unfolded (type_of (kind_for folded) ∷ ts)
unfolding type_of kind_for unfolded
block_level true n ts e = e
block_level false n ts e = omega arith

top-level : (ts : List IndentType) → ends_top ts ≡ true → unfolded ts - 1 ≡ unfolded (tail ts)
unfolding unfolded ends_top
top-level [] e = cc
top-level (Top ∷ ts) e = omega arith
top-level (Block ∷ ts) e = cc
top-level (FoldedBlock ∷ ts) e = cc

left-level : (k n : ℕ) (ts : List IndentType) → k ≤ 2 → ends_top (type_of k ∷ ts) ≡ false → n ≡ unfolded (type_of k ∷ ts) → (if eqb k 1 then n - 1 else n) ≡ unfolded ts
unfolding type_of ends_top unfolded
left-level zero n ts h e f = cc
left-level (suc zero) n ts h e f = omega arith
left-level (suc (suc zero)) n ts h e f = f
left-level (suc (suc (suc k))) n ts h e f = absurd (omega arith)

-- what holds of z and of every element holds of every element after a pop
popped-every : {A : Type 0} (z : A) (P : A → Type 0) {cap n : ℕ} {a : List A} → Kept z cap n a → 0 < cap → P z → ((k : ℕ) → P (get_or a k z)) → (k : ℕ) → P (get_or (set a (n - 1) z) k z)
popped-every z P {cap} {n} {a} kept h p every =
    let l = kept.long in
    let w = kept.within in
    every_set z P a (n - 1) z (omega arith) p every

module _ (i : Code) (c : Clean i) where
  not_full : i.nkinds < 128 → full (types_of i) ≡ false
  unfolding full
  not_full h = rw (types_length i, lt-leb _ _ h)

  is-full : 128 ≤ i.nkinds → full (types_of i) ≡ true
  unfolding full
  is-full h = rw (types_length i, le-leb _ _ h)

  -- ---- a top-level entry more

  pub by-top-full : (sp : SpanInfo) → 128 ≤ i.nkinds → Stands (increase_top_level sp (indentation_of i)) i
  unfolding increase_top_level indentation_of
  by-top-full sp h = record { is = rw (is-full h); clean = c }

  pub by-top : (sp : SpanInfo) → i.nkinds < 128
      → Stands (increase_top_level sp (indentation_of i))
      (record { kinds = set i.kinds i.nkinds 0; nkinds = i.nkinds + 1; spans = set i.spans i.nspans sp.full_span; nspans = i.nspans + 1; previous = i.previous; nprevious = i.nprevious; level = i.level + 1 })
  unfolding increase_top_level indentation_of types_of type_of tops unfolded
  by-top sp h =
      let l = c.kinds.long in
      let m = c.spans.long in
      let r = spans-room i c h in
      let k : i.nkinds < length i.kinds = omega arith in
      let s : i.nspans < length i.spans = omega arith in
      let e = stack_push 0 i.nkinds i.kinds 0 k in
      let f = c.fewer in
      record {
        is = rw (not_full h, e, stack_push 0 i.nspans i.spans sp.full_span s);
        clean = record {
          kinds = kept_push 0 0 h c.kinds;
          known = every_set 0 (λ x. x ≤ 2) i.kinds i.nkinds 0 k (omega arith) c.known;
          spans = kept_push 0 sp.full_span r c.spans;
          paired = rw e (let q = c.paired in omega arith);
          previous = c.previous;
          told = c.told;
          fewer = omega arith;
          counted = rw e (let q = c.counted in omega arith);
        };
      }

  -- ---- a block more

  pub by-block-full : (folded : Bool) → 128 ≤ i.nkinds → Stands (increase_block_level folded (indentation_of i)) i
  unfolding increase_block_level indentation_of
  by-block-full folded h = record { is = rw (is-full h); clean = c }

  block_pushed : (folded : Bool) (k : ℕ) → k ≡ kind_for folded → i.nkinds < 128
      → Stands (increase_block_level folded (indentation_of i))
      (record { kinds = set i.kinds i.nkinds k; nkinds = i.nkinds + 1; spans = i.spans; nspans = i.nspans; previous = set i.previous i.nprevious no_previous; nprevious = i.nprevious + 1; level = (if eqb k BLOCK then i.level + 1 else i.level) })
  unfolding increase_block_level indentation_of types_of previous_of none_before word_of top_of
  block_pushed folded k q h =
      let l = c.kinds.long in
      let m = c.previous.long in
      let f = c.fewer in
      let n : i.nkinds < length i.kinds = omega arith in
      let p : i.nprevious < length i.previous = omega arith in
      let g : i.nprevious < 129 = omega arith in
      let e : map type_of (stack 0 (i.nkinds + 1) (set i.kinds i.nkinds k)) ≡ type_of (kind_for folded) ∷ types_of i = rw (stack_push 0 i.nkinds i.kinds k n, q) in
      record {
        is = rw (not_full h, e, stack_push no_previous i.nprevious i.previous no_previous p, type_for);
        clean = record {
          kinds = kept_push 0 k h c.kinds;
          known = every_set 0 (λ x. x ≤ 2) i.kinds i.nkinds k n (rw q (kind-small folded)) c.known;
          spans = c.spans;
          paired = c.paired ∙ sym (ap tops e ∙ no_top folded (types_of i));
          previous = kept_push no_previous no_previous g c.previous;
          told = every_set no_previous Told i.previous i.nprevious no_previous p told_none c.told;
          fewer = omega arith;
          counted = rw (e, q) (block_level folded i.level (types_of i) c.counted);
        };
      }

  -- the entry above the count is what a push would put there
  kinds-above : set i.kinds i.nkinds 0 ≡ i.kinds
  kinds-above = ap (set i.kinds i.nkinds) (sym (c.kinds.above i.nkinds (omega arith))) ∙ set-get_or i.kinds i.nkinds 0

  previous-above : set i.previous i.nprevious no_previous ≡ i.previous
  previous-above = ap (set i.previous i.nprevious) (sym (c.previous.above i.nprevious (omega arith))) ∙ set-get_or i.previous i.nprevious no_previous

  counted-so : (f : Bool) (n : ℕ) → (if f then n + 1 else n) ≡ n + from_bool f
  counted-so true n = refl
  counted-so false n = sym (add-zero n)

  fewer-so : (f : Bool) (n : ℕ) → (if f then n - 1 else n) ≡ n - from_bool f
  fewer-so true n = refl
  fewer-so false n = sym (sub-zero n)

  stays : Stands (indentation_of i) i
  stays = record { is = refl; clean = c }

  pub top_if : (b g : Bool) (sp : SpanInfo) (at v u : ℕ) → g ≡ (b && ltb i.nkinds 128) → at ≡ min i.nspans 127 → v ≡ (if g then sp.full_span else get_or i.spans at 0) → u ≡ from_bool g
      → Stands (when b (increase_top_level sp) (indentation_of i))
      (record { kinds = i.kinds; nkinds = i.nkinds + u; spans = set i.spans at v; nspans = i.nspans + u; previous = i.previous; nprevious = i.nprevious; level = i.level + u })
  unfolding when
  top_if b true sp at v u eg ea ev eu =
      let t = and_parts b _ (sym eg) in
      let h = ltb-true _ _ t.1 in
      let r = spans-room i c h in
      let a : at ≡ i.nspans = ea ∙ min-eq_left (omega arith) in
      rw (t.0, a, ev, eu) (rw kinds-above at (by-top sp h))
  top_if b false sp at v u eg ea ev eu =
      let f = unless_both b (ltb i.nkinds 128) (increase_top_level sp) (indentation_of i) (sym eg) (λ q. sym (by-top-full sp (ltb-false _ _ q)).is) in
      rw (f, ev, eu, set-get_or i.spans at 0) (simp add-zero stays)

  pub block_if : (folded g f : Bool) (at k v u t : ℕ) → g ≡ ltb i.nkinds 128 → at ≡ min i.nkinds 127 → k ≡ kind_for folded → v ≡ (if g then k else get_or i.kinds at 0) → u ≡ from_bool g → f ≡ (g && eqb k BLOCK) → t ≡ from_bool f
      → Stands (increase_block_level folded (indentation_of i))
      (record { kinds = set i.kinds at v; nkinds = i.nkinds + u; spans = i.spans; nspans = i.nspans; previous = i.previous; nprevious = i.nprevious + u; level = i.level + t })
  block_if folded true f at k v u t eg ea ek ev eu ef et =
      let h = ltb-true _ _ (sym eg) in
      let a : at ≡ i.nkinds = ea ∙ min-eq_left (omega arith) in
      rw (a, ev, eu, et, ef) (rw (previous-above, counted-so) at (block_pushed folded k ek h))
  block_if folded false f at k v u t eg ea ek ev eu ef et =
      rw (ev, eu, et, ef, set-get_or i.kinds at 0) (simp add-zero (by-block-full folded (ltb-false _ _ (sym eg))))

  -- ---- a top-level entry less

  by-no-top : ends_top (types_of i) ≡ false → Stands (decrease_top_level (indentation_of i)) i
  unfolding decrease_top_level indentation_of
  by-no-top e = record { is = sym (top-stays (types_of i) e (indentation_of i)); clean = c }

  top-popped : ends_top (types_of i) ≡ true
      → Stands (decrease_top_level (indentation_of i))
      (record { kinds = set i.kinds (i.nkinds - 1) 0; nkinds = i.nkinds - 1; spans = set i.spans (i.nspans - 1) 0; nspans = i.nspans - 1; previous = set i.previous (i.nprevious - 1) no_previous; nprevious = i.nprevious - 1; level = i.level - 1 })
  unfolding decrease_top_level indentation_of types_of
  top-popped h =
      let e : map type_of (stack 0 (i.nkinds - 1) (set i.kinds (i.nkinds - 1) 0)) ≡ tail (types_of i) = rw (stack-popped 0 i.nkinds i.kinds, tail_map) in
      let n = top-counts (types_of i) h in
      let p = c.paired in
      let f = c.fewer in
      record {
        is = rw (e, stack-popped 0 i.nspans i.spans, stack-popped no_previous i.nprevious i.previous, tail_map) (sym (top-pops (types_of i) h (indentation_of i)));
        clean = record {
          kinds = kept-pop 0 (omega arith) c.kinds;
          known = popped-every 0 (λ x. x ≤ 2) c.kinds (omega arith) (omega arith) c.known;
          spans = kept-pop 0 (omega arith) c.spans;
          paired = rw e (omega arith);
          previous = kept-pop no_previous (omega arith) c.previous;
          told = popped-every no_previous Told c.previous (omega arith) told_none c.told;
          fewer = omega arith;
          counted = rw (e, c.counted) (top-level (types_of i) h);
        };
      }

  -- a top-level entry's kind is 0, as it is above the count
  top-kind : ends_top (types_of i) ≡ true → set i.kinds (i.nkinds - 1) 0 ≡ i.kinds
  unfolding types_of ends_top
  top-kind h = ap (set i.kinds (i.nkinds - 1)) (sym (zero_kind h)) ∙ set-get_or i.kinds (i.nkinds - 1) 0
    where
      zero_kind : ends_top (types_of i) ≡ true → get_or i.kinds (i.nkinds - 1) 0 ≡ 0
      zero_kind e =
          ⊎_elim
          (λ (z : i.nkinds ≡ 0). let t : false ≡ true = rw z at e in cc)
          (λ (z : i.nkinds ≡ 0 → ⊥). eqb-true (get_or i.kinds (i.nkinds - 1) 0) 0 (ends-kind (get_or i.kinds (i.nkinds - 1) 0) (map type_of (stack 0 (i.nkinds - 1) i.kinds)) ∙ (rw (stack-pop 0 i.nkinds i.kinds z) at e)))
          (cases_eq i.nkinds 0)

  -- the arrays after a top-level entry
  pub by-popped : ends_top (types_of i) ≡ true
      → Stands (decrease_top_level (indentation_of i))
      (record { kinds = i.kinds; nkinds = i.nkinds - 1; spans = set i.spans (i.nspans - 1) 0; nspans = i.nspans - 1; previous = set i.previous (i.nprevious - 1) no_previous; nprevious = i.nprevious - 1; level = i.level - 1 })
  by-popped h = rw (top-kind h) at (top-popped h)

  pub untop_if : (b g : Bool) (s v p u n m k l : ℕ) (w : Previous) → g ≡ (b && ends_top (types_of i)) → s ≡ i.nspans - 1 → v ≡ (if g then 0 else get_or i.spans s 0) → p ≡ i.nprevious - 1 → w ≡ (if g then no_previous else get_or i.previous p no_previous) → u ≡ from_bool g → n ≡ i.nspans - u → m ≡ i.nprevious - u → k ≡ i.nkinds - u → l ≡ i.level - u
      → Stands (when b decrease_top_level (indentation_of i))
      (record { kinds = i.kinds; nkinds = k; spans = set i.spans s v; nspans = n; previous = set i.previous p w; nprevious = m; level = l })
  unfolding when
  untop_if b true s v p u n m k l w eg es ev ep ew eu en em ek el =
      let t = and_parts b _ (sym eg) in
      rw (t.0, es, ev, en, ep, ew, em, ek, el, eu) (by-popped t.1)
  untop_if b false s v p u n m k l w eg es ev ep ew eu en em ek el =
      let f = unless_both b (ends_top (types_of i)) decrease_top_level (indentation_of i) (sym eg) (λ q. sym (by-no-top q).is) in
      rw (f, ev, en, ew, em, ek, el, eu, set-get_or i.spans s 0, set-get_or i.previous p no_previous) (simp sub-zero stays)

  -- ---- a block less

  pub by-none-left : i.nkinds ≡ 0 → StandsClosed (decrease_block_level (indentation_of i)) (record { folded = false; left = i })
  unfolding decrease_block_level indentation_of types_of pop_block
  by-none-left h = record { folded = rw h; left = record { is = rw h; clean = c } }

  block_popped : (i.nkinds ≡ 0 → ⊥) → ends_top (types_of i) ≡ false
      → StandsClosed (decrease_block_level (indentation_of i))
      (record {
        folded = eqb (get_or i.kinds (i.nkinds - 1) 0) 2;
        left = record { kinds = set i.kinds (i.nkinds - 1) 0; nkinds = i.nkinds - 1; spans = i.spans; nspans = i.nspans; previous = set i.previous (i.nprevious - 1) no_previous; nprevious = i.nprevious - 1; level = (if eqb (get_or i.kinds (i.nkinds - 1) 0) 1 then i.level - 1 else i.level) };
      })
  unfolding decrease_block_level indentation_of types_of
  block_popped z h =
      let k : ℕ = get_or i.kinds (i.nkinds - 1) 0 in
      let t : types_of i ≡ type_of k ∷ map type_of (stack 0 (i.nkinds - 1) i.kinds) = rw (stack-pop 0 i.nkinds i.kinds z) in
      let e : map type_of (stack 0 (i.nkinds - 1) (set i.kinds (i.nkinds - 1) 0)) ≡ tail (types_of i) = rw (stack-popped 0 i.nkinds i.kinds, tail_map) in
      let b = block_pops k (map type_of (stack 0 (i.nkinds - 1) i.kinds)) (stack 0 i.nspans i.spans) (map previous_of (stack no_previous i.nprevious i.previous)) (c.known (i.nkinds - 1)) (rw t at h) in
      let f = c.fewer in
      record {
        folded = rw (t, b);
        left = record {
          is = rw (e, t, b, stack-popped no_previous i.nprevious i.previous, tail_map);
          clean = record {
            kinds = kept-pop 0 (omega arith) c.kinds;
            known = popped-every 0 (λ x. x ≤ 2) c.kinds (omega arith) (omega arith) c.known;
            spans = c.spans;
            paired = c.paired ∙ block_counts (types_of i) h ∙ sym (ap tops e);
            previous = kept-pop no_previous (omega arith) c.previous;
            told = popped-every no_previous Told c.previous (omega arith) told_none c.told;
            fewer = omega arith;
            counted = rw (e, t) (left-level k i.level (map type_of (stack 0 (i.nkinds - 1) i.kinds)) (c.known (i.nkinds - 1)) (rw t at h) (rw t at c.counted));
          };
        };
      }

  pub by-closes : (k q l f g : ℕ) → ends_top (types_of i) ≡ false → k ≡ i.nkinds - 1 → f ≡ from_bool (ltb 0 i.nkinds) → q ≡ i.nprevious - f → g ≡ from_bool (eqb (get_or i.kinds k 0) BLOCK) → l ≡ i.level - g
      → StandsClosed (decrease_block_level (indentation_of i))
      (record {
        folded = eqb (get_or i.kinds k 0) FOLDED_BLOCK;
        left = record { kinds = set i.kinds k 0; nkinds = k; spans = i.spans; nspans = i.nspans; previous = set i.previous q no_previous; nprevious = q; level = l };
      })
  by-closes k q l f g h ek ef eq eg el =
      ⊎_elim
      (λ (z : i.nkinds ≡ 0).
      let k0 : k ≡ i.nkinds = omega arith in
      let a : get_or i.kinds i.nkinds 0 ≡ 0 = c.kinds.above i.nkinds (omega arith) in
      let q0 : q ≡ i.nprevious = eq ∙ (rw (ef, z) (sub-zero i.nprevious)) in
      rw (el, eg, k0, a, kinds-above, q0, previous-above) (simp sub-zero (by-none-left z)))
      (λ (z : i.nkinds ≡ 0 → ⊥).
      let q1 : q ≡ i.nprevious - 1 = eq ∙ (rw (ef, lt-ltb 0 i.nkinds (omega arith))) in
      rw (el, eg, ek, q1) (rw fewer-so at (block_popped z h)))
      (cases_eq i.nkinds 0)

  -- ---- previous words: the first, and one in place of the last

  -- a word v on an empty stack, w being what the rules' list becomes
  first_word : (v : Previous) (w : List (PreviousTokens ℕ)) → i.nprevious ≡ 0 → Told v → previous_of v ∷ [] ≡ w
      → Stands (record { indent_types = (indentation_of i).indent_types; top_level_span = (indentation_of i).top_level_span; previous = w })
      (record { kinds = i.kinds; nkinds = i.nkinds; spans = i.spans; nspans = i.nspans; previous = set i.previous 0 v; nprevious = 1; level = i.level })
  unfolding indentation_of types_of
  first_word v w z t e =
      let l = c.previous.long in
      let m : 0 < length i.previous = omega arith in
      let k : Kept no_previous 129 1 (set i.previous 0 v) = rw z at (kept_push no_previous v (omega arith) c.previous) in
      record {
        is = rw (← e, get_or-set_same i.previous 0 v no_previous m);
        clean = record {
          kinds = c.kinds;
          known = c.known;
          spans = c.spans;
          paired = c.paired;
          previous = k;
          told = every_set no_previous Told i.previous 0 v m t c.told;
          fewer = omega arith;
          counted = c.counted;
        };
      }

  next_word : (v : Previous) (w : List (PreviousTokens ℕ)) → (i.nprevious ≡ 0 → ⊥) → Told v → previous_of v ∷ tail (indentation_of i).previous ≡ w
      → Stands (record { indent_types = (indentation_of i).indent_types; top_level_span = (indentation_of i).top_level_span; previous = w })
      (record { kinds = i.kinds; nkinds = i.nkinds; spans = i.spans; nspans = i.nspans; previous = set i.previous (i.nprevious - 1) v; nprevious = i.nprevious; level = i.level })
  unfolding indentation_of types_of
  next_word v w z t e =
      let l = c.previous.long in
      let n = c.previous.within in
      let m : i.nprevious - 1 < length i.previous = omega arith in
      let q : i.nprevious ≤ length i.previous = omega arith in
      record {
        is = rw (← e, stack-put no_previous i.nprevious i.previous v z q, (tail_map previous_of));
        clean = record {
          kinds = c.kinds;
          known = c.known;
          spans = c.spans;
          paired = c.paired;
          previous = kept_put no_previous v z c.previous;
          told = every_set no_previous Told i.previous (i.nprevious - 1) v m t c.told;
          fewer = c.fewer;
          counted = c.counted;
        };
      }

  no_words : i.nprevious ≡ 0 → (indentation_of i).previous ≡ []
  unfolding indentation_of
  no_words z = rw z

  some_words : (i.nprevious ≡ 0 → ⊥) → (indentation_of i).previous ≡ previous_of (get_or i.previous (i.nprevious - 1) no_previous) ∷ tail (indentation_of i).previous
  unfolding indentation_of
  some_words z = rw (stack-pop no_previous i.nprevious i.previous z)

  by-first-reserved : (t : ℕ) (v : Previous) → i.nprevious ≡ 0 → v ≡ reserved_after no_previous t
      → Stands (set_previous_reserved t (indentation_of i))
      (record { kinds = i.kinds; nkinds = i.nkinds; spans = i.spans; nspans = i.nspans; previous = set i.previous 0 v; nprevious = 1; level = i.level })
  unfolding set_previous_reserved mark_reserved previous_of top_of
  by-first-reserved t v z e =
      rw e (first_word (reserved_after no_previous t) _ z (told-reserved no_previous t told_none) (rw (after-reserved, no_words z)))

  by-first-top-level : (t : ℕ) (sp : SpanInfo) (v : Previous) → i.nprevious ≡ 0 → v ≡ top_level_after (t + 1) sp
      → Stands (set_previous_top_level t sp (indentation_of i))
      (record { kinds = i.kinds; nkinds = i.nkinds; spans = i.spans; nspans = i.nspans; previous = set i.previous 0 v; nprevious = 1; level = i.level })
  unfolding set_previous_top_level mark_top_level word_of
  by-first-top-level t sp v z e =
      rw e (first_word (top_level_after (t + 1) sp) _ z (told-top-level (t + 1) sp) (rw (after-top-level, no_words z, add-one)))

  by-next-reserved : (t : ℕ) (v : Previous) → (i.nprevious ≡ 0 → ⊥) → v ≡ reserved_after (get_or i.previous (i.nprevious - 1) no_previous) t
      → Stands (set_previous_reserved t (indentation_of i))
      (record { kinds = i.kinds; nkinds = i.nkinds; spans = i.spans; nspans = i.nspans; previous = set i.previous (i.nprevious - 1) v; nprevious = i.nprevious; level = i.level })
  unfolding set_previous_reserved mark_reserved
  by-next-reserved t v z e =
      rw e (next_word (reserved_after (get_or i.previous (i.nprevious - 1) no_previous) t) _ z (told-reserved _ t (c.told (i.nprevious - 1))) (rw (after-reserved) (sym (rw (some_words z)))))

  by-next-top-level : (t : ℕ) (sp : SpanInfo) (v : Previous) → (i.nprevious ≡ 0 → ⊥) → v ≡ top_level_after (get_or i.previous (i.nprevious - 1) no_previous).word sp
      → Stands (set_previous_top_level t sp (indentation_of i))
      (record { kinds = i.kinds; nkinds = i.nkinds; spans = i.spans; nspans = i.nspans; previous = set i.previous (i.nprevious - 1) v; nprevious = i.nprevious; level = i.level })
  unfolding set_previous_top_level mark_top_level previous_of
  by-next-top-level t sp v z e =
      rw e (next_word (top_level_after (get_or i.previous (i.nprevious - 1) no_previous).word sp) _ z (told-top-level _ sp) (rw (after-top-level) (sym (rw (some_words z)))))

  nothing_above : (n : ℕ) → i.nprevious ≡ 0 → get_or i.previous n no_previous ≡ no_previous
  nothing_above n z = c.previous.above n (omega arith)

  pub noted_reserved : (t at : ℕ) (v : Previous) → at ≡ i.nprevious - 1 → v ≡ reserved_after (get_or i.previous at no_previous) t
      → Stands (set_previous_reserved t (indentation_of i))
      (record { kinds = i.kinds; nkinds = i.nkinds; spans = i.spans; nspans = i.nspans; previous = set i.previous at v; nprevious = at + 1; level = i.level })
  noted_reserved t at v ea ev =
      ⊎_elim
      (λ (z : i.nprevious ≡ 0).
      let a : at ≡ 0 = omega arith in
      let b : at + 1 ≡ 1 = omega arith in
      rw (b, a) (by-first-reserved t v z (rw (nothing_above at z) at ev)))
      (λ (z : i.nprevious ≡ 0 → ⊥).
      let b : at + 1 ≡ i.nprevious = omega arith in
      rw (b, ea) (by-next-reserved t v z (rw ea at ev)))
      (cases_eq i.nprevious 0)

  pub noted_top_level : (t at w : ℕ) (sp : SpanInfo) (v : Previous) → at ≡ i.nprevious - 1 → w ≡ (if eqb i.nprevious 0 then t + 1 else (get_or i.previous at no_previous).word) → v ≡ top_level_after w sp
      → Stands (set_previous_top_level t sp (indentation_of i))
      (record { kinds = i.kinds; nkinds = i.nkinds; spans = i.spans; nspans = i.nspans; previous = set i.previous at v; nprevious = at + 1; level = i.level })
  noted_top_level t at w sp v ea ew ev =
      ⊎_elim
      (λ (z : i.nprevious ≡ 0).
      let a : at ≡ 0 = omega arith in
      let b : at + 1 ≡ 1 = omega arith in
      rw (b, a) (by-first-top-level t sp v z (rw (ew, z) at ev)))
      (λ (z : i.nprevious ≡ 0 → ⊥).
      let b : at + 1 ≡ i.nprevious = omega arith in
      rw (b, ea) (by-next-top-level t sp v z (rw (ew, ne_eqb _ _ z, ea) at ev)))
      (cases_eq i.nprevious 0)

  -- ---- what is read

  pub by_ends : (i.nkinds ≡ 0 → ⊥) → eqb (get_or i.kinds (i.nkinds - 1) 0) 0 ≡ ends_top (types_of i)
  unfolding types_of
  by_ends z = rw (stack-pop 0 i.nkinds i.kinds z) (ends-kind (get_or i.kinds (i.nkinds - 1) 0) (map type_of (stack 0 (i.nkinds - 1) i.kinds)))

  pub by_no_ends : i.nkinds ≡ 0 → false ≡ ends_top (types_of i)
  unfolding types_of ends_top
  by_no_ends z = rw z

  pub by_last : (at : ℕ) → at ≡ i.nprevious - 1 → get_or i.previous at no_previous ≡ last_of i
  unfolding last_of
  by_last at ea =
      ⊎_elim
      (λ (z : i.nprevious ≡ 0). nothing_above at z ∙ (rw z))
      (λ (z : i.nprevious ≡ 0 → ⊥). rw (ea, stack-pop no_previous i.nprevious i.previous z))
      (cases_eq i.nprevious 0)

  pub by_span : (o : Option ℕ) (r : ℕ) → o ≡ slice_get (take i.nspans i.spans) (length (take i.nspans i.spans) - 1) → r ≡ unwrap_or o 0 → r ≡ span (indentation_of i)
  unfolding indentation_of span
  by_span o r eo er = let w = c.spans.within in let l = c.spans.long in top_is 0 i.nspans i.spans o r (omega arith) eo er

  pub by_full : leb 128 i.nkinds ≡ full (indentation_of i).indent_types
  unfolding indentation_of full
  by_full = rw (types_length i)

  pub by_top_level : top_of (last_of i).marks (top_span (last_of i)) ≡ previous_top_level_reserved (indentation_of i)
  unfolding last_of previous_top_level_reserved indentation_of
  by_top_level = sym (last-top-level (stack no_previous i.nprevious i.previous))

  pub by-top-level-in : (p : Previous) (v : Option SpanInfo) → p ≡ last_of i → v ≡ top_of p.marks (top_span p) → v ≡ previous_top_level_reserved (indentation_of i)
  by-top-level-in p v e h = h ∙ (rw (← e) at by_top_level)

  reserved-told : word_of (last_of i).word ≡ previous_reserved (indentation_of i)
  unfolding last_of previous_reserved indentation_of
  reserved-told = sym (last-reserved (stack no_previous i.nprevious i.previous))

  pub by-reserved-in : (p : Previous) (v : Option ℕ) → p ≡ last_of i → v ≡ word_of p.word → v ≡ previous_reserved (indentation_of i)
  by-reserved-in p v e h = h ∙ (rw (← e) at reserved-told)

  pub by_level : (folded : Bool) (u n : ℕ) → u ≡ from_bool folded → n ≡ i.level - u → (n ≡ indent_level folded (indentation_of i)) × (n ≤ 128)
  unfolding indent_level indentation_of
  by_level true u n eu en = let h = level-within i c in let k = c.counted in (omega arith, omega arith)
  by_level false u n eu en = let h = level-within i c in let k = c.counted in (omega arith, omega arith)

  pub by_level_into : (folded b : Bool) (u : ℕ) → b ≡ (not folded && not (full (indentation_of i).indent_types)) → u ≡ from_bool b
      → (i.level + u ≡ indent_level false (increase_block_level folded (indentation_of i))) × (i.level + u ≤ 128)
  unfolding indent_level indentation_of increase_block_level unfolded full types_of
  by_level_into folded b u eb eu =
      let t = unfolded-within (types_of i) in
      let h = level-within i c in
      rw (eu, eb) (go folded (full (types_of i)) (leb-false 128 (length (types_of i))))
    where
      go : (folded f : Bool) → (f ≡ false → length (types_of i) < 128)
          → (i.level + from_bool (not folded && not f) ≡ unfolded (if f then indentation_of i else record { indent_types = (if folded then FoldedBlock else Block) ∷ types_of i; top_level_span = (indentation_of i).top_level_span; previous = none_before ∷ (indentation_of i).previous }).indent_types - 0) × (i.level + from_bool (not folded && not f) ≤ 128)
      go true true k = let w = c.counted in let h = level-within i c in (omega arith, omega arith)
      go true false k = let w = c.counted in let h = level-within i c in (omega arith, omega arith)
      go false true k = let w = c.counted in let h = level-within i c in (omega arith, omega arith)
      go false false k = let t = unfolded-within (types_of i) in let w = c.counted in let h = k refl in (omega arith, omega arith)

-- ---- the loop that pops a block

-- what is left to close of d, top-level entries being gone
pub record Left (d : Indentation ℕ) (i : Code) : Type 0 where
  pub clean : Clean i
  pub same : decrease_block_level (indentation_of i) ≡ decrease_block_level d

pub left-starts : (i : Code) → Clean i → Left (indentation_of i) i
left-starts i c = record { clean = c; same = refl }

module _ (d : Indentation ℕ) (i : Code) (l : Left d i) where
  pub left_goes : (s p m : ℕ) → 0 < i.nkinds → get_or i.kinds (i.nkinds - 1) 0 ≡ TOP → s ≡ i.nspans - 1 → p ≡ i.nprevious - 1 → m ≡ i.level - 1
      → Left d (record { kinds = i.kinds; nkinds = i.nkinds - 1; spans = set i.spans s 0; nspans = s; previous = set i.previous p no_previous; nprevious = p; level = m })
  unfolding indentation_of
  left_goes s p m z h es ep em =
      let e : ends_top (types_of i) ≡ true = sym (by_ends i l.clean (λ q. omega arith)) ∙ eq-eqb _ _ h in
      let t = by-popped i l.clean e in
      rw (es, ep, em)
      (record { clean = t.clean; same = ap decrease_block_level t.is ∙ top-skips (indentation_of i) e ∙ l.same })

  pub left_none : i.nkinds ≤ 0 → ends_top (types_of i) ≡ false
  left_none h = sym (by_no_ends i l.clean (omega arith))

  pub left_block : 0 < i.nkinds → (get_or i.kinds (i.nkinds - 1) 0 ≡ TOP → ⊥) → ends_top (types_of i) ≡ false
  left_block z h = sym (by_ends i l.clean (λ q. omega arith)) ∙ ne_eqb _ _ h

  pub left_closes : (k q n f g : ℕ) → ends_top (types_of i) ≡ false → k ≡ i.nkinds - 1 → f ≡ from_bool (ltb 0 i.nkinds) → q ≡ i.nprevious - f → g ≡ from_bool (eqb (get_or i.kinds k 0) BLOCK) → n ≡ i.level - g
      → StandsClosed (decrease_block_level d)
      (record {
        folded = eqb (get_or i.kinds k 0) FOLDED_BLOCK;
        left = record { kinds = set i.kinds k 0; nkinds = k; spans = i.spans; nspans = i.nspans; previous = set i.previous q no_previous; nprevious = q; level = n };
      })
  left_closes k q n f g h ek ef eq eg en = rw l.same at (by-closes i l.clean k q n f g h ek ef eq eg en)

pub by_new : Stands no_indentation (record { kinds = replicate 128 0; nkinds = 0; spans = replicate 128 0; nspans = 0; previous = replicate 129 no_previous; nprevious = 0; level = 0 })
unfolding no_indentation indentation_of types_of tops unfolded
by_new =
    record {
      is = refl;
      clean = record {
        kinds = kept-none 0 128;
        known = every-same 0 (λ x. x ≤ 2) 128 (omega arith);
        spans = kept-none 0 128;
        paired = refl;
        previous = kept-none no_previous 129;
        told = every-same no_previous Told 129 told_none;
        fewer = omega arith;
        counted = refl;
      };
    }
