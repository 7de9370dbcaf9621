-- What a test that found nothing amiss says of the numbers it tested.
use mathlib.Core.Bool.{Bool, true, false, ◌&&◌}
use mathlib.Core.Path.{◌≡◌, refl}
use mathlib.Core.List.{List}
use Prim.Native.Nat.{ℕ, zero, suc, ◌+◌, ◌*◌, ◌≤◌, ◌<◌}
use native.Mathlib.Omega.{arith}
use native.Mathlib.Nat.{mul-suc}
use lib.Dec.{eqb, leb, ltb}
use lib.ListN.{length, get_or}
use borrow.Author.Tests.{leb-true, ltb-true, eqb-true, eq-eqb, ne_eqb}
use Rattle.rules.specs.declared.Counts.{Counts}
use Rattle.rules.specs.declared.Place.{Place}
use Rattle.rules.specs.declared.PlaceholderKind.TheVariants as key
use Rattle.std.specs.Prelude.{if◌then◌else◌, None, Option, Some, ℕ}
use Rattle.rules.specs.Words.{word_at, place_at, counts_of, tokens_at, kind_bits, class_bits, upper_bits, key_of, token_from}
use Rattle.rules.specs.Checks.{demanded, or_later, first_of, counts_fit, mode_fits, head_words, packed_fits, key_afits, key_bfits, token_words, name_fits, param_words, in_body, key_in_body, token_places, param_places, keep_places, body_byte}
use Rattle.tokens.specs.Placed.{Inside, Within}
use Rattle.records.specs.Sheeted.{Few, OptionWords, ModeWord, TokenWords}

-- ---- tests

pub and_left : (a b : Bool) → a && b ≡ true → a ≡ true
and_left true b h = refl
and_left false b h = h

pub and_right : (a b : Bool) → a && b ≡ true → b ≡ true
and_right true b h = h
and_right false b h = cc

-- a choice that holds, at a number and at any other
if-at : (x k : ℕ) (a b : Bool) → (if eqb x k then a else b) ≡ true → x ≡ k → a ≡ true
if-at x k a b h e = rw (eq-eqb x k e) at h

if-not : (x k : ℕ) (a b : Bool) → (if eqb x k then a else b) ≡ true → (x ≡ k → ⊥) → b ≡ true
if-not x k a b h e = rw (ne_eqb x k e) at h

-- ---- the first of several offences

pub demanded-holds : (b : Bool) (at : ℕ) (later : Option ℕ) → demanded b at later ≡ None → (b ≡ true) × (later ≡ None)
demanded-holds true at later h = (refl, h)
demanded-holds false at later h = cc

-- two demands in turn
both_hold : (a b : Bool) (p q : ℕ) (later : Option ℕ) → demanded a p (demanded b q later) ≡ None → ((a ≡ true) × (b ≡ true)) × (later ≡ None)
both_hold a b p q later h =
    let one = demanded-holds a p (demanded b q later) h in
    let two = demanded-holds b q later one.1 in
    ((one.0, two.0), two.1)

pub or_neither : (o later : Option ℕ) → or_later o later ≡ None → (o ≡ None) × (later ≡ None)
or_neither (Some p) later h = cc
or_neither None later h = (refl, h)

pub next : (at size i : ℕ) → at + size + size * i ≡ at + size * suc i
next at size i = omega (arith, mul-suc size i)

-- no record of k offends
pub none_of : (f : ℕ → Option ℕ) (size at k : ℕ) → first_of f size at k ≡ None → (i : ℕ) → i < k → f (at + size * i) ≡ None
unfolding first_of
none_of f size at zero h i l = absurd (omega arith)
none_of f size at (suc k) h zero l = let e : at + size * 0 ≡ at = omega arith in rw e (or_neither (f at) _ h).0
none_of f size at (suc k) h (suc i) l =
    let r = none_of f size (at + size) k (or_neither (f at) (first_of f size (at + size) k) h).1 i (omega arith) in
    rw (next at size i) at r

-- nor does the first of them, where none does
pub none_first : (f : ℕ → Option ℕ) (size at k : ℕ) → ((i : ℕ) → i < k → f (at + size * i) ≡ None) → first_of f size at k ≡ None
unfolding first_of
none_first f size at zero h = refl
none_first f size at (suc k) h =
    let e : at + size * 0 ≡ at = omega arith in
    let here : f at ≡ None = rw e at (h 0 (omega arith)) in
    rw here (none_first f size (at + size) k (λ i l. rw (next at size i) (h (suc i) (omega arith))))

-- ---- check 1

pub fit-few : (c : Counts) → counts_fit c ≡ true → Few c
fit-few c h =
    let b = leb c.bytes 32768 in
    let k = leb c.keeps 64 in
    let p = leb c.params 256 in
    let n = leb c.tokens 1024 in
    let hp = and_right n (p && (k && b)) h in
    let hk = and_right p (k && b) hp in
    record {
      tokens = leb-true _ _ (and_left n (p && (k && b)) h);
      params = leb-true _ _ (and_left p (k && b) hp);
      keeps = leb-true _ _ (and_left k b hk);
      bytes = leb-true _ _ (and_right k b hk);
    }

-- ---- check 2

mode-most : (b : Bool) (m p : ℕ) → eqb m 0 ≡ b → (if b then eqb p 0 else leb m 2) ≡ true → m ≤ 2
mode-most true m p e h = omega (arith, eqb-true m 0 e)
mode-most false m p e h = leb-true m 2 h

module _ (s : List ℕ) where
  module _ (h : head_words s ≡ None) where
    head-holds : (((mode_fits (word_at s 16) (word_at s 4) ≡ true) × (leb (word_at s 20) 256 ≡ true)) × ((leb (word_at s 24) 2 ≡ true) × (leb (word_at s 28) 2 ≡ true))) × (leb (word_at s 32) 255 ≡ true)
    unfolding head_words
    head-holds =
        let casing = leb (word_at s 24) 2 in
        let inline = leb (word_at s 28) 2 in
        let lines = leb (word_at s 32) 255 in
        let one =
        both_hold (mode_fits (word_at s 16) (word_at s 4)) (leb (word_at s 20) 256) 16 20
        (demanded casing 24 (demanded inline 28 (demanded lines 32 None))) h in
        let two = both_hold casing inline 24 28 (demanded lines 32 None) one.1 in
        ((one.0, two.0), (demanded-holds lines 32 None two.1).0)

    pub head-options : 48 ≤ length s → OptionWords s
    head-options l =
        let t = head-holds in
        record {
          head_in = l;
          indent = leb-true _ _ t.0.0.1;
          casing = leb-true _ _ t.0.1.0;
          inline = leb-true _ _ t.0.1.1;
          lines = leb-true _ _ t.1;
        }

    pub head-mode : ModeWord s (counts_of s)
    unfolding counts_of
    head-mode =
        let t = head-holds.0.0.0 in
        record {
          mode = mode-most (eqb (word_at s 16) 0) (word_at s 16) (word_at s 4) refl t;
          none_has = λ z. eqb-true _ _ (if-at (word_at s 16) 0 (eqb (word_at s 4) 0) (leb (word_at s 16) 2) t z);
        }

  pub token-words : (at : ℕ) → token_words s at ≡ None → TokenWords s at
  unfolding token_words
  token-words at h =
      let w = word_at s at in
      let a = word_at s (at + 12) in
      let b = word_at s (at + 16) in
      let one = both_hold (packed_fits w) (key_afits (class_bits w) a) at (at + 12) (demanded (key_bfits (class_bits w) b) (at + 16) None) h in
      let two = demanded-holds (key_bfits (class_bits w) b) (at + 16) None one.1 in
      let packed = one.0.0 in
      record {
        kind = leb-true _ _ (and_left (leb (kind_bits w) 16) (eqb (upper_bits w) 0) packed);
        upper = eqb-true _ _ (and_right (leb (kind_bits w) 16) (eqb (upper_bits w) 0) packed);
        absent = λ z. eqb-true _ _ (if-at (class_bits w) 0 (eqb a 0) true one.0.1 z);
        unnamed = λ n. eqb-true _ _ (if-not (class_bits w) 1 true (eqb b 0) two.0 n);
      }

  pub nameless : (at : ℕ) → param_words s at ≡ None → (word_at s 16 ≡ 2 → ⊥) → place_at s at ≡ record { start = 0; len = 0 }
  unfolding param_words place_at
  nameless at h n =
      let a = word_at s at in
      let b = word_at s (at + 4) in
      let t = (both_hold (name_fits (word_at s 16) a) (name_fits (word_at s 16) b) at (at + 4) None h).0 in
      let name : (x : ℕ) → name_fits (word_at s 16) x ≡ true → x ≡ 0 = λ x g. eqb-true x 0 (if-not (word_at s 16) 2 true (eqb x 0) g n) in
      rw (name a t.0, name b t.1)

-- ---- check 3

named-key : (class a b : ℕ) (p : Place) → key_of class a b ≡ Some (key.Named p) → (class ≡ 1) × (record { start = a; len = b } ≡ p)
unfolding key_of
named-key zero a b p h = cc
named-key (suc zero) a b p h = (refl, cc)
named-key (suc (suc zero)) a b p h = cc
named-key (suc (suc (suc n))) a b p h = cc

module _ (s : List ℕ) (base bytes : ℕ) (long : length s ≡ base + bytes) where
  inside : (p : Place) → in_body p bytes ≡ true → Inside s base p
  inside p h = record { inside = omega (arith, leb-true (p.start + p.len) bytes h) }

  pub token-within : (i : ℕ) → tokens_at + 20 * i + 20 ≤ length s → token_places s bytes (tokens_at + 20 * i) ≡ None → Within s base i
  unfolding token_places token_from place_at
  token-within i l h =
      let at = tokens_at + 20 * i in
      let class = class_bits (word_at s at) in
      let k = place_at s (at + 12) in
      let t = (both_hold (in_body (place_at s (at + 4)) bytes) (key_in_body class k bytes) (at + 4) (at + 12) None h).0 in
      let e : at + 12 + 4 ≡ at + 16 = omega arith in
      record {
        record_in = l;
        value_in = inside (place_at s (at + 4)) t.0;
        name_in = λ p g.
            let n = named-key class (word_at s (at + 12)) (word_at s (at + 16)) p g in
            let q : Inside s base k = inside k (if-at class 1 (in_body k bytes) true t.1 n.0) in
            rw (← n.1, ← e) q;
      }

  pub keep-inside : (at : ℕ) → keep_places s bytes at ≡ None → Inside s base (place_at s at)
  unfolding keep_places
  keep-inside at h = inside (place_at s at) (demanded-holds (in_body (place_at s at) bytes) at None h).0

  pub param-inside : (at : ℕ) → param_places s bytes at ≡ None → Inside s base (place_at s at) × Inside s base (place_at s (at + 8))
  unfolding param_places
  param-inside at h =
      let t = (both_hold (in_body (place_at s at) bytes) (in_body (place_at s (at + 8)) bytes) at (at + 8) None h).0 in
      (inside (place_at s at) t.0, inside (place_at s (at + 8)) t.1)

-- ---- check 4

-- k bytes from a byte offset are below 128
abbrev pub Ascii : List ℕ → ℕ → ℕ → Type 0
Ascii s from k = (i : ℕ) → i < k → get_or s (from + i) 0 < 128

ascii-byte : (s : List ℕ) (at : ℕ) → body_byte s at ≡ None → get_or s at 0 < 128
unfolding body_byte
ascii-byte s at h = ltb-true _ _ (demanded-holds (ltb (get_or s at 0) 128) at None h).0

pub none-ascii : (s : List ℕ) (from k : ℕ) → first_of (body_byte s) 1 from k ≡ None → Ascii s from k
none-ascii s from k h i l =
    let e : from + 1 * i ≡ from + i = omega arith in
    rw e at (ascii-byte s (from + 1 * i) (none_of (body_byte s) 1 from k h i l))
