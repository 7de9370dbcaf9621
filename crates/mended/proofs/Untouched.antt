-- A sound sheet is mended into itself. Assumes nothing.
use mathlib.Core.Path.{◌≡◌, refl, ap, sym, ◌∙◌}
use mathlib.Core.List.{List, []}
use Prim.Native.Nat.{ℕ, zero, suc, ◌+◌, ◌-◌, ◌*◌, ◌%◌, ◌≤◌, ◌<◌}
use native.Mathlib.Omega.{arith}
use Rattle.std.proofs.lemmas.Bool.Decides.{nat_tests}
use lib.ListN.{get_or}
use borrow.Author.Tests.{le-leb, eq-eqb}
use Rattle.rules.specs.declared.Counts.{Counts}
use Rattle.rules.specs.declared.Place.{Place}
use Rattle.rules.specs.Words.{word_at, place_at, class_bits, key_of, token_from, counts_of, tokens_at, params_at, keeps_at, body_at}
use Rattle.rules.specs.Compacted.{word_count}
use Rattle.tokens.specs.Placed.{Inside}
use Rattle.records.specs.Sheeted.{Sheeted}
use Rattle.word_bytes.proofs.WordLaws.{Small}
use Rattle.mended.specs.Mended.{mended_mode, mended_head, mended_packed, place_word, key_word, mended_token, mended_param, mended_word, mended_byte, mended, word_changes, byte_changes, changes, done}
use Rattle.mended.proofs.Laws.{length-mended, word-mended, byte-mended, small-mended}
use Rattle.mended.proofs.Tables.{head-word, token-word, param-word, keep_word, every}
use Rattle.mended.proofs.Done.{done-is}

module _ (s : List ℕ) (c : Counts) (h : Sheeted s c) where
  -- ---- the head

  mode-same : mended_mode s ≡ word_at s 16
  unfolding mended_mode counts_of
  mode-same =
      let params : c.params ≡ word_at s 4 = ap (λ (k : Counts). k.params) h.counted in
      let most = h.mode.mode in
      let none = h.mode.none_has in grind (arith, nat_tests)

  head-same : (at : ℕ) → mended_head s at ≡ word_at s at
  unfolding mended_head
  head-same at =
      let o = h.options in
      let mode = mode-same in
      let indent = o.indent in
      let casing = o.casing in
      let inline = o.inline in
      let lines = o.lines in grind (arith, nat_tests)

  -- ---- places

  place_same : (at k : ℕ) → Inside s (body_at c) (place_at s at) → place_word s c.bytes at k ≡ word_at s (at + k)
  unfolding place_word
  place_same at k i = let p = place_at s at in rw (le-leb (p.start + p.len) c.bytes (omega (arith, h.long)))

  -- the same, k bytes into a record whose place starts j bytes into it
  part_same : (at j k : ℕ) → j ≤ k → Inside s (body_at c) (place_at s (at + j)) → place_word s c.bytes (at + j) (k - j) ≡ word_at s (at + k)
  part_same at j k l i = let o : at + j + (k - j) ≡ at + k = omega arith in rw o at (place_same (at + j) (k - j) i)

  -- ---- tokens

  key-same : (class at k : ℕ) → (class ≡ 1 → Inside s (body_at c) (place_at s at)) → (class ≡ 0 → word_at s at ≡ 0) → ((class ≡ 1 → ⊥) → word_at s (at + 4) ≡ 0) → k % 4 ≡ 0 → k < 8 → key_word class s c.bytes at k ≡ word_at s (at + k)
  unfolding key_word
  key-same class at k named absent last m l =
      let here : class ≡ 1 → place_word s c.bytes at k ≡ word_at s (at + k) = λ e. place_same at k (named e) in grind (arith, nat_tests)

  module _ (i : ℕ) (l : i < c.tokens) where
    abbrev at : ℕ
    at = tokens_at + 20 * i

    packed_same : mended_packed (word_at s at) ≡ word_at s at
    unfolding mended_packed
    packed_same =
        let w = h.words i l in
        let kind = w.kind in
        let upper = w.upper in grind (arith, nat_tests)

    name_in : class_bits (word_at s at) ≡ 1 → Inside s (body_at c) (place_at s (at + 12))
    unfolding token_from key_of place_at
    name_in n = let o : at + 12 + 4 ≡ at + 16 = omega arith in (h.tokens.within i l).name_in (place_at s (at + 12)) (rw (n, o))

    token-same : (k : ℕ) → k % 4 ≡ 0 → k < 20 → mended_token s c.bytes at k ≡ word_at s (at + k)
    unfolding mended_token token_from
    token-same k m u =
        let w = h.words i l in
        let o : at + 12 + 4 ≡ at + 16 = omega arith in
        let packed = packed_same in
        let value : 4 ≤ k → place_word s c.bytes (at + 4) (k - 4) ≡ word_at s (at + k) = λ g. part_same at 4 k g (h.tokens.within i l).value_in in
        let key : 12 ≤ k → key_word (class_bits (word_at s at)) s c.bytes (at + 12) (k - 12) ≡ word_at s (at + k) =
        λ g. let q : at + 12 + (k - 12) ≡ at + k = omega arith in
        rw q at (key-same (class_bits (word_at s at)) (at + 12) (k - 12) name_in w.absent (λ n. rw o (w.unnamed n)) (omega arith) (omega arith))
        in
        rw packed (grind (arith, nat_tests))

  -- ---- parameters

  module _ (i : ℕ) (l : i < c.params) where
    abbrev from : ℕ
    from = params_at c + 16 * i

    param-same : (k : ℕ) → k % 4 ≡ 0 → k < 16 → mended_param (mended_mode s) s c.bytes from k ≡ word_at s (from + k)
    unfolding mended_param place_at
    param-same k m u =
        let name : k < 8 → place_word s c.bytes from k ≡ word_at s (from + k) = λ g. place_same from k (h.params.within i l).name_in in
        let value : 8 ≤ k → place_word s c.bytes (from + 8) (k - 8) ≡ word_at s (from + k) = λ g. part_same from 8 k g (h.params.within i l).value_in in
        let none : (word_at s 16 ≡ 2 → ⊥) → (word_at s from ≡ 0) × (word_at s (from + 4) ≡ 0) = λ n.
        let p = (h.params.within i l).nameless n in (ap (λ (p : Place). p.start) p, ap (λ (p : Place). p.len) p)
        in
        rw mode-same (grind (arith, nat_tests))

  -- ---- every word and every byte

  word_same : (at : ℕ) → at % 4 ≡ 0 → at < body_at c → mended_word s c at ≡ word_at s at
  word_same =
      every c (λ at. mended_word s c at ≡ word_at s at) (record {
        head = λ at m l. head-word s c at l ∙ head-same at;
        token = λ i k l m u. token-word s c i k l u ∙ token-same i l k m u;
        param = λ i k l m u. param-word s c i k l u ∙ param-same i l k m u;
        keep = λ i k l m u. keep_word s c i k u ∙ place_same (keeps_at c + 8 * i) k (h.keeps.within i l).place_in;
      })

  byte-same : (x : ℕ) → x < 128 → mended_byte x ≡ x
  unfolding mended_byte
  byte-same x l = grind (arith, nat_tests)

  -- ---- so there is no change

  module _ (small : Small s) where
    no_words : (k : ℕ) → k ≤ word_count c → word_changes s (mended s c) k ≡ []
    unfolding word_changes
    no_words zero l = refl
    no_words (suc k) l =
        rw (no_words k (omega arith), word-mended s c small k (omega arith), word_same (4 * k) (omega arith) (omega arith), eq-eqb (word_at s (4 * k)) (word_at s (4 * k)) refl)

    no_bytes : (j : ℕ) → j ≤ c.bytes → byte_changes s (mended s c) (body_at c) j ≡ []
    unfolding byte_changes
    no_bytes zero l = refl
    no_bytes (suc j) l =
        let x = get_or s (body_at c + j) 0 in
        rw (no_bytes j (omega arith), byte-mended s c j (omega arith), byte-same x (h.ascii j (omega arith)), eq-eqb x x refl)

    pub no-changes : changes s (mended s c) c ≡ []
    unfolding changes
    no-changes = rw (no_words (word_count c) (omega arith), no_bytes c.bytes (omega arith))

    -- no row written gives the old sheet, and the new one
    pub stays : mended s c ≡ s
    unfolding done
    stays = sym (rw no-changes at (done-is s (mended s c) small (small-mended s c) (h.long ∙ sym (length-mended s c)) c (length-mended s c)))
