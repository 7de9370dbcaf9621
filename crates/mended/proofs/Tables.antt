-- The words of a mended sheet by their tables: of the head, of token i, of parameter i, of keep word i. Assumes nothing.
use mathlib.Core.Bool.{Bool, true, false}
use mathlib.Core.Path.{◌≡◌, refl, ◌∙◌}
use mathlib.Core.List.{List}
use Prim.Native.Nat.{ℕ, ◌+◌, ◌-◌, ◌*◌, ◌/◌, ◌%◌, ◌<◌}
use native.Mathlib.Omega.{arith}
use lib.Dec.{ltb}
use borrow.Author.Tests.{lt-ltb, le-ltb, ltb-true, ltb-false}
use Rattle.rules.specs.declared.Counts.{Counts}
use Rattle.rules.specs.Words.{word_at, tokens_at, params_at, keeps_at, body_at}
use Rattle.word_bytes.proofs.WordLaws.{Small}
use Rattle.mended.specs.Mended.{mended_mode, mended_head, place_word, mended_token, mended_param, mended_word, mended}
use Rattle.mended.proofs.Laws.{word-mended-at}

-- ---- what a word becomes

module _ (s : List ℕ) (c : Counts) where
  pub head-word : (at : ℕ) → at < 48 → mended_word s c at ≡ mended_head s at
  unfolding mended_word
  head-word at l = rw (lt-ltb at 48 l)

  module _ (i k : ℕ) where
    pub token-word : i < c.tokens → k < 20 → mended_word s c (tokens_at + 20 * i + k) ≡ mended_token s c.bytes (tokens_at + 20 * i) k
    unfolding mended_word
    token-word h l =
        let at = tokens_at + 20 * i + k in
        let m : (at - 48) % 20 ≡ k = omega arith in
        let o : at - k ≡ tokens_at + 20 * i = omega arith in
        rw (le-ltb at 48 (omega arith), lt-ltb at (params_at c) (omega arith), m, o)

    pub param-word : i < c.params → k < 16 → mended_word s c (params_at c + 16 * i + k) ≡ mended_param (mended_mode s) s c.bytes (params_at c + 16 * i) k
    unfolding mended_word
    param-word h l =
        let at = params_at c + 16 * i + k in
        let m : (at - params_at c) % 16 ≡ k = omega arith in
        let o : at - k ≡ params_at c + 16 * i = omega arith in
        rw (le-ltb at 48 (omega arith), le-ltb at (params_at c) (omega arith), lt-ltb at (keeps_at c) (omega arith), m, o)

    pub keep_word : k < 8 → mended_word s c (keeps_at c + 8 * i + k) ≡ place_word s c.bytes (keeps_at c + 8 * i) k
    unfolding mended_word
    keep_word l =
        let at = keeps_at c + 8 * i + k in
        let m : (at - keeps_at c) % 8 ≡ k = omega arith in
        let o : at - k ≡ keeps_at c + 8 * i = omega arith in
        rw (le-ltb at 48 (omega arith), le-ltb at (params_at c) (omega arith), le-ltb at (keeps_at c) (omega arith), m, o)

-- ---- what holds of each word of each table holds of every word

pub record Each (c : Counts) (P : ℕ → Type 0) : Type 0 where
  pub head : (at : ℕ) → at % 4 ≡ 0 → at < 48 → P at
  pub token : (i k : ℕ) → i < c.tokens → k % 4 ≡ 0 → k < 20 → P (tokens_at + 20 * i + k)
  pub param : (i k : ℕ) → i < c.params → k % 4 ≡ 0 → k < 16 → P (params_at c + 16 * i + k)
  pub keep : (i k : ℕ) → i < c.keeps → k % 4 ≡ 0 → k < 8 → P (keeps_at c + 8 * i + k)

pub every : (c : Counts) (P : ℕ → Type 0) → Each c P → (at : ℕ) → at % 4 ≡ 0 → at < body_at c → P at
every c P e at m u = by-test (ltb at 48) (ltb at (params_at c)) (ltb at (keeps_at c)) refl refl refl
  where
    by-test : (p q r : Bool) → ltb at 48 ≡ p → ltb at (params_at c) ≡ q → ltb at (keeps_at c) ≡ r → P at
    by-test true q r ep eq er = e.head at m (ltb-true at 48 ep)
    by-test false true r ep eq er =
        let l = ltb-false at 48 ep in
        let h = ltb-true at (params_at c) eq in
        let o : tokens_at + 20 * ((at - 48) / 20) + (at - 48) % 20 ≡ at = omega arith in
        rw o at (e.token ((at - 48) / 20) ((at - 48) % 20) (omega arith) (omega arith) (omega arith))
    by-test false false true ep eq er =
        let l = ltb-false at (params_at c) eq in
        let h = ltb-true at (keeps_at c) er in
        let o : params_at c + 16 * ((at - params_at c) / 16) + (at - params_at c) % 16 ≡ at = omega arith in
        rw o at (e.param ((at - params_at c) / 16) ((at - params_at c) % 16) (omega arith) (omega arith) (omega arith))
    by-test false false false ep eq er =
        let l = ltb-false at (keeps_at c) er in
        let o : keeps_at c + 8 * ((at - keeps_at c) / 8) + (at - keeps_at c) % 8 ≡ at = omega arith in
        rw o at (e.keep ((at - keeps_at c) / 8) ((at - keeps_at c) % 8) (omega arith) (omega arith) (omega arith))

-- ---- the words of the new sheet

module _ (s : List ℕ) (small : Small s) (c : Counts) where
  pub new-head : (at : ℕ) → at % 4 ≡ 0 → at < 48 → word_at (mended s c) at ≡ mended_head s at
  new-head at m l = word-mended-at s c small at m (omega arith) ∙ head-word s c at l

  module _ (i k : ℕ) (m : k % 4 ≡ 0) where
    pub new-token : i < c.tokens → k < 20 → word_at (mended s c) (tokens_at + 20 * i + k) ≡ mended_token s c.bytes (tokens_at + 20 * i) k
    new-token h l = word-mended-at s c small (tokens_at + 20 * i + k) (omega arith) (omega arith) ∙ token-word s c i k h l

    pub new-param : i < c.params → k < 16 → word_at (mended s c) (params_at c + 16 * i + k) ≡ mended_param (mended_mode s) s c.bytes (params_at c + 16 * i) k
    new-param h l = word-mended-at s c small (params_at c + 16 * i + k) (omega arith) (omega arith) ∙ param-word s c i k h l

    pub new-keep : i < c.keeps → k < 8 → word_at (mended s c) (keeps_at c + 8 * i + k) ≡ place_word s c.bytes (keeps_at c + 8 * i) k
    new-keep h l = word-mended-at s c small (keeps_at c + 8 * i + k) (omega arith) (omega arith) ∙ keep_word s c i k l
