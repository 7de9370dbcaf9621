-- The neighbours of a token, and what the rules ask of them.
use mathlib.Core.Bool.{true, false, not, ◌&&◌, and-false}
use Rattle.std.specs.Prelude.{None, Some}
use mathlib.Core.Path.{◌≡◌, refl, ap, ◌∙◌}
use mathlib.Core.List.{List, [], ◌∷◌, tail}
use Prim.Native.Nat.{ℕ, zero, suc, ◌+◌, ◌-◌, ◌≤◌, ◌<◌}
use native.Mathlib.Omega.{arith}
use lib.Dec.{eqb}
use Rattle.rules.specs.declared.TokenKind.TheVariants as kind
use Rattle.rules.specs.Bytes.{bytes}
use Rattle.rules.specs.Base.{same, any_of, first, head?, holds}
use Rattle.rules.specs.Tokens.{Token, is}
use Rattle.rules.specs.Words.{token_at}
use Rattle.rules.specs.Sheet.{list_of, token_of, tokens_from, tokens_before, here_at}
use Rattle.rules.specs.Formatter.{kind_is, not_white, previous_token, previous_non_whitespace_token, next_non_whitespace_token, white_then_no_operator, after_line_feed, two_after_comma}
use Rattle.around.proofs.Lists.{tokens-step, tokens_none, before-none, before_back}
use Rattle.around.specs.Seen.{seen_of}

-- ---- the first of a list that is not white, k being the kind of its first token

module _ (t : Token) (ts : List Token) where
  first_here : is t.kind kind.Whitespace ≡ false → Some t.kind ≡ seen_of (first not_white (t ∷ ts))
  unfolding not_white
  first_here h = rw h

  first_on : is t.kind kind.Whitespace ≡ true → first not_white ts ≡ first not_white (t ∷ ts)
  unfolding not_white
  first_on h = rw h

module _ (s : List ℕ) (base n i : ℕ) where
  -- ---- the token before

  pub no_previous : i ≡ 0 → previous_token (here_at s base n i) ≡ None
  unfolding previous_token
  no_previous z = rw (z, before-none s base)

  pub previous : 0 < i → previous_token (here_at s base n i) ≡ Some (token_of s base (i - 1))
  unfolding previous_token
  previous p = rw (before_back s base i p)

  -- ---- the nearest before that is not white: what is left to look at gives the same

  abbrev pub Back : ℕ → Type 0
  Back j = first not_white (tokens_before s base j) ≡ first not_white (tokens_before s base i)

  module _ (j : ℕ) (b : Back j) where
    pub nearest : 0 < j → is (token_at s (j - 1)).kind kind.Whitespace ≡ false → Some (token_at s (j - 1)).kind ≡ seen_of (previous_non_whitespace_token (here_at s base n i))
    unfolding previous_non_whitespace_token
    nearest p h = first_here (token_of s base (j - 1)) (tokens_before s base (j - 1)) h ∙ ap seen_of (rw (before_back s base j p) at b)

    pub white_back : 0 < j → is (token_at s (j - 1)).kind kind.Whitespace ≡ true → Back (j - 1)
    white_back p h = first_on (token_of s base (j - 1)) (tokens_before s base (j - 1)) h ∙ (rw (before_back s base j p) at b)

    pub none_before : j ≡ 0 → None ≡ seen_of (previous_non_whitespace_token (here_at s base n i))
    unfolding previous_non_whitespace_token
    none_before z = ap seen_of (rw (z, before-none s base) at b)

  -- ---- and after

  abbrev pub Ahead : ℕ → Type 0
  Ahead j = first not_white (tokens_from s base j (n - j)) ≡ first not_white (tokens_from s base (i + 1) (n - (i + 1)))

  module _ (j : ℕ) (a : Ahead j) where
    pub next : j < n → is (token_at s j).kind kind.Whitespace ≡ false → Some (token_at s j).kind ≡ seen_of (next_non_whitespace_token (here_at s base n i))
    unfolding next_non_whitespace_token
    next l h = first_here (token_of s base j) (tokens_from s base (j + 1) (n - (j + 1))) h ∙ ap seen_of (rw (tokens-step s base j n l) at a)

    pub white_on : j < n → is (token_at s j).kind kind.Whitespace ≡ true → Ahead (j + 1)
    white_on l h = first_on (token_of s base j) (tokens_from s base (j + 1) (n - (j + 1))) h ∙ (rw (tokens-step s base j n l) at a)

    pub none_after : n ≤ j → None ≡ seen_of (next_non_whitespace_token (here_at s base n i))
    unfolding next_non_whitespace_token
    none_after l = ap seen_of (rw (tokens_none s base j n l) at a)

  -- ---- the value before, and the one before that

  pub no_feed_before : i ≡ 0 → after_line_feed (here_at s base n i) ≡ false
  unfolding after_line_feed
  no_feed_before z = rw (no_previous z)

  pub feed_before : 0 < i → after_line_feed (here_at s base n i) ≡ any_of (eqb 10) (token_of s base (i - 1)).value
  unfolding after_line_feed
  feed_before p = rw (previous p)

  pub no_two : i < 2 → two_after_comma (here_at s base n i) ≡ false
  unfolding two_after_comma tokens_before
  no_two h = two i h
    where
      two : (j : ℕ) → j < 2 → holds (λ t. same t.value (bytes ",")) (head? (tail (tokens_before s base j))) ≡ false
      two zero l = refl
      two (suc zero) l = refl
      two (suc (suc j)) l = absurd (omega arith)

  pub comma_before : 2 ≤ i → two_after_comma (here_at s base n i) ≡ same (token_of s base (i - 2)).value (44 ∷ [])
  unfolding two_after_comma
  comma_before h =
      let p : 0 < i = omega arith in
      let q : 0 < i - 1 = omega arith in
      let d : i - 1 - 1 ≡ i - 2 = omega arith in
      rw (before_back s base i p, before_back s base (i - 1) q, d)

  -- ---- the two after

  after_two : i + 2 < n → (here_at s base n i).after ≡ token_of s base (i + 1) ∷ token_of s base (i + 2) ∷ tokens_from s base (i + 2 + 1) (n - (i + 2 + 1))
  after_two h =
      let l : i + 1 < n = omega arith in
      let d : i + 1 + 1 ≡ i + 2 = omega arith in
      tokens-step s base (i + 1) n l ∙ rw (d, tokens-step s base (i + 2) n h)

  pub few_after : n - i ≤ 2 → white_then_no_operator (here_at s base n i) ≡ false
  unfolding white_then_no_operator list_of
  few_after h = few (n - (i + 1)) (omega arith)
    where
      few : (k : ℕ) → k ≤ 1 → (holds (kind_is kind.Whitespace) (head? (tokens_from s base (i + 1) k)) && holds (λ t. not (kind_is kind.Operator t)) (head? (tail (tokens_from s base (i + 1) k)))) ≡ false
      few zero l = refl
      few (suc zero) l = and-false (kind_is kind.Whitespace (token_of s base (i + 1)))
      few (suc (suc k)) l = absurd (omega arith)

  pub white_after : 2 < n - i → white_then_no_operator (here_at s base n i) ≡ (is (token_at s (i + 1)).kind kind.Whitespace && not (is (token_at s (i + 2)).kind kind.Operator))
  unfolding white_then_no_operator kind_is
  white_after l = let m : i + 2 < n = omega arith in rw (after_two m)

pub ruleset backward = (nearest, white_back, none_before)

pub ruleset onward = (next, white_on, none_after)
