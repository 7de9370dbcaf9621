-- The counts of the tokens that have a row and of all placeholders, a token at a time; the first is at most the second, and that at most one for each token. Assumes nothing.
use mathlib.Core.Path.{◌≡◌, refl, sym}
use mathlib.Core.Bool.{Bool, true, false}
use mathlib.Core.List.{List, [], ◌∷◌}
use Prim.Native.Nat.{ℕ, zero, suc, ◌+◌, ◌-◌, ◌≤◌, ◌<◌}
use native.Mathlib.Nat.{sub-zero}
use native.Mathlib.Omega.{arith}
use Rattle.rules.specs.declared.Counts.{Counts}
use Rattle.rules.specs.declared.TokenKind.{TokenKind}
use Rattle.rules.specs.declared.TokenKind.TheVariants.{Placeholder}
use Rattle.rules.specs.declared.Turn.{Turn}
use Rattle.rules.specs.declared.Turn.TheVariants as turn
use Rattle.rules.specs.Base.{when}
use Rattle.rules.specs.Tokens.{Token, is}
use Rattle.rules.specs.Words.{body_at}
use Rattle.rules.specs.Sheet.{list_of, token_of, tokens_from, tokens_of}
use Rattle.rules.specs.Switch.{Switch, turn_of, switch_after, switched_on}
use Rattle.rules.specs.Rows.{lays_out, placeholders_from, placeholders}
use Rattle.around.proofs.Lists.{tokens-step, tokens_none}
use Rattle.switched.specs.Count.{most_placeholders}

-- ---- one more

pub when-most : (b : Bool) (n : ℕ) → when b suc n ≤ suc n
unfolding when
when-most true n = omega arith
when-most false n = omega arith

when-add : (b : Bool) (m n : ℕ) → when b suc m + n ≡ m + when b suc n
unfolding when
when-add true m n = omega arith
when-add false m n = refl

when-least : (b : Bool) (n : ℕ) → n ≤ when b suc n
unfolding when
when-least true n = omega arith
when-least false n = omega arith

when-keeps : (b : Bool) (m n : ℕ) → m ≤ n → when b suc m ≤ when b suc n
unfolding when
when-keeps true m n h = omega arith
when-keeps false m n h = h

-- ---- all placeholders, whatever the switch says

-- at most one for each token

most-from : (f : ℕ → Token) (i k : ℕ) → most_placeholders (list_of f i k) ≤ k
unfolding most_placeholders list_of
most-from f i zero = omega arith
most-from f i (suc k) =
    let m = when-most (is (f i).kind Placeholder) (most_placeholders (list_of f (suc i) k)) in
    let l = most-from f (suc i) k in
    omega arith

pub few-most : (s : List ℕ) (c : Counts) → most_placeholders (tokens_of s c) ≤ c.tokens
unfolding tokens_of
few-most s c = most-from (token_of s (body_at c)) 0 c.tokens

-- at least those that are laid out

laid-turn : (u : Turn) (k : TokenKind) (m n : ℕ) → m ≤ n → when (lays_out u k) suc m ≤ when (is k Placeholder) suc n
unfolding lays_out when
laid-turn turn.Dropped k m n h = let l = when-least (is k Placeholder) n in omega arith
laid-turn (turn.Switches off) k m n h = let l = when-least (is k Placeholder) n in omega arith
laid-turn turn.LaidOut k m n h = when-keeps (is k Placeholder) m n h
laid-turn turn.Copied k m n h = let l = when-least (is k Placeholder) n in omega arith

laid_from : (w : Switch) (ts : List Token) → placeholders_from w ts ≤ most_placeholders ts
unfolding placeholders_from most_placeholders
laid_from w [] = omega arith
laid_from w (t ∷ ts) =
    let u = turn_of w t.kind t.value in
    laid-turn u t.kind (placeholders_from (switch_after u w) ts) (most_placeholders ts) (laid_from (switch_after u w) ts)

pub laid-most : (ts : List Token) → placeholders ts ≤ most_placeholders ts
unfolding placeholders
laid-most ts = laid_from switched_on ts

pub few-placeholders : (s : List ℕ) (c : Counts) → placeholders (tokens_of s c) ≤ c.tokens
few-placeholders s c =
    let l = laid-most (tokens_of s c) in
    let m = few-most s c in
    omega arith

-- ---- the tokens from i of n on, those before having given count

module _ (s : List ℕ) (base n : ℕ) where
  abbrev pub count_from : ℕ → ℕ → Switch → ℕ
  count_from count i w = count + placeholders_from w (tokens_from s base i (n - i))

  pub count_turn : (count i : ℕ) (w : Switch) → i < n
      → count_from count i w
      ≡ count_from (when (lays_out (turn_of w (token_of s base i).kind (token_of s base i).value) (token_of s base i).kind) suc count) (i + 1) (switch_after (turn_of w (token_of s base i).kind (token_of s base i).value) w)
  unfolding placeholders_from
  count_turn count i w h = rw (tokens-step s base i n h) (sym (when-add (lays_out (turn_of w (token_of s base i).kind (token_of s base i).value) (token_of s base i).kind) count (placeholders_from (switch_after (turn_of w (token_of s base i).kind (token_of s base i).value) w) (tokens_from s base (i + 1) (n - (i + 1))))))

  pub count_end : (i : ℕ) (w : Switch) → n ≤ i → placeholders_from w (tokens_from s base i (n - i)) ≡ 0
  unfolding placeholders_from
  count_end i w h = rw (tokens_none s base i n h)

  -- the same of all placeholders

  abbrev pub most_from : ℕ → ℕ → ℕ
  most_from count i = count + most_placeholders (tokens_from s base i (n - i))

  pub most_turn : (count i : ℕ) → i < n → most_from count i ≡ most_from (when (is (token_of s base i).kind Placeholder) suc count) (i + 1)
  unfolding most_placeholders
  most_turn count i h = rw (tokens-step s base i n h) (sym (when-add (is (token_of s base i).kind Placeholder) count (most_placeholders (tokens_from s base (i + 1) (n - (i + 1))))))

  pub most_end : (i : ℕ) → n ≤ i → most_placeholders (tokens_from s base i (n - i)) ≡ 0
  unfolding most_placeholders
  most_end i h = rw (tokens_none s base i n h)

pub count-all : (s : List ℕ) (c : Counts) → count_from s (body_at c) c.tokens 0 0 switched_on ≡ placeholders (tokens_of s c)
unfolding placeholders tokens_of
count-all s c = rw (sub-zero c.tokens) (omega arith)

pub most_all : (s : List ℕ) (c : Counts) → most_from s (body_at c) c.tokens 0 0 ≡ most_placeholders (tokens_of s c)
unfolding tokens_of
most_all s c = rw (sub-zero c.tokens) (omega arith)

pub ruleset counts = (count-all, count_turn, count_end, when-most)

pub ruleset counts_all = (most_all, most_turn, most_end, when-most)
