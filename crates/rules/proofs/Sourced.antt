-- Wish 2: what is shown at each placeholder comes from the entry in its row, or from the token itself. Assumes nothing.
use mathlib.Core.Path.{◌≡◌, refl}
use mathlib.Core.Bool.{Bool, true, false, false≢true}
use Rattle.std.specs.Prelude.{Option, None, Some, unwrap_or}
use mathlib.Core.List.{List, [], ◌∷◌}
use Prim.Native.Nat.{ℕ, suc, ◌+◌, ◌≤◌}
use native.Mathlib.Nat.{zero-add, add-zero}
use native.Mathlib.Omega.{arith}
use lib.ListN.{length}
use Rattle.rules.specs.declared.TokenKind.{TokenKind}
use Rattle.rules.specs.declared.TokenKind.TheVariants as kind
use Rattle.rules.specs.declared.Turn.{Turn}
use Rattle.rules.specs.declared.Turn.TheVariants as turn
use Rattle.rules.specs.Base.{when, nth?}
use Rattle.rules.specs.Tokens.{Token, is}
use Rattle.rules.specs.Sheet.{QueryParams}
use Rattle.rules.specs.Params.{source, value_from}
use Rattle.rules.specs.Switch.{Switch, turn_of, switch_after, switched_on}
use Rattle.rules.specs.Rows.{lays_out}
use Rattle.rules.specs.Shown.{Shown, showing, shown_from, shown, From, AllSourced}
use Rattle.rules.proofs.Own.{Found, found-source}

from_found : (ps : QueryParams) (t : Token) (o : Option ℕ) → Found ps o → From ps t o (unwrap_or (value_from ps o) t.value)
unfolding value_from
from_found ps t None f = refl
from_found ps t (Some n) f = rw f.1

-- only a placeholder is laid out so
lays-placeholder : (t : Turn) (k : TokenKind) → lays_out t k ≡ true → is k kind.Placeholder ≡ true
unfolding lays_out
lays-placeholder turn.Dropped k e = absurd (false≢true e)
lays-placeholder (turn.Switches off) k e = absurd (false≢true e)
lays-placeholder turn.LaidOut k e = e
lays-placeholder turn.Copied k e = absurd (false≢true e)

module _ (ps : QueryParams) (ts : List Token) where
  sourced-within : (m n : ℕ) (xs : List Shown) → m ≤ n → AllSourced ps ts m xs → AllSourced ps ts n xs
  sourced-within m n [] h p = tt
  sourced-within m n (x ∷ xs) h p = let l = p.0 in (omega arith, p.1, p.2)

  sourced-here : (n i : ℕ) (t : Token) (f : Bool) → nth? ts n ≡ Some t → (f ≡ true → is t.kind kind.Placeholder ≡ true) → (xs : List Shown) → AllSourced ps ts n xs
      → AllSourced ps ts (suc n) (when f (λ ys. showing ps n i t ∷ ys) xs)
  unfolding when showing
  sourced-here n i t true h k xs p = (omega arith, record { token = t; sent = h; placeholder = k refl; from = from_found ps t (source ps t.key i) (found-source ps t.key i) }, p)
  sourced-here n i t false h k xs p = sourced-within n (suc n) xs (omega arith) p

  -- after: the tokens from the n-th on
  sourced-from : (n i : ℕ) (w : Switch) (after : List Token) (xs : List Shown) → ((j : ℕ) → nth? ts (n + j) ≡ nth? after j) → AllSourced ps ts n xs → AllSourced ps ts (n + length after) (shown_from ps n i w after xs)
  unfolding shown_from
  sourced-from n i w [] xs h p = rw (add-zero n) p
  sourced-from n i w (t ∷ after) xs h p =
      let turn : Turn = turn_of w t.kind t.value in
      let here : nth? ts n ≡ Some t = rw (add-zero n) at (h 0) in
      let later : (j : ℕ) → nth? ts (suc n + j) ≡ nth? after j = λ j. let m : suc n + j ≡ n + suc j = omega arith in rw m (h (suc j)) in
      let m : n + suc (length after) ≡ suc n + length after = omega arith in
      rw m (sourced-from (suc n) _ (switch_after turn w) after _ later (sourced-here n i t (lays_out turn t.kind) here (lays-placeholder turn t.kind) xs p))

-- each is a placeholder of the tokens, in their order; what is shown is the value of the entry in its row, or with none the token's own
pub shown-sourced : (ps : QueryParams) (ts : List Token) → AllSourced ps ts (length ts) (shown ps ts)
unfolding shown
shown-sourced ps ts = rw (zero-add (length ts)) at (sourced-from ps ts 0 0 switched_on ts [] (λ j. rw (zero-add j)) tt)
