-- Laws of the sum over the tokens. Assumes nothing.
use mathlib.Core.Path.{◌≡◌, sym, ◌∙◌}
use mathlib.Core.Bool.{◌&&◌}
use mathlib.Core.List.{List}
use Prim.Native.Nat.{ℕ, ◌+◌, ◌-◌, ◌*◌, ◌≤◌, ◌<◌}
use native.Mathlib.Nat.{sub-zero}
use native.Mathlib.Omega.{arith}
use Rattle.rules.specs.declared.Counts.{Counts}
use Rattle.rules.specs.declared.Token.{Token}
use Rattle.rules.specs.declared.Turn.{Turn}
use Rattle.rules.specs.declared.FormatOptions.{FormatOptions}
use Rattle.rules.specs.Words.{token_at, body_at}
use Rattle.rules.specs.Sheet.{token_of, token_read, tokens_from, params_of, tokens_of}
use Rattle.rules.specs.Switch.{Switch, turn_of, switch_after, switched_on}
use Rattle.rules.specs.Params.{advances}
use Rattle.rules.specs.Rows.{lays_out}
use Rattle.rules.specs.Room.{room_of, counter_after, room_from, room}
use Rattle.places.proofs.Laws.{list_next, list_end}
use Rattle.switched.proofs.Count.{when-most}
use Rattle.room.specs.declared.Tally.{Tally}
use Rattle.room.specs.Tallied.{most, Tallied}

module _ (s : List ℕ) (c : Counts) (o : FormatOptions) where
  -- the tokens from i on, those before having counted sum; index is the counter
  abbrev sum_from : ℕ → ℕ → ℕ → Switch → ℕ
  sum_from sum index i w = sum + room_from o (params_of s c) w index (tokens_from s (body_at c) i (c.tokens - i))

  pub none_left : (index i : ℕ) (w : Switch) → c.tokens ≤ i → room_from o (params_of s c) w index (tokens_from s (body_at c) i (c.tokens - i)) ≡ 0
  unfolding room_from
  none_left index i w l = rw (list_end (token_of s (body_at c)) i c.tokens l)

  -- before token i: with what is left it is the whole; neither the sum nor the counter is large
  pub record Summing (sum index i : ℕ) (w : Switch) : Type 0 where
    pub few : index ≤ i
    pub small : sum ≤ most * i
    pub within : i ≤ c.tokens
    pub left : sum_from sum index i w ≡ room o (params_of s c) (tokens_of s c)

  pub sum_begins : (w : Switch) → w ≡ switched_on → Summing 0 0 0 w
  unfolding room tokens_of
  sum_begins w e = record { few = omega arith; small = omega arith; within = omega arith; left = rw (e, sub-zero c.tokens) (omega arith) }

  module _ (sum index i : ℕ) (w : Switch) (inv : Summing sum index i w) where
    -- token i is taken
    module _ (l : i < c.tokens) where
      abbrev here : Turn
      here = turn_of w (token_of s (body_at c) i).kind (token_of s (body_at c) i).value

      step : sum_from sum index i w ≡ sum_from (sum + room_of o (params_of s c) index here (token_of s (body_at c) i)) (counter_after (params_of s c) here (token_of s (body_at c) i) index) (i + 1) (switch_after here w)
      unfolding room_from
      step = rw (list_next (token_of s (body_at c)) i c.tokens l) (omega arith)

      pub sum_on : (base : ℕ) → base ≡ body_at c → (t : Token) → t ≡ token_at s i → (u : Turn) → u ≡ turn_of w (token_of s base i).kind (token_of s base i).value
          → (r : Tally) → Tallied s c o u t index r → (x : Switch) → x ≡ switch_after u w → Summing (sum + r.bytes) r.index (i + 1) x
      unfolding counter_after
      sum_on base eb t et u eu r tallied x ex =
          let f = inv.few in
          let b = inv.small in
          let m = tallied.few in
          let k = tallied.counter in
          let d = when-most (lays_out u t.kind && advances (params_of s c) (token_read s (body_at c) t).key) index in
          record {
            few = omega arith;
            small = omega arith;
            within = omega arith;
            left = rw (tallied.bytes, tallied.counter, ex, eu, et, eb) (sym step ∙ inv.left);
          }
