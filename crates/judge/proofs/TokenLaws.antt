-- Laws of the two passes over the tokens. Assumes nothing.
use mathlib.Core.Path.{◌≡◌, sym, ap, ◌∙◌}
use mathlib.Core.Bool.{Bool, true, false, ◌&&◌}
use Rattle.std.specs.Prelude.{Option, None, Some, if◌then◌else◌}
use mathlib.Core.List.{List, []}
use Prim.Native.Nat.{ℕ, ◌+◌, ◌-◌, ◌≤◌, ◌<◌}
use native.Mathlib.Nat.{sub-zero}
use native.Mathlib.Numerals.{add-one}
use native.Mathlib.Omega.{arith}
use lib.ListN.{length, drop}
use Rattle.rules.specs.declared.Counts.{Counts}
use Rattle.rules.specs.declared.Token.{Token}
use Rattle.rules.specs.declared.Turn.{Turn}
use Rattle.rules.specs.Base.{same}
use Rattle.rules.specs.Text.{in_case}
use Rattle.rules.specs.Words.{token_at, body_at}
use Rattle.rules.specs.Sheet.{body_part, token_read, token_of, tokens_from, options_of, params_of, keeps_of, env_of, tokens_of}
use Rattle.rules.specs.Switch.{Switch, turn_of, switch_after, switched_on}
use Rattle.rules.specs.Params.{advances, offends}
use Rattle.rules.specs.Rows.{lays_out}
use Rattle.rules.specs.Room.{counter_after}
use Rattle.rules.specs.Due.{strip}
use Rattle.places.proofs.Laws.{list_next, list_end}
use Rattle.switched.proofs.Count.{when-most}
use Rattle.matching.specs.Read.{read_to}
use Rattle.matching.proofs.Laws.{reached-some, reached-none}
use Rattle.foreign.specs.declared.Verdict.{Verdict}
use Rattle.foreign.specs.Foreign.{begins, compared}
use Rattle.foreign.specs.Walk.{barred_from, walk}
use Rattle.foreign.proofs.Walk.{walk_is}
use Rattle.judge.specs.declared.Due.{Due}
use Rattle.judge.specs.Asked.{DueIn}

-- ---- refusal 5

module _ (s : List ℕ) (c : Counts) where
  -- the first that is barred from token i on
  abbrev pub barred_at : ℕ → Switch → Option ℕ
  barred_at i w = barred_from (params_of s c) w i (tokens_from s (body_at c) i (c.tokens - i))

  pub barred_all : barred_from (params_of s c) switched_on 0 (tokens_of s c) ≡ barred_at 0 switched_on
  unfolding tokens_of
  barred_all = rw sub-zero

  module _ (i : ℕ) (w : Switch) where
    pub none_barred : c.tokens ≤ i → barred_at i w ≡ None
    unfolding barred_from
    none_barred l = rw (list_end (token_of s (body_at c)) i c.tokens l)

    pub barred_turn : i < c.tokens → barred_at i w
        ≡ (if lays_out (turn_of w (token_of s (body_at c) i).kind (token_of s (body_at c) i).value) (token_of s (body_at c) i).kind && offends (params_of s c) (token_of s (body_at c) i).key then Some i
        else barred_at (i + 1) (switch_after (turn_of w (token_of s (body_at c) i).kind (token_of s (body_at c) i).value) w))
    unfolding barred_from
    barred_turn l = rw (list_next (token_of s (body_at c)) i c.tokens l, add-one)

pub ruleset barring = (barred_all, none_barred, barred_turn)

-- ---- the comparison

module _ (s : List ℕ) (c : Counts) (text : List ℕ) where
  abbrev walk_at : ℕ → ℕ → ℕ → Switch → Verdict
  walk_at at index i w = walk (env_of s c 0) w index i (tokens_from s (body_at c) i (c.tokens - i)) (strip (drop at text))

  abbrev whole : Verdict
  whole = compared (params_of s c) (keeps_of s c) (options_of s).casing (tokens_of s c) text

  -- before token i: the text is read to a byte, and all that is due of those before was there
  pub record Walking (at index i : ℕ) (w : Switch) : Type 0 where
    pub few : index ≤ i
    pub within : i ≤ c.tokens
    pub at_in : at ≤ length text
    pub left : walk_at at index i w ≡ whole

  pub walking_begins : (w : Switch) → w ≡ switched_on → Walking 0 0 0 w
  unfolding tokens_of env_of
  walking_begins w e = record { few = omega arith; within = omega arith; at_in = omega arith; left = rw (e, sub-zero c.tokens) (sym (walk_is (env_of s c 0) (tokens_of s c) text)) }

  module _ (at index i : ℕ) (w : Switch) (inv : Walking at index i w) where
    ended : c.tokens ≤ i → whole ≡ (if same [] (strip (drop at text)) then Verdict.Yes else Verdict.No i)
    unfolding walk
    ended l = sym inv.left ∙ rw (list_end (token_of s (body_at c)) i c.tokens l)

    module _ (l : c.tokens ≤ i) (b : Bool) (h : b ≡ same [] (strip (drop at text))) where
      pub walking_yes : b ≡ true → Verdict.Yes ≡ whole
      walking_yes e = rw (ended l, ← h, e)

      pub walking_more : b ≡ false → (n : ℕ) → n ≡ c.tokens → Verdict.No n ≡ whole
      walking_more e n en = rw (ended l, ← h, e) (ap (λ (m : ℕ). Verdict.No m) (let k = inv.within in omega arith))

    module _ (l : i < c.tokens) (base : ℕ) (eb : base ≡ body_at c) (t : Token) (et : t ≡ token_at s i) (u : Turn) (eu : u ≡ turn_of w (token_of s base i).kind (token_of s base i).value)
        (d : Due) (is-due : DueIn s c u t index d) (r : Option ℕ) (er : r ≡ read_to (strip (in_case d.casing (body_part s (body_at c) d.place))) at (drop at text)) where
      abbrev shown : List ℕ
      shown = strip (in_case d.casing (body_part s (body_at c) d.place))

      onward : whole ≡ (if begins shown (strip (drop at text)) then walk (env_of s c 0) (switch_after u w) d.index (i + 1) (tokens_from s (body_at c) (i + 1) (c.tokens - (i + 1))) (drop (length shown) (strip (drop at text))) else Verdict.No i)
      unfolding walk env_of
      onward = sym inv.left ∙ rw (list_next (token_of s (body_at c)) i c.tokens l, is-due.bytes, is-due.counter, eu, et, eb, add-one)

      pub walking_no : r ≡ None → Verdict.No i ≡ whole
      walking_no e = rw (onward, reached-none shown text at inv.at_in r er e)

      pub walking_on : (end : ℕ) → r ≡ Some end → (x : Switch) → x ≡ switch_after u w → Walking end d.index (i + 1) x
      unfolding counter_after
      walking_on end e x ex =
          let f = inv.few in
          let k = is-due.counter in
          let m = when-most (lays_out u t.kind && advances (params_of s c) (token_read s (body_at c) t).key) index in
          let past = reached-some shown text at inv.at_in r er end e in
          record {
            few = omega arith;
            within = omega arith;
            at_in = past.1.1;
            left = rw (ex, past.1.0) (sym (rw past.0 at onward));
          }

pub ruleset walking = (walking_begins, walking_yes, walking_more)
