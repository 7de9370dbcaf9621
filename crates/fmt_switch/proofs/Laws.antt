-- Laws of the switch. Assumes nothing.
use Rattle.std.proofs.Common.{◌≡◌, refl, sym, ap, ◌∙◌, ◌⊎◌, inl, inr, Bool, true, false, cond, Option, None, Some, List, [], ◌∷◌, ℕ, suc, ◌+◌, ◌-◌, ◌<◌, length, take, drop, eqb, arith, add-one}
use Rattle.std.proofs.lemmas.Bool.{eqb-true, cases_eq}
use Rattle.std.proofs.lemmas.List.{take_rest}
use Rattle.std.specs.List.{IsFirstAndRest}
use Rattle.rules.specs.declared.TokenKind.{TokenKind}
use Rattle.rules.specs.declared.TokenKind.TheVariants as kind
use Rattle.rules.specs.declared.Turn.{Turn}
use Rattle.rules.specs.declared.Turn.TheVariants as turn
use Rattle.rules.specs.Bytes.{bytes}
use Rattle.rules.specs.Base.{any_of}
use Rattle.rules.specs.Switch.{answer, ◌↪◌, fmt_table, in_state, done, moved_by, moved_to, moved, read_all, answered, check_fmt_off, switch_in, turn_by, turn_of}
use Rattle.fmt_switch.specs.declared.Move.{Move}
use Rattle.fmt_switch.specs.declared.Move.TheVariants as move
use Rattle.fmt_switch.specs.declared.Switch.{Switch as Code}
use Rattle.fmt_switch.specs.Of.{moved_as, run_of, is_comment, switch_of}

-- ---- a comment, byte by byte

done-stays : (o : Option Bool) (l : List ℕ) → read_all (done o) l ≡ done o
unfolding read_all moved
done-stays o [] = refl
done-stays o (c ∷ cs) = done-stays o cs

-- a state that stays on a byte stays on a run of it
run-stays : (state c : ℕ) → moved (in_state state) c ≡ in_state state → (v : List ℕ) → read_all (in_state state) (drop (run_of c v) v) ≡ read_all (in_state state) v
unfolding read_all
run-stays state c m [] = refl
run-stays state c m (x ∷ xs) = go (eqb x c) refl (run-stays state c m xs)
  where
    go : (b : Bool) → eqb x c ≡ b → read_all (in_state state) (drop (run_of c xs) xs) ≡ read_all (in_state state) xs
        → read_all (in_state state) (drop (run_of c (x ∷ xs)) (x ∷ xs)) ≡ read_all (in_state state) (x ∷ xs)
    go true e f = let more : 1 + run_of c xs ≡ suc (run_of c xs) = omega arith in rw (e, more, eqb-true x c e, m) f
    go false e f = rw e

-- the last state has no next
last-answers : (b : Bool) → moved_to 8 (cond b (Some ("fF" ↪ answer true)) None) ≡ in_state 9 → ⊥
unfolding moved_to moved_by ◌↪◌
last-answers true e = cc
last-answers false e = cc

last-ends : (c : ℕ) → moved (in_state 8) c ≡ in_state 9 → ⊥
unfolding moved fmt_table ◌↪◌
last-ends c e = last-answers (any_of (eqb c) (bytes "fF")) e

-- what is left begins with x, and has the same reading as the whole
module _ (all left after : List ℕ) (x state : ℕ) (cut : IsFirstAndRest left x after) (same : read_all (in_state state) left ≡ read_all (in_state 0) all) where
  one-read : read_all (moved (in_state state) x) after ≡ read_all (in_state 0) all
  unfolding read_all
  one-read = rw cut.0 at same

  ends-with : (o : Option Bool) → moved (in_state state) x ≡ done o → o ≡ check_fmt_off all
  unfolding check_fmt_off answered
  ends-with o e = ap answered (sym (done-stays o after) ∙ (rw e at one-read))

  pub by-nothing : moved_as state None ≡ moved (in_state state) x → None ≡ check_fmt_off all
  unfolding moved_as
  by-nothing e = ends-with None (sym e)

  module _ (m : Move) (e : moved_as state (Some m) ≡ moved (in_state state) x) where
    pub by-answer : (off : Bool) → m ≡ move.Answer off → Some off ≡ check_fmt_off all
    unfolding moved_as
    by-answer off q = ends-with (Some off) (sym (rw q at e))

    pub by-stay : m ≡ move.Stay → (r : ℕ) → r ≡ run_of x after → read_all (in_state state) (take (length after - r) (drop r after)) ≡ read_all (in_state 0) all
    unfolding moved_as
    by-stay q r f =
        let stays = sym (rw q at e) in
        rw (take_rest after r, f) (run-stays state x stays after ∙ (rw stays at one-read))

    pub by-next : m ≡ move.Next → read_all (in_state (state + 1)) after ≡ read_all (in_state 0) all
    unfolding moved_as
    by-next q = rw (add-one, rw q at e) one-read

    -- the next state is one of the nine
    pub still-state : m ≡ move.Next → state < 9 → state + 1 < 9
    unfolding moved_as
    still-state q h = go (cases_eq state 8)
      where
        go : (state ≡ 8) ⊎ (state ≡ 8 → ⊥) → state + 1 < 9
        go (inl p) = absurd (last-ends x (sym (rw (q, p) at e)))
        go (inr p) = omega arith

pub by_end : (all left : List ℕ) (state : ℕ) → length left ≡ 0 → read_all (in_state state) left ≡ read_all (in_state 0) all → None ≡ check_fmt_off all
unfolding check_fmt_off answered read_all
by_end all [] state h same = ap answered same
by_end all (x ∷ xs) state h same = absurd (omega arith)

-- ---- how a token is taken

no-comment : (k : TokenKind) → (k ≡ kind.LineComment → ⊥) → (k ≡ kind.BlockComment → ⊥) → is_comment k ≡ false
no-comment kind.TypeSpecifier h l = refl
no-comment kind.Whitespace h l = refl
no-comment kind.String h l = refl
no-comment kind.Reserved h l = refl
no-comment kind.ReservedTopLevel h l = refl
no-comment kind.ReservedTopLevelNoIndent h l = refl
no-comment kind.ReservedNewline h l = refl
no-comment kind.ReservedNewlineAfter h l = refl
no-comment kind.Operator h l = refl
no-comment kind.OpenParen h l = refl
no-comment kind.CloseParen h l = refl
no-comment kind.LineComment h l = absurd (h refl)
no-comment kind.BlockComment h l = absurd (l refl)
no-comment kind.Number h l = refl
no-comment kind.Placeholder h l = refl
no-comment kind.Word h l = refl
no-comment kind.Join h l = refl

module _ (w : Code) (k : TokenKind) (v : List ℕ) where
  pub by-dropped : w.drop_next ≡ true → turn.Dropped ≡ turn_of (switch_of w) k v
  unfolding turn_of switch_of
  by-dropped d = rw d

  module _ (r : Turn) (d : w.drop_next ≡ false) where
    pub by-comment : is_comment k ≡ true → (o : Option Bool) → o ≡ check_fmt_off v → r ≡ turn_by w.enabled o → r ≡ turn_of (switch_of w) k v
    unfolding turn_of switch_of switch_in
    by-comment e o f g = rw (g, d, e, f)

    pub by-plain : (k ≡ kind.LineComment → ⊥) → (k ≡ kind.BlockComment → ⊥) → r ≡ turn_by w.enabled None → r ≡ turn_of (switch_of w) k v
    unfolding turn_of switch_of switch_in
    by-plain h l g = rw (g, d, no-comment k h l)

pub ruleset reads = (by-nothing, by-answer, by-stay, by-next, still-state, by_end)

pub ruleset takes = (by-dropped, by-comment, by-plain)
