-- The converting call, and the compacting call on a sheet that is converted later.
use Rattle.rules.specs.declared.Offence.TheVariants as offence
use Rattle.rules.specs.declared.Offence.{Offence}
use mathlib.Core.Path.{◌≡◌, refl}
use mathlib.Core.List.{List}
use Prim.Native.Nat.{ℕ, ◌≤◌}
use native.Mathlib.Omega.{arith}
use Rattle.rules.specs.declared.Counts.{Counts}
use Rattle.rules.specs.declared.Outcome.{Outcome}
use Rattle.std.specs.Prelude.{if◌then◌else◌, Err, Ok, Result}
use Rattle.rules.specs.Checks.{checked}
use Rattle.rules.specs.Compacted.{compact, outcome_of, buffer_with}
use Rattle.compacted.proofs.Call.{call_written}
use Rattle.rules.specs.Answer.{is_withdrawn}
use Rattle.converted.specs.Converted.{converted, convert_as, convert, convert_outcome, sheet_after}
use Rattle.converted.specs.Converts.{Converts, Stored}
use Rattle.converted.proofs.Laws.{alike, not-withdrawn, other-kept, becomes-two, not_one}
use Rattle.converted.proofs.Theorem.{still-sound, converted-again, commutes, stored-sheet}

-- ---- the converting call

module _ (s : List ℕ) where
  laid : (c : Counts) → checked s ≡ Ok c → Converts s (record { refusal = 0; place = 0; length = (if is_withdrawn s then 1 else 0) }) (converted s)
  laid c h =
      let a = alike s in
      record {
        others = a.others;
        longs = a.longs;
        sound = λ k e. (refl, still-sound s k e);
        becomes = λ z w. becomes-two s w;
        not_one = λ z. not_one s;
        stays = λ n. not-withdrawn s (other-kept s n);
        again = λ z. converted-again s c h;
        commutes = λ k e. commutes s k e;
        numbers = omega arith;
        refused = λ n. absurd (n refl);
      }

  -- what the checks found, if it is not sound
  turned_down : (n p : ℕ) → n ≤ 4 → (n ≡ 0 → ⊥) → ((c : Counts) → checked s ≡ Ok c → ⊥) → Converts s (record { refusal = n; place = p; length = 0 }) s
  turned_down n p l z never =
      record {
        others = λ i e. refl;
        longs = refl;
        sound = λ c h. absurd (never c h);
        becomes = λ e w. absurd (z e);
        not_one = λ e. absurd (z e);
        stays = λ w. refl;
        again = λ e. absurd (z e);
        commutes = λ c h. absurd (never c h);
        numbers = l;
        refused = λ e. refl;
      }

  converts-so : (k : Result Counts Offence) → checked s ≡ k → Converts s (convert_outcome (convert_as s k)) (sheet_after s (convert_as s k))
  unfolding convert_as convert_outcome sheet_after
  converts-so (Ok c) h = laid c h
  converts-so (Err offence.Size) h = turned_down 1 0 (omega arith) (λ e. omega arith) (λ c g. cc)
  converts-so (Err (offence.Word p)) h = turned_down 2 p (omega arith) (λ e. omega arith) (λ c g. cc)
  converts-so (Err (offence.Place p)) h = turned_down 3 p (omega arith) (λ e. omega arith) (λ c g. cc)
  converts-so (Err (offence.Byte p)) h = turned_down 4 p (omega arith) (λ e. omega arith) (λ c g. cc)

-- any outcome and sheet that the call's two equations allow
pub call_converts : (s : List ℕ) (r : Outcome) (t : List ℕ) → r ≡ convert_outcome (convert s) → t ≡ sheet_after s (convert s) → Converts s r t
unfolding convert
call_converts s r t e f = rw (e, f) (converts-so s (checked s) refl)

-- ---- the compacting call

pub call_stored : (s : List ℕ) (room : ℕ) (r : Outcome) (out : List ℕ) → r ≡ outcome_of (compact s room) → out ≡ buffer_with room (compact s room) → Stored s r out
call_stored s room r out e f = record { written = λ z. let (c, (h, w)) = call_written s room r out e f z in rw w (stored-sheet s c h) }
