-- A buffer as long as the room of a sheet never meets 9, on either engine. Assumes nothing.
use mathlib.Core.Path.{◌≡◌, ap}
use mathlib.Core.Bool.{Bool, true, false}
use mathlib.Core.List.{List}
use Prim.Native.Nat.{ℕ, ◌≤◌}
use native.Mathlib.Omega.{arith}
use Rattle.rules.specs.declared.Outcome.{Outcome}
use Rattle.std.specs.Prelude.{if◌then◌else◌}
use Rattle.rules.specs.Checks.{checked}
use Rattle.rules.specs.Answer.{Answer, refusal, answer, report_of}
use Rattle.rules.specs.Rows.{listed}
use Rattle.rules.specs.Room.{room_for}
use Rattle.rules.proofs.Enough.{sheet-never-nine, listed-never-nine}
use Rattle.twigmantle.specs.Once.{lacks_table, once_as, once, once_listed}
use Rattle.twigmantle.specs.Enough.{NeverNine, Enough}

-- 12 is not 9, and else it is the plain call's answer
once-nine : (b : Bool) (a : Answer) (p : ℕ) → (a ≡ refusal 9 p → ⊥) → (if b then refusal 12 0 else a) ≡ refusal 9 p → ⊥
unfolding report_of
once-nine true a p h e = let n : ◌≡◌ {A = ℕ} 12 9 = ap (λ (x : Answer). (report_of x).refusal) e in absurd (omega arith)
once-nine false a p h e = h e

pub room-enough : (s : List ℕ) (r : Outcome) → r ≡ room_for s → Enough s r
unfolding once once_listed once_as
room-enough s r e = record { never_nine = λ n l. never n (rw e at l) }
  where
    never : (n : ℕ) → (room_for s).length ≤ n → NeverNine s n
    never n l =
        record {
          plain = sheet-never-nine s n l;
          with_list = λ k. listed-never-nine s n k l;
          with_table = λ m p. once-nine (lacks_table s m (checked s)) (answer s n) p (sheet-never-nine s n l p);
          with_both = λ k m p. once-nine (lacks_table s m (checked s)) (listed s n k) p (listed-never-nine s n k l p);
        }
