-- The call that compacts: what stands in its buffer where it refuses nothing.
use Rattle.rules.specs.declared.Offence.TheVariants as offence
use Rattle.rules.specs.declared.Offence.{Offence}
use mathlib.Core.Path.{◌≡◌, refl}
use mathlib.Core.Bool.{Bool, true, false}
use mathlib.Core.List.{List}
use Prim.Native.Nat.{ℕ}
use native.Mathlib.Omega.{arith}
use lib.Dec.{ltb}
use lib.ListN.{length, take}
use lib.Seq.{take-append_seam}
use Rattle.rules.specs.declared.Counts.{Counts}
use Rattle.rules.specs.declared.Outcome.{Outcome}
use Rattle.std.specs.Prelude.{if◌then◌else◌, Err, Ok, Result}
use Rattle.rules.specs.Checks.{checked}
use Rattle.rules.specs.Compacted.{compacted, Written, wrote, refusal, compact_as, compact, outcome_of, buffer_with, Compacts}
use Rattle.compacted.proofs.Theorem.{same-sheet}

-- what is written is a sound sheet compacted; a refusal has a number
Says : List ℕ → Written → Type 0
Says s (wrote b) = (c : Counts) × ((checked s ≡ Ok c) × (b ≡ compacted s c))
Says s (refusal n p) = n ≡ 0 → ⊥

enough : (s : List ℕ) (c : Counts) (short : Bool) → checked s ≡ Ok c → Says s (if short then refusal 11 0 else wrote (compacted s c))
unfolding Says
enough s c true h = λ z. omega arith
enough s c false h = (c, (h, refl))

says : (s : List ℕ) (room : ℕ) (c : Result Counts Offence) → checked s ≡ c → Says s (compact_as s room c)
unfolding compact_as Says
says s room (Ok c) h = enough s c (ltb room (length (compacted s c))) h
says s room (Err offence.Size) h = λ z. omega arith
says s room (Err (offence.Word p)) h = λ z. omega arith
says s room (Err (offence.Place p)) h = λ z. omega arith
says s room (Err (offence.Byte p)) h = λ z. omega arith

in_buffer : (s : List ℕ) (room : ℕ) (w : Written) → Says s w → (outcome_of w).refusal ≡ 0 → (c : Counts) × ((checked s ≡ Ok c) × (take (outcome_of w).length (buffer_with room w) ≡ compacted s c))
unfolding outcome_of buffer_with Says
in_buffer s room (wrote b) k z = rw (take-append_seam b _) k
in_buffer s room (refusal n p) k z = absurd (k z)

-- any outcome and buffer that the call's two equations allow
module _ (s : List ℕ) (room : ℕ) (r : Outcome) (out : List ℕ) (e : r ≡ outcome_of (compact s room)) (f : out ≡ buffer_with room (compact s room)) where
  pub call_written : r.refusal ≡ 0 → (c : Counts) × ((checked s ≡ Ok c) × (take r.length out ≡ compacted s c))
  unfolding compact
  call_written = rw (e, f) (in_buffer s room (compact_as s room (checked s)) (says s room (checked s) refl))

  pub call_compacts : Compacts s r out
  call_compacts = record { written = λ z. let (c, (h, w)) = call_written z in rw w (same-sheet s c h) }
