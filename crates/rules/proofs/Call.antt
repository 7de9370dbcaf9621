-- Demand 3 for the layout call: in terms of its own answer and buffer. Assumes nothing.
use Rattle.rules.specs.declared.Offence.TheVariants as offence
use Rattle.rules.specs.declared.Counts.{Counts}
use Rattle.rules.specs.declared.Offence.{Offence}
use mathlib.Core.Path.{◌≡◌}
use mathlib.Core.Bool.{Bool, true, false}
use mathlib.Core.List.{List}
use Prim.Native.Nat.{ℕ}
use native.Mathlib.Omega.{arith}
use lib.ListN.{take}
use lib.Seq.{take-append_seam}
use Rattle.rules.specs.declared.Report.{Report}
use Rattle.std.specs.Prelude.{if◌then◌else◌, Err, Ok, Result}
use Rattle.rules.specs.Checks.{checked}
use Rattle.rules.specs.Sheet.{env_of, tokens_of}
use Rattle.rules.specs.Answer.{Answer, laid, refusal, format, is_withdrawn, answer_as, answer, report_of, buffer_of, reported, buffer_after}
use Rattle.rules.specs.Due.{strip, due_in, due_of, Faithful}
use Rattle.rules.proofs.Keeps.{StripsTo, keeps}

pub by-checked : (s : List ℕ) (room : ℕ) (c : Result Counts Offence) → StripsTo (answer_as s room c) (due_in s c)
unfolding answer_as due_in env_of
by-checked s room (Ok c) = go (is_withdrawn s)
  where
    go : (b : Bool) → StripsTo (if b then refusal 14 28 else format (env_of s c room) (tokens_of s c)) (due_in s (Ok c))
    go true = (omega arith, λ h. omega arith)
    go false = keeps (env_of s c room) (tokens_of s c)
by-checked s room (Err offence.Size) = (omega arith, λ h. omega arith)
by-checked s room (Err (offence.Word p)) = (omega arith, λ h. omega arith)
by-checked s room (Err (offence.Place p)) = (omega arith, λ h. omega arith)
by-checked s room (Err (offence.Byte p)) = (omega arith, λ h. omega arith)

pub in_buffer : (a : Answer) (room : ℕ) (v : List ℕ) → StripsTo a v → (report_of a).refusal ≡ 0 → strip (take (report_of a).length (buffer_of room a)) ≡ v
unfolding report_of buffer_of
in_buffer (laid b l w) room v k z = rw (take-append_seam b _) k
in_buffer (refusal n p) room v k z = absurd (let h = k.0 in omega arith)

-- any bytes, any buffer: where the call refuses nothing, the text in its buffer is, without its white bytes, what is due
pub call_keeps : (s : List ℕ) (room : ℕ) → Faithful s (reported s room) (buffer_after s room)
unfolding Faithful reported buffer_after answer due_of
call_keeps s room z = in_buffer (answer_as s room (checked s)) room (due_in s (checked s)) (by-checked s room (checked s)) z

-- any report and buffer that the layout call's two equations allow
pub call_faithful : (s : List ℕ) (room : ℕ) (r : Report) (out : List ℕ) → r ≡ reported s room → out ≡ buffer_after s room → Faithful s r out
call_faithful s room r out e f = rw (e, f) (call_keeps s room)
