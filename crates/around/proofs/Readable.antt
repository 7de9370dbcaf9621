-- A checked sheet can be read around a token. Assumes nothing.
use mathlib.Core.List.{List}
use Prim.Native.Nat.{ℕ, ◌+◌, ◌*◌, ◌≤◌, ◌<◌}
use native.Mathlib.Omega.{arith}
use lib.ListN.{length}
use Rattle.rules.specs.declared.Counts.{Counts}
use Rattle.rules.specs.Words.{tokens_at, body_at}
use Rattle.tokens.specs.Placed.{Within}
use Rattle.records.specs.Sheeted.{Sheeted}
use Rattle.around.specs.Readable.{Readable}

pub sheeted-readable : (s : List ℕ) (c : Counts) → Sheeted s c → Readable s (body_at c) c.tokens
sheeted-readable s c h =
    let f = h.few in
    let l = h.long in
    record { placed = h.tokens; short = omega arith }

-- token i of n
pub readable_within : {s : List ℕ} {base n i : ℕ} → Readable s base n → i < n → Within s base i
readable_within {s} {base} {n} {i} h l = h.placed.within i l

pub readable_record : {s : List ℕ} {base n i : ℕ} → Readable s base n → i < n → tokens_at + 20 * i + 20 ≤ length s
readable_record h l = (readable_within h l).record_in
