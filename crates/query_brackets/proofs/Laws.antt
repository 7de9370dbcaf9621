-- What follows an opening bracket, as a step after what is laid already. Assumes nothing.
use mathlib.Core.Bool.{Bool}
use mathlib.Core.List.{List}
use Prim.Native.Nat.{ℕ}
use lib.ListN.{length}
use Rattle.rules.specs.declared.FormatOptions.{FormatOptions}
use Rattle.rules.specs.Text.{Text}
use Rattle.text.specs.declared.Text.{Text as Code}
use Rattle.text.specs.Held.{text_of, Laid}
use Rattle.text.proofs.HeldLaws.{onward}
use Rattle.query.specs.Query.{after_opening}

pub then_after : {cap : ℕ} {w : Text} {t u : Code} {d r : List ℕ} (o : FormatOptions) (inlined is_case : Bool) (level : ℕ)
    → Laid (length d) (after_opening (length d) o inlined is_case level (text_of t d)) u r → Laid cap w t d → Laid cap (after_opening cap o inlined is_case level w) u r
then_after o inlined is_case level q p = onward (λ n. after_opening n o inlined is_case level) p q
