-- What follows a reserved word, as a step after what is laid already. Assumes nothing.
use mathlib.Core.Bool.{Bool}
use mathlib.Core.List.{List}
use Prim.Native.Nat.{ℕ}
use lib.ListN.{length}
use Rattle.rules.specs.declared.FormatOptions.{FormatOptions}
use Rattle.rules.specs.Text.{Text}
use Rattle.text.specs.declared.Text.{Text as Code}
use Rattle.text.specs.Held.{text_of, Laid}
use Rattle.text.proofs.HeldLaws.{onward}
use Rattle.query.specs.Query.{deeper, blank}
use Rattle.rules.specs.Base.{choose}

module _ {cap : ℕ} {w : Text} {t u : Code} {d r : List ℕ} (o : FormatOptions) (six : Bool) (into : ℕ) where
  pub then_deeper : Laid (length d) (deeper (length d) o six into (text_of t d)) u r → Laid cap w t d → Laid cap (deeper cap o six into w) u r
  then_deeper q p = onward (λ n. deeper n o six into) p q

  pub then_deeper_or_blank : (after : Bool) → Laid (length d) (choose after (deeper (length d) o six into) (blank (length d)) (text_of t d)) u r → Laid cap w t d
      → Laid cap (choose after (deeper cap o six into) (blank cap) w) u r
  then_deeper_or_blank after q p = onward (λ n. choose after (deeper n o six into) (blank n)) p q
