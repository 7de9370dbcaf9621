-- Laws of the count, over plain variables. Assumes nothing.
use mathlib.Core.Path.{◌≡◌, refl}
use mathlib.Core.Bool.{false}
use Rattle.rules.specs.declared.TokenKind.{TokenKind}
use Rattle.rules.specs.declared.Turn.{Turn}
use Rattle.rules.specs.declared.Turn.TheVariants as turn
use Rattle.rules.specs.Rows.{lays_out}

pub laid_alone : (u : Turn) (k : TokenKind) → (u ≡ turn.LaidOut → ⊥) → lays_out u k ≡ false
unfolding lays_out
laid_alone turn.Dropped k n = refl
laid_alone (turn.Switches off) k n = refl
laid_alone turn.LaidOut k n = absurd (n refl)
laid_alone turn.Copied k n = refl
