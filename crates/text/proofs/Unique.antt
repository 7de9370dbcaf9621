-- Two results and buffers that are those of one text are one. Assumes nothing.
use mathlib.Core.Path.{◌≡◌, sym, ◌∙◌}
use mathlib.Core.List.{List}
use Prim.Native.Nat.{ℕ}
use Rattle.rules.specs.Text.{Text}
use Rattle.text.specs.declared.Text.{Text as Code}
use Rattle.text.specs.Held.{Laid}

pub laid_one : {cap : ℕ} {w : Text} {t u : Code} {d e : List ℕ} → Laid cap w t d → Laid cap w u e → (t ≡ u) × (d ≡ e)
laid_one p q = (p.code ∙ sym q.code, p.bytes ∙ sym q.bytes)
