use mathlib.Core.Path.{◌≡◌}
use Rattle.longest.specs.Flags.{AllSet}
use Rattle.longest.proofs.all_flagged.Given as goal

abbrev pub invariant-loop-j : goal.invariant-loop-j
invariant-loop-j l =
    (l.unset ≡ 0 → AllSet l.flagged l.j l.by)
