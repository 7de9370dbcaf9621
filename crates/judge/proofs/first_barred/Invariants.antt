use mathlib.Core.Path.{◌≡◌}
use Rattle.rules.specs.Sheet.{params_of, tokens_of}
use Rattle.rules.specs.Switch.{switched_on}
use Rattle.fmt_switch.specs.Of.{switch_of}
use Rattle.foreign.specs.Walk.{barred_from}
use Rattle.judge.proofs.TokenLaws.{barred_at}
use Rattle.judge.proofs.first_barred.Given as goal

abbrev pub invariant-loop-i : goal.invariant-loop-i
invariant-loop-i l = barred_from (params_of l.sheet l.c) switched_on 0 (tokens_of l.sheet l.c) ≡ barred_at l.sheet l.c l.i (switch_of l.switch)
