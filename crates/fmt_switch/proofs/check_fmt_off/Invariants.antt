use Rattle.std.proofs.Common.{◌≡◌, ◌<◌, length, take, drop}
use Rattle.rules.specs.Switch.{in_state, read_all}
use Rattle.fmt_switch.proofs.check_fmt_off.Given as goal

abbrev pub invariant-loop-c : goal.invariant-loop-c
invariant-loop-c l = (l.state < 9) × (read_all (in_state l.state) l.rest ≡ read_all (in_state 0) (take l.n (drop l.start l.s)))

abbrev pub decreases-loop-c : goal.decreases-loop-c
decreases-loop-c l = length l.rest
