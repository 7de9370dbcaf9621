use Rattle.std.proofs.Common.{◌≤◌}
use Rattle.replay.proofs.replay_all.Given as goal

abbrev pub invariant-loop-all : goal.invariant-loop-all
invariant-loop-all g l = l.same ≤ l.all
