use Rattle.marks.proofs.SettleLaws.{Settled}
use Rattle.marks.proofs.settle.Given as goal

abbrev pub invariant-loop-k : goal.invariant-loop-k
invariant-loop-k l = Settled l.initial.bits l.far l.bits l.before l.count l.reach l.k
