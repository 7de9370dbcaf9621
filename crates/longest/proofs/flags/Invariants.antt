use Rattle.longest.proofs.FlagLaws.{Some}
use Rattle.longest.proofs.flags.Given as goal

abbrev pub invariant-loop-k : goal.invariant-loop-k
invariant-loop-k l =
    Some l.text l.at l.far l.k l.bits
