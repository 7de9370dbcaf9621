use Prim.Native.Nat.{◌-◌}
use Rattle.words.proofs.BlockLaws.{Blocks}
use Rattle.words.proofs.join_blocks.Given as goal

abbrev pub invariant-loop-i : goal.invariant-loop-i
invariant-loop-i l =
    Blocks l.at l.initial.text l.src l.start l.n l.k l.i l.text l.j

abbrev pub decreases-loop-i : goal.decreases-loop-i
decreases-loop-i l =
    l.n - l.i
