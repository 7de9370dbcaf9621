use Rattle.indentation.specs.Of.{indentation_of}
use Rattle.indentation.proofs.Laws.{Left}
use Rattle.indentation.proofs.Indentation.decrease_block_level.Given as goal

abbrev pub invariant-loop-n : goal.invariant-loop-n
invariant-loop-n l =
    Left (indentation_of l.self) (record { kinds = l.kinds; nkinds = l.n; spans = l.spans; nspans = l.s; previous = l.previous; nprevious = l.p; level = l.level })

abbrev pub decreases-loop-n : goal.decreases-loop-n
decreases-loop-n l =
    l.n
