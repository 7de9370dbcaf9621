use Rattle.rules.specs.Sheet.{token_of}
use Rattle.table_blocks.proofs.Fills.{Depths}
use Rattle.table_blocks.proofs.put_depths.Given as goal

abbrev pub invariant-loop-j : goal.invariant-loop-j
invariant-loop-j l =
    Depths (token_of l.sheet l.base) l.n l.j l.table l.level
