use Rattle.rules.specs.Sheet.{token_of}
use Rattle.table_blocks.specs.First.{First, top_at}
use Rattle.table_blocks.specs.Rows.{Rows, CountedFrom}
use Rattle.table_blocks.proofs.fill.Given as goal

abbrev pub invariant-loop-j : goal.invariant-loop-j
invariant-loop-j l =
    Rows (token_of l.sheet l.base) l.n l.j l.table × CountedFrom (token_of l.sheet l.base) l.n l.j l.counted × First (top_at (token_of l.sheet l.base)) l.j l.n l.top
