use Rattle.indentation.proofs.Laws.{left_goes, left_none, left_block, left_closes}
use Rattle.indentation.proofs.Indentation.decrease_block_level.Goals.{then-loop-n-test+else-kinds-n-eq-TOP, else-loop-n-test}
use Rattle.indentation.proofs.Indentation.decrease_block_level.Goals as goal

pub loop-n-preserved : goal.loop-n-preserved
loop-n-preserved c =
    left_goes _ _ c.loop-n.invariant _ _ _ c.loop-n-test.true c.if-kinds-n-eq-TOP.true c.saturating_sub-s.ensures c.saturating_sub-p.ensures c.saturating_sub-level.ensures

pub returns : goal.returns
returns c =
    left_closes _ _ c.loop-n.invariant _ _ _ _ _
    (elim c.loop-n-test.branch [
      | then-loop-n-test+else-kinds-n-eq-TOP w ↦ left_block _ _ c.loop-n.invariant w.loop-n-test.true w.if-kinds-n-eq-TOP.false
      | else-loop-n-test w ↦ left_none _ _ c.loop-n.invariant w.loop-n-test.false
    ])
    c.saturating_sub-k.ensures c.from.ensures c.saturating_sub-to.ensures c.from-2.ensures c.saturating_sub.ensures
