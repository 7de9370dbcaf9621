use Rattle.twigmantle.proofs.Laws.{enough, by-short, by-laid}
use Rattle.twigmantle.proofs.sound.Goals as goal

pub returns-then-is_short : goal.returns-then-is_short
returns-then-is_short c =
    let all = by-short c.args.sheet.now _ _ c.requires.sheeted.1 _ _ _ c.is_short.ensures _ _ _ c.if-is_short.true c.refused.ensures.value c.refused.ensures.text_after c.refused.ensures.rows_after in record { value = all.0; text_after = all.1.0; rows_after = all.1.1 }

pub laid_out-requires : goal.laid_out-requires
laid_out-requires c =
    record { sheeted = c.requires.sheeted.0; c_in_bounds = enough _ _ _ _ _ c.requires.sheeted.1 c.is_short.ensures c.if-is_short.false; filled = c.requires.filled }

pub returns : goal.returns
returns c =
    let all = by-laid c.args.sheet.now _ _ c.requires.sheeted.1 _ _ _ c.is_short.ensures _ _ _ c.if-is_short.false c.laid_out.ensures.value c.laid_out.ensures.text_after c.laid_out.ensures.rows_after in record { value = all.0; text_after = all.1.0; rows_after = all.1.1 }
