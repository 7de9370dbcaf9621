use Rattle.std.proofs.Common.{◌∙◌, arith, length}
use Rattle.head.proofs.HeadLaws.{stored-head}
use Rattle.head.proofs.head_with.Goals as goal

pub returns-clause-out_after : goal.returns-clause-out_after
returns-clause-out_after c =
    stored-head c.args.top_level (length c.args.out.now) (omega (arith, c.fill.ensures.len, c.if-out-lt48.false)) _ _ _
    (c.fill.ensures.after (λ y e. e))
    (c.copy_from_slice.ensures.after ∙ c.to_le_bytes.ensures)
    (c.copy_from_slice-2.ensures.after ∙ c.to_le_bytes-2.ensures)
