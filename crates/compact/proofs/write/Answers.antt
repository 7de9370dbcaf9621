use Rattle.compact.proofs.CoverLaws.{kept-few}
use Rattle.compact.proofs.WriteLaws.{by-eleven, by_written}
use Rattle.std.proofs.Common.{rules}
use Rattle.compact.proofs.write.Goals as goal

pub overflow_add-base : goal.overflow_add-base
overflow_add-base c =
    let k = kept-few c.args.sheet.now c.args.c c.args.c.bytes in search rules

pub returns-then-room-base : goal.returns-then-room-base
returns-then-room-base c =
    let all = by-eleven c.args.sheet.now c.args.c c.requires.sheeted.0 c.args.out.now _ c.body_at-base.result c.args.kept c.body_at-base.ensures c.requires.kept_value (c.fill.ensures.after (λ y e. e)) c.if-room-base.true in record { value = all.0; out_after = all.1 }

pub overflow_cast-kept : goal.overflow_cast-kept
overflow_cast-kept c =
    let k = kept-few c.args.sheet.now c.args.c c.args.c.bytes in search rules

pub returns : goal.returns
returns c =
    let all = by_written c.args.sheet.now c.args.c c.requires.sheeted.0 c.args.out.now _ c.body_at-base.result c.args.kept c.body_at-base.ensures c.requires.kept_value (c.fill.ensures.after (λ y e. e)) _ _ c.move_words.ensures c.copy_kept.ensures c.if-room-base.false in record { value = all.0; out_after = all.1 }
