use Rattle.twigmantle.proofs.Laws.{five-fit, by-asked, by-ample, by_most}
use Rattle.switched.proofs.Count.{few-most, few-placeholders}
use Rattle.std.proofs.Common.{rules}
use Rattle.twigmantle.proofs.is_short.Goals as goal

pub returns-then-n-words : goal.returns-then-n-words
returns-then-n-words c =
    by-ample _ _ _ c.args.with_rows c.requires.1 c.if-n-words.true

pub overflow_mul-most_placeholders : goal.overflow_mul-most_placeholders
overflow_mul-most_placeholders c =
    let f = few-most c.args.sheet.now c.args.c in
    let h = five-fit _ 0 _ c.requires.0 _ _ f c.most_placeholders.ensures in search (rules, h)

pub returns-then-most_placeholders-words : goal.returns-then-most_placeholders-words
returns-then-most_placeholders-words c =
    by_most _ _ _ c.args.with_rows _ c.requires.1 c.most_placeholders.ensures c.if-most_placeholders-words.true

pub overflow_mul-result : goal.overflow_mul-result
overflow_mul-result c =
    let f = few-placeholders c.args.sheet.now c.args.c in
    let h = five-fit _ 0 _ c.requires.0 _ _ f c.placeholders.ensures in search (rules, h)

pub returns : goal.returns
returns c =
    by-asked _ _ _ c.args.with_rows _ c.requires.1 (c.if-not-with_rows.false) c.placeholders.ensures
