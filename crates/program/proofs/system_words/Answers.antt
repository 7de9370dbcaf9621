use Rattle.std.proofs.Common.{refl, inl, inr, arith}
use Rattle.std.proofs.lemmas.Str.Pattern.{split_text_parts}
use Rattle.program.specs.Words.{mark}
use Rattle.program.proofs.system_words.Goals as goal

pub returns-in-Some : goal.returns-in-Some
returns-in-Some c =
    let found = rw c.in-Some.is at c.split_once.ensures.cases in
    inl (c.in-Some.field-0-1.now, rw c.in-Some.is at (split_text_parts mark c.args.told.now c.split_once.result c.split_once.ensures.cases), λ i l. found.2.0 i (omega (arith, l, found.6)))

pub returns-in-None : goal.returns-in-None
returns-in-None c = inr (rw c.in-None.is at (split_text_parts mark c.args.told.now c.split_once.result c.split_once.ensures.cases), refl)
