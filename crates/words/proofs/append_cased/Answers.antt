use Rattle.text.proofs.AppendLaws.{kept_append, by-full, by-put-of}
use Rattle.words.proofs.CaseLaws.{length-cased}
use Rattle.std.proofs.Common.{rules}
use Rattle.words.proofs.append_cased.Goals as goal

pub returns-then-fault-ne0 : goal.returns-then-fault-ne0
returns-then-fault-ne0 c =
    search (rules, kept_append)

pub returns-then-text-len : goal.returns-then-text-len
returns-then-text-len c =
    search (rules, by-full, length-cased)

pub returns : goal.returns
returns c =
    search (rules, by-put-of, length-cased)
