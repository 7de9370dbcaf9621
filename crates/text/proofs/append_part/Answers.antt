use Rattle.ascii.proofs.PartLaws.{length_part}
use Rattle.text.proofs.AppendLaws.{kept_append, by-full, by-put-of}
use Rattle.std.proofs.Common.{rules}
use Rattle.text.proofs.append_part.Goals as goal

pub returns-then-fault-ne0 : goal.returns-then-fault-ne0
returns-then-fault-ne0 c =
    search (rules, kept_append)

pub returns-then-text-len : goal.returns-then-text-len
returns-then-text-len c =
    search (rules, by-full, length_part)

pub returns : goal.returns
returns c =
    search (rules, by-put-of, length_part)
