use Rattle.text.proofs.AppendLaws.{kept_append, by-full, by_byte}
use Rattle.std.proofs.Common.{rules}
use Rattle.text.proofs.append_byte.Goals as goal

pub returns-then-fault-ne0 : goal.returns-then-fault-ne0
returns-then-fault-ne0 c =
    search (rules, kept_append)

pub returns-then-text-len-lt1 : goal.returns-then-text-len-lt1
returns-then-text-len-lt1 c =
    search (rules, by-full)

pub returns : goal.returns
returns c =
    search (rules, by_byte)
