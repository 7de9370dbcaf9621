use borrow.Author.Tests.{not-true}
use Rattle.words.proofs.CommentLaws.{by-other}
use Rattle.std.proofs.Common.{rules}
use Rattle.words.proofs.count_blanks.Goals as goal

pub returns-then-not-is_blank : goal.returns-then-not-is_blank
returns-then-not-is_blank c =
    search (rules, not-true, by-other)
