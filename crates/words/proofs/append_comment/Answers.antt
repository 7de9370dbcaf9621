use Rattle.words.proofs.CommentLaws.{by-last-line, by-comment, by-comment-end}
use Rattle.std.proofs.Common.{rules}
use Rattle.words.proofs.append_comment.Goals as goal

pub returns-then-i-n : goal.returns-then-i-n
returns-then-i-n c =
    search (rules, by-last-line)

pub loop-i-preserved : goal.loop-i-preserved
loop-i-preserved c =
    search (rules, by-comment)

pub returns : goal.returns
returns c =
    search (rules, by-comment-end)
