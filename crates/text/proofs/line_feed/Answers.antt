use Rattle.text.proofs.LineLaws.{by-fed, by-feed}
use Rattle.std.proofs.Common.{rules}
use Rattle.text.proofs.line_feed.Goals as goal

pub returns-then-ends_line : goal.returns-then-ends_line
returns-then-ends_line c =
    search (rules, by-fed)

pub returns : goal.returns
returns c =
    search (rules, by-feed)
