use Rattle.report.proofs.ReportLaws.{by-short, by-finished, by-trimmed}
use Rattle.std.proofs.Common.{rules}
use Rattle.report.proofs.finish.Goals as goal

pub lines_width-size-requires : goal.lines_width-size-requires
lines_width-size-requires c =
    by-short _ c.args.t c.args.text.now _ _ _ _ c.trim_all_spaces_end-cut.ensures c.trim_start-done.ensures c.requires.text_len_bound

pub returns : goal.returns
returns c =
    search (rules, by-finished, by-trimmed)
