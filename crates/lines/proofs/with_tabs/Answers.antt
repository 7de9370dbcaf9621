use native.Mathlib.Omega.{arith}
use Rattle.columns.proofs.MeasureLaws.{by_rest}
use Rattle.lines.proofs.StretchLaws.{no_tab_before, by_part, by-tab-line}
use Rattle.std.proofs.Common.{rules}
use Rattle.lines.proofs.with_tabs.Goals as goal

pub without_tabs-lines-requires : goal.without_tabs-lines-requires
without_tabs-lines-requires c =
    search (rules, no_tab_before)

pub by_columns-m-requires : goal.by_columns-m-requires
by_columns-m-requires c =
    let p = by_part c.args.text.now c.args.start c.args.n c.args.from c.loop-i.i c.loop-i.m (search rules) c.loop-i.invariant c.past_last-before.result c.without_tabs-lines.result c.without_tabs-lines.ensures (search rules) in
    (search rules, p.under, omega (arith, p.narrow))

pub loop-i-preserved : goal.loop-i-preserved
loop-i-preserved c =
    by-tab-line c.args.text.now c.args.start c.args.n c.args.from c.loop-i.i c.loop-i.m (search rules) c.loop-i.invariant _ _ c.without_tabs-lines.ensures _ _ (search rules) c.by_columns-m.ensures

pub returns : goal.returns
returns c =
    search (rules, by_rest)
