use native.Mathlib.Omega.{arith}
use Rattle.columns.proofs.MeasureLaws.{by-eight, by_run, by_turn, by_rest}
use Rattle.std.proofs.Common.{rules}
use Rattle.columns.proofs.by_columns.Goals as goal

pub passed-past-requires : goal.passed-past-requires
passed-past-requires c =
    let on = by-eight c.args.text.now c.args.start c.args.n c.args.from c.loop-i.i c.loop-i.m _ c.requires.0 c.loop-i.invariant (search rules) c.measured-eight.ensures in
    omega (arith, on.narrow)

pub tabbed-m-requires : goal.tabbed-m-requires
tabbed-m-requires c =
    let on = by_run c.args.text.now c.args.start c.args.n c.args.from c.loop-i.i c.loop-i.m _ c.requires.0 c.loop-i.invariant (search rules) c.measured-eight.ensures _ _ c.plain_run-run.ensures.0 c.plain_run-run.ensures.1 c.passed-past.ensures in
    omega (arith, on.narrow)

pub loop-i-preserved : goal.loop-i-preserved
loop-i-preserved c =
    by_turn c.args.text.now c.args.start c.args.n c.args.from c.loop-i.i c.loop-i.m _ c.requires.0 c.loop-i.invariant (search rules) c.measured-eight.ensures _ _ c.plain_run-run.ensures.0 c.plain_run-run.ensures.1 c.passed-past.ensures
    _ _ c.tab_run-tabs.ensures.0 c.tab_run-tabs.ensures.1 c.tabbed-m.ensures

pub returns : goal.returns
returns c =
    search (rules, by_rest)
