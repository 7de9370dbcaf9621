use Rattle.fmt_switch.specs.Of.{switch_of}
use Rattle.judge.proofs.TokenLaws.{walking_no, walking_on}
use Rattle.std.proofs.Common.{rules}
use Rattle.judge.proofs.compare.Goals as goal

pub returns-in_default : goal.returns-in_default
returns-in_default c = search (rules, walking_no)

pub loop-i-preserved : goal.loop-i-preserved
loop-i-preserved c = walking_on c.args.sheet.now c.args.c c.args.text.now c.loop-i.at c.loop-i.index c.loop-i.i (switch_of c.loop-i.switch) c.loop-i.invariant c.loop-i-test.true _ c.body_at-base.ensures _ c.token_at-t.ensures _ c.turn_at-turn.ensures _ c.due_of-due.ensures _ c.reach_due.ensures c.in-Some.end c.in-Some.is _ c.after-switch.ensures
