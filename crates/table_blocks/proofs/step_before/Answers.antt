use native.Mathlib.Omega.{arith}
use Rattle.table_blocks.proofs.Steps.{written_on, here, step-segment, step-stuck}
use Rattle.table_blocks.proofs.step_before.Goals as goal

pub one_step-requires-clause-written : goal.one_step-requires-clause-written
one_step-requires-clause-written c =
    let r = here _ _ c.args.t c.args.e _ c.requires.written c.requires.t_lt_e.0 c.requires.t_lt_e.1 c.requires.t_lt_e.2 _ c.word_at-word.ensures in
    let p = r.next_is.past in written_on _ _ (omega arith) c.requires.written

pub one_step-requires-clause-first : goal.one_step-requires-clause-first
one_step-requires-clause-first c =
    (here _ _ c.args.t c.args.e _ c.requires.written c.requires.t_lt_e.0 c.requires.t_lt_e.1 c.requires.t_lt_e.2 _ c.word_at-word.ensures).next_is

pub returns-then-word-e : goal.returns-then-word-e
returns-then-word-e c =
    step-segment _ _ c.args.t c.args.e _ c.requires.written c.requires.t_lt_e.0 c.requires.t_lt_e.1 c.requires.t_lt_e.2 _ c.word_at-word.ensures c.if-word-e.true

pub returns-else-word-e-2 : goal.returns-else-word-e-2
returns-else-word-e-2 c =
    step-stuck _ _ c.args.t c.args.e _ c.requires.written c.requires.t_lt_e.0 c.requires.t_lt_e.1 c.requires.t_lt_e.2 _ c.word_at-word.ensures c.if-word-e-2.false
