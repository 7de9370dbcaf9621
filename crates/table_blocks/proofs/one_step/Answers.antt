use mathlib.Core.Path.{refl}
use Rattle.table_blocks.proofs.Steps.{resumes, shorter, one-segment}
use Rattle.table_blocks.proofs.one_step.Goals as goal

pub overflow_sub-result : goal.overflow_sub-result
overflow_sub-result c =
    shorter _ _ c.args.t c.args.u c.args.length _ c.requires.written c.if-u-n.true c.requires.t_len.0 c.requires.t_len.1 c.requires.first _ c.word_at-next.ensures

pub returns-then-u-n : goal.returns-then-u-n
returns-then-u-n c =
    record {
      segment = λ h. one-segment _ _ c.args.t c.args.u c.args.length _ c.requires.written c.if-u-n.true c.requires.t_len.0 c.requires.t_len.1 c.requires.first _ c.word_at-next.ensures;
      last_value = (refl, resumes _ _ c.args.t c.args.u c.args.length _ c.requires.written c.if-u-n.true c.requires.t_len.0 c.requires.t_len.1 c.requires.first _ c.word_at-next.ensures);
    }
