use Rattle.rows.proofs.RowLaws.{trim_alone}
use Rattle.rows.proofs.trim.Goals as goal

pub returns-then-lead-eq0 : goal.returns-then-lead-eq0
returns-then-lead-eq0 c = rw (trim_alone c.args.end c.args.lead _ c.if-lead-eq0.true) c.clip.ensures
