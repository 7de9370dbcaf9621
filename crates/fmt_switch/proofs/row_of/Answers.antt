use Rattle.fmt_switch.proofs.Table.{row_is}
use Rattle.fmt_switch.proofs.row_of.Goals as goal

pub returns : goal.returns
returns c = row_is _ _ c.requires
