use Rattle.formatter.specs.Run.{changes_in}
use Rattle.formatter.proofs.Arms.{never-changes}
use borrow.Enum.Refused.{opened}
use Rattle.formatter.proofs.changes.Goals as goal

pub returns-in-LaidOut : goal.returns-in-LaidOut
unfolding changes_in
returns-in-LaidOut c =
    rw c.in-LaidOut.is c.changes_state.ensures

pub returns-in_default : goal.returns-in_default
returns-in_default c =
    never-changes _ _ _ (opened c.in_default.in_default-own.keys2)
