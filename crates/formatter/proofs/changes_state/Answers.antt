use Rattle.formatter.specs.Run.{changes_kind}
use Rattle.formatter.proofs.Arms.{always_changes}
use Rattle.formatter.proofs.changes_state.Goals as goal

pub returns-in-Whitespace : goal.returns-in-Whitespace
unfolding changes_kind
returns-in-Whitespace c =
    rw c.in-Whitespace.is

pub returns-in-LineComment : goal.returns-in-LineComment
unfolding changes_kind
returns-in-LineComment c =
    rw c.in-LineComment.is

pub returns-in-BlockComment : goal.returns-in-BlockComment
unfolding changes_kind
returns-in-BlockComment c =
    rw c.in-BlockComment.is

pub returns-in-TypeSpecifier : goal.returns-in-TypeSpecifier
unfolding changes_kind
returns-in-TypeSpecifier c =
    rw c.in-TypeSpecifier.is

pub returns-in-String : goal.returns-in-String
unfolding changes_kind
returns-in-String c =
    rw c.in-String.is c.is_byte.ensures

pub returns-in-Operator : goal.returns-in-Operator
unfolding changes_kind
returns-in-Operator c =
    rw c.in-Operator.is c.is_byte-in-Operator.ensures

pub returns-in-Number : goal.returns-in-Number
unfolding changes_kind
returns-in-Number c =
    rw c.in-Number.is c.is_byte-in-Number.ensures

pub returns-in-Word : goal.returns-in-Word
unfolding changes_kind
returns-in-Word c =
    rw c.in-Word.is c.is_byte-in-Word.ensures

pub returns-in-Join : goal.returns-in-Join
unfolding changes_kind
returns-in-Join c =
    rw c.in-Join.is c.is_byte-in-Join.ensures

pub returns-in_default : goal.returns-in_default
returns-in_default c =
    always_changes _ _ c.in_default.in_default-own.keys10
