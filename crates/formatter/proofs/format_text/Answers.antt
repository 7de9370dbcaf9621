use mathlib.Core.Path.{refl}
use Rattle.formatter.proofs.Arms.{by-white, by-line-comment, by-block-comment, by-type-specifier, by-rest, no-separator}
use borrow.Enum.Refused.{opened}
use Rattle.formatter.proofs.format_text.Goals as goal

pub format_by_value-requires : goal.format_by_value-requires
format_by_value-requires c =
    record { ready = c.requires.ready; i_value = no-separator _ _ (opened c.in_default.in_default-own.keys5) c.requires.i_value }

pub returns-in-Whitespace : goal.returns-in-Whitespace
returns-in-Whitespace c =
    by-white _ _ _ _ _ c.requires.ready _ c.requires.kind_value _ refl c.in-Whitespace.is

pub returns-in-LineComment : goal.returns-in-LineComment
returns-in-LineComment c =
    by-line-comment _ _ _ _ _ c.requires.ready _ c.requires.kind_value _ _ c.in-LineComment.is c.format_line_comment.ensures

pub returns-in-BlockComment : goal.returns-in-BlockComment
returns-in-BlockComment c =
    by-block-comment _ _ _ _ _ c.requires.ready _ c.requires.kind_value _ _ c.in-BlockComment.is c.format_block_comment.ensures

pub returns-in-TypeSpecifier : goal.returns-in-TypeSpecifier
returns-in-TypeSpecifier c =
    by-type-specifier _ _ _ _ _ c.requires.ready _ c.requires.kind_value _ _ c.in-TypeSpecifier.is c.format_type_specifier.ensures

pub returns-in_default : goal.returns-in_default
returns-in_default c =
    by-rest _ _ _ _ _ c.requires.ready _ c.requires.kind_value _ _ (opened c.in_default.in_default-own.keys5) c.requires.i_value c.format_by_value.ensures
