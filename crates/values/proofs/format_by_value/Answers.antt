use Rattle.values.proofs.ByValue.{is-comma, is-colon, is-dot, is-other}
use Rattle.values.proofs.format_by_value.Goals as goal

pub returns-then-is_byte : goal.returns-then-is_byte
returns-then-is_byte c =
    is-comma _ _ _ _ _ _ _ _ c.is_byte.ensures c.if-is_byte.true c.format_comma.ensures

pub returns-then-is_byte-2 : goal.returns-then-is_byte-2
returns-then-is_byte-2 c =
    is-colon _ _ _ _ _ _ _ _ c.is_byte.ensures _ c.is_byte-2.ensures c.if-is_byte.false c.if-is_byte-2.true c.format_with_space_after.ensures

pub returns-then-is_byte-3 : goal.returns-then-is_byte-3
returns-then-is_byte-3 c =
    is-dot _ _ _ _ _ _ _ _ c.is_byte.ensures _ c.is_byte-2.ensures c.if-is_byte.false _ c.is_byte-3.ensures c.if-is_byte-2.false c.if-is_byte-3.true c.format_without_spaces.ensures

pub returns : goal.returns
returns c =
    is-other _ _ _ _ _ _ _ _ c.is_byte.ensures _ c.is_byte-2.ensures c.if-is_byte.false _ c.is_byte-3.ensures c.if-is_byte-2.false c.if-is_byte-3.false c.requires.i_value c.format_with_spaces.ensures
