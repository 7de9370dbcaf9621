use native.Mathlib.Omega.{arith}
use mathlib.Core.Path.{ap, ◌∙◌}
use Rattle.std.specs.Int.{from_bool}
use Rattle.rules.specs.Sheet.{token_of}
use Rattle.around.proofs.Lists.{readable_length}
use Rattle.table_blocks.proofs.Fills.{short-of, length-small, newlines_small, forbidden-small, bool-le, counted-on}
use Rattle.table_blocks.proofs.count_in.Goals as goal

pub overflow_add-result : goal.overflow_add-result
overflow_add-result c =
    let h = length-small _ _ _ c.args.s (short-of _ _ _ c.requires.readable) c.requires.j_lt_n.1 in
    let k = readable_length _ _ _ _ _ c.requires.readable c.requires.j_lt_n.0 c.value_len.ensures in omega arith

pub overflow_add-result-2 : goal.overflow_add-result-2
overflow_add-result-2 c =
    let h = newlines_small _ _ _ c.args.s (short-of _ _ _ c.requires.readable) c.requires.j_lt_n.1 in
    let k = bool-le (token_of c.args.sheet.now c.args.base) c.args.n _ _ c.from.ensures in omega arith

pub overflow_add-result-3 : goal.overflow_add-result-3
overflow_add-result-3 c =
    let h = forbidden-small _ _ _ c.args.s (short-of _ _ _ c.requires.readable) c.requires.j_lt_n.1 in
    let k = bool-le (token_of c.args.sheet.now c.args.base) c.args.n _ _ c.from-2.ensures in omega arith

pub returns : goal.returns
returns c =
    counted-on _ _ c.args.j c.args.s c.requires.j_lt_n.0 c.requires.j_lt_n.1 _ _ _ c.value_len.ensures (c.from.ensures ∙ rw (c.is_newline.ensures, c.requires.part_value)) (c.from-2.ensures ∙ ap from_bool c.is_forbidden_token.ensures)
