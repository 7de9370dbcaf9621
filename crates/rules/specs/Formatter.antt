-- formatter.rs, function by function.
use Rattle.std.specs.Prelude.{if◌then◌else◌, Bool, true, false, not, ◌&&◌, ◌||◌, ℕ, suc, ◌+◌, ◌-◌, eqb, leb, ltb, length, replicate, Option, None, Some, is_some}
use mathlib.Core.List.{List, [], ◌∷◌, tail}
use Rattle.rules.specs.declared.TokenKind.{TokenKind}
use Rattle.rules.specs.declared.TokenKind.TheVariants as kind
use Rattle.rules.specs.declared.Case.{Case}
use Rattle.rules.specs.declared.Case.TheVariants as case
use Rattle.rules.specs.declared.SpanInfo.{SpanInfo}
use Rattle.rules.specs.declared.BlockInfo.{BlockInfo}
use Rattle.rules.specs.Bytes.{bytes}
use Rattle.rules.specs.Base.{◌▹◌, same, any_of, first, head?, holds, or_zero, choose, when, full}
use Rattle.rules.specs.Tokens.{Token, Here, is, one_of}
use Rattle.rules.specs.Sheet.{Env}
use Rattle.rules.specs.Text.{in_case, is_lower, equalize_whitespace, indent_comment, is_on}
use Rattle.rules.specs.Span.{top_level_tokens_info}
use Rattle.rules.specs.InlineBlock.{build_info, is_active, cur_len, begins_inline, begin_if_possible}
use Rattle.rules.specs.Indentation.{no_indentation, unfolded, increase_block_level, decrease_top_level, decrease_block_level, set_previous_reserved, set_previous_top_level, previous_reserved, previous_top_level_reserved, span}
use Rattle.rules.specs.Params.{get, advances, offends}
use Rattle.rules.specs.State.{State, on_indentation, on_inline_block, on_block_level, on_index, refuse_if, push_str, push, trim_spaces_end, trim_all_spaces_end, one_blank, get_indent, add_new_line_inner, add_new_line, close_line_comment, increase_top_level}

-- ---- words and neighbours

-- a keep word stays as it is
unfoldable pub case_for : Env → List ℕ → Case
case_for e v = if any_of (same v) e.keep then case.AsIs else e.options.casing

unfoldable pub format_reserved_word : Env → List ℕ → List ℕ
format_reserved_word e v = in_case (case_for e v) v

unfoldable pub push_reserved : Env → Token → State → State
push_reserved e t s = push_str e (equalize_whitespace (format_reserved_word e t.value)) s

unfoldable pub kind_is : TokenKind → Token → Bool
kind_is k t = is t.kind k

unfoldable pub kind_in : List TokenKind → Token → Bool
kind_in ks t = one_of ks t.kind

unfoldable pub not_white : Token → Bool
not_white t = not (is t.kind kind.Whitespace)

unfoldable pub previous_token : Here → Option Token
previous_token h = head? h.before

unfoldable pub previous_non_whitespace_token : Here → Option Token
previous_non_whitespace_token h = first not_white h.before

unfoldable pub next_non_whitespace_token : Here → Option Token
next_non_whitespace_token h = first not_white h.after

unfoldable pub span_info : Env → Here → State → SpanInfo
span_info e h s = top_level_tokens_info e.options s.block_level (cur_len s.inline_block) h.after

-- ---- comments and type specifiers

-- the token after is white, and the one after that is there and no operator
unfoldable pub white_then_no_operator : Here → Bool
white_then_no_operator h = holds (kind_is kind.Whitespace) (head? h.after) && holds (λ t. not (kind_is kind.Operator t)) (head? (tail h.after))

unfoldable pub after_line_feed : Here → Bool
after_line_feed h = holds (λ t. any_of (eqb 10) t.value) (previous_token h)

unfoldable pub two_after_comma : Here → Bool
two_after_comma h = holds (λ t. same t.value (bytes ",")) (head? (tail h.before))

unfoldable pub format_line_comment : Env → Here → State → State
format_line_comment e h s =
    s ▹ choose (after_line_feed h && white_then_no_operator h) (add_new_line e)
    (when (two_after_comma h) (λ r. r ▹ trim_all_spaces_end ▹ push_str e (bytes "  ")))
    ▹ push_str e h.token.value ▹ close_line_comment e

unfoldable pub format_type_specifier : Env → Here → State → State
format_type_specifier e h s =
    s ▹ trim_all_spaces_end ▹ push_str e h.token.value
    ▹ when (holds (kind_in (kind.Reserved ∷ kind.ReservedNewline ∷ kind.ReservedNewlineAfter ∷ [])) (next_non_whitespace_token h)) (push e 32)

unfoldable pub format_block_comment : Env → Here → State → State
format_block_comment e h s =
    s ▹ add_new_line e ▹ push_str e (indent_comment (get_indent e false s) h.token.value) ▹ add_new_line e

-- ---- reserved words

-- a new line, one top level out
unfoldable pub new_top_line : Env → State → State
new_top_line e s = s ▹ on_indentation decrease_top_level ▹ add_new_line e

unfoldable pub format_top_level_reserved_word : Env → Here → SpanInfo → State → State
format_top_level_reserved_word e h sp s =
    s ▹ when sp.newline_before (new_top_line e)
    ▹ push_reserved e h.token
    ▹ choose (sp.newline_after && not h.token.create) (λ r. r ▹ increase_top_level sp ▹ add_new_line e) (push e 32)
    ▹ on_indentation (set_previous_top_level h.token.value sp)

unfoldable pub format_top_level_reserved_word_no_indent : Env → Here → SpanInfo → State → State
format_top_level_reserved_word_no_indent e h sp s =
    s ▹ when sp.newline_before (new_top_line e)
    ▹ push_reserved e h.token
    ▹ choose sp.newline_after (add_new_line e) (push e 32)
    ▹ on_indentation (set_previous_top_level h.token.value sp)

-- without a limit or a top-level word before it a new line; else only where the two are longer than the limit
unfoldable pub newline_before : Option ℕ → Option SpanInfo → ℕ → Bool
newline_before None sp n = true
newline_before (Some most) None n = true
newline_before (Some most) (Some sp) n = ltb most (sp.full_span + n)

unfoldable pub format_newline_after_reserved_word : Env → Here → SpanInfo → State → State
format_newline_after_reserved_word e h sp s =
    s ▹ choose (newline_before e.options.max_inline_top_level (previous_top_level_reserved s.indentation) (length h.token.value)) (new_top_line e) (one_blank e)
    ▹ push_reserved e h.token
    ▹ increase_top_level sp ▹ add_new_line e
    ▹ on_indentation (set_previous_top_level h.token.value sp)

unfoldable pub over_limit : Option ℕ → ℕ → Bool
over_limit None n = true
over_limit (Some most) n = ltb most n

-- a top-level word that was inlined is indented now
unfoldable pub indent_inlined : Option SpanInfo → State → State
indent_inlined None s = s
indent_inlined (Some sp) s = when (not sp.newline_after) (increase_top_level sp) s

unfoldable pub after_line_comment : Here → Bool
after_line_comment h = holds (kind_is kind.LineComment) (previous_non_whitespace_token h)

unfoldable pub format_newline_reserved_word : Env → Here → State → State
format_newline_reserved_word e h s =
    s ▹ choose (after_line_comment h || not (is_active s.inline_block) && over_limit e.options.max_inline_arguments (span s.indentation))
    (λ r. r ▹ indent_inlined (previous_top_level_reserved s.indentation) ▹ when (after_line_comment h) trim_spaces_end ▹ add_new_line e)
    (one_blank e)
    ▹ push_reserved e h.token ▹ push e 32
    ▹ on_indentation (set_previous_reserved h.token.value)

unfoldable pub format_reserved : Env → Here → State → State
format_reserved e h s = s ▹ push_reserved e h.token ▹ push e 32 ▹ on_indentation (set_previous_reserved h.token.value)

-- ---- values

unfoldable pub format_with_spaces : Env → List ℕ → State → State
format_with_spaces e v s = s ▹ push_str e v ▹ push e 32

unfoldable pub format_with_space_after : Env → List ℕ → State → State
format_with_space_after e v s = s ▹ trim_spaces_end ▹ push_str e v ▹ push e 32

unfoldable pub format_without_spaces : Env → List ℕ → State → State
format_without_spaces e v s = s ▹ trim_spaces_end ▹ push_str e v

unfoldable pub format_no_change : Env → Here → State → State
format_no_change e h s = push_str e h.token.value s

-- ---- brackets

-- top level ( block ), or top level ( block ) AS word (args, ...)
unfoldable pub folds_in : SpanInfo → Bool
folds_in sp = leb sp.blocks 2 && (sp.newline_after && eqb sp.arguments 1)

-- the blanks before are cut, unless the query had white there, a bracket or a line comment
unfoldable pub cuts_before : Here → Bool
cuts_before h =
    not (holds (kind_in (kind.Whitespace ∷ kind.OpenParen ∷ kind.LineComment ∷ [])) (previous_token h))
    || same h.token.value (bytes "[") && holds (kind_in (kind.CloseParen ∷ kind.Word ∷ kind.Reserved ∷ [])) (previous_non_whitespace_token h)

unfoldable pub blank_between : Here → Bool
blank_between h = not (same h.token.value (bytes "[")) && holds (kind_in (kind.CloseParen ∷ kind.Reserved ∷ [])) (previous_non_whitespace_token h)

unfoldable pub format_opening_parentheses : Env → Here → BlockInfo → State → State
format_opening_parentheses e h info s =
    let inlined = begins_inline e.options info s.inline_block in
    let folded = not inlined && (is_some e.options.max_inline_top_level && (holds (kind_is kind.ReservedTopLevel) (previous_non_whitespace_token h) && holds folds_in (previous_top_level_reserved s.indentation))) in
    s ▹ on_block_level suc
    ▹ refuse_if (full s.indentation.indent_types) 6
    ▹ on_inline_block (begin_if_possible (inlined && not (full s.indentation.indent_types)) info.length)
    ▹ when (cuts_before h) trim_spaces_end
    ▹ when (blank_between h) (one_blank e)
    ▹ when folded (λ r. r ▹ trim_all_spaces_end ▹ push e 32)
    ▹ on_indentation (increase_block_level folded)
    ▹ push_str e (format_reserved_word e h.token.value)
    ▹ choose (not inlined) (add_new_line e) (when (is_lower h.token.value (bytes "case")) (push e 32))

unfoldable pub format_closing_parentheses : Env → Here → State → State
format_closing_parentheses e h s =
    let v = format_reserved_word e h.token.value in
    let closed = decrease_block_level s.indentation in
    s ▹ on_block_level (λ n. n - 1)
    ▹ on_indentation (λ i. closed.left)
    ▹ choose (is_active s.inline_block)
    (λ r. r ▹ on_inline_block tail ▹ choose (is_lower v (bytes "end")) (λ q. q ▹ one_blank e ▹ format_with_spaces e v) (format_with_space_after e v))
    (λ r. r ▹ refuse_if (closed.folded && (not (is_on e.options.inline) && eqb (unfolded closed.left.indent_types) 0)) 8
    ▹ add_new_line_inner e closed.folded ▹ format_with_spaces e v)

-- ---- placeholders and signs

unfoldable pub format_placeholder : Env → Token → State → State
format_placeholder e t s =
    s ▹ refuse_if (offends e.params t.key) 5
    ▹ push_str e (get e.params t.key s.index t.value) ▹ push e 32
    ▹ when (advances e.params t.key) (on_index suc)

unfoldable pub span_within : ℕ → Option SpanInfo → Bool
span_within most None = false
span_within most (Some sp) = leb sp.full_span most

-- a comma starts a new line, but for an inline block, a LIMIT clause and arguments that fit
unfoldable pub comma_breaks : Env → State → Bool
comma_breaks e s =
    not (is_active s.inline_block
    || (holds (λ v. is_lower v (bytes "limit")) (previous_reserved s.indentation)
    || span_within (or_zero e.options.max_inline_arguments) (previous_top_level_reserved s.indentation)))

unfoldable pub format_comma : Env → List ℕ → State → State
format_comma e v s = s ▹ format_with_space_after e v ▹ when (comma_breaks e s) (add_new_line e)

unfoldable pub format_query_separator : Env → List ℕ → State → State
format_query_separator e v s =
    s ▹ on_indentation (λ i. no_indentation) ▹ trim_spaces_end ▹ push_str e v ▹ push_str e (replicate e.options.lines_between_queries 10)

-- strings, operators, numbers, words and joins go by their value
unfoldable pub format_by_value : Env → List ℕ → State → State
format_by_value e v s =
    s ▹ choose (same v (bytes ",")) (format_comma e v)
    (choose (same v (bytes ":")) (format_with_space_after e v)
    (choose (same v (bytes ".")) (format_without_spaces e v)
    (choose (same v (bytes ";")) (format_query_separator e v)
    (format_with_spaces e v))))

-- ---- one token, laid out

unfoldable pub format_token : Env → Here → TokenKind → State → State
format_token e h kind.Whitespace s = s
format_token e h kind.LineComment s = format_line_comment e h s
format_token e h kind.BlockComment s = format_block_comment e h s
format_token e h kind.ReservedTopLevel s = format_top_level_reserved_word e h (span_info e h s) s
format_token e h kind.ReservedTopLevelNoIndent s = format_top_level_reserved_word_no_indent e h (span_info e h s) s
format_token e h kind.ReservedNewlineAfter s = format_newline_after_reserved_word e h (span_info e h s) s
format_token e h kind.ReservedNewline s = format_newline_reserved_word e h s
format_token e h kind.Reserved s = format_reserved e h s
format_token e h kind.OpenParen s = format_opening_parentheses e h (build_info (h.token ∷ h.after)) s
format_token e h kind.CloseParen s = format_closing_parentheses e h s
format_token e h kind.Placeholder s = format_placeholder e h.token s
format_token e h kind.TypeSpecifier s = format_type_specifier e h s
format_token e h kind.String s = format_by_value e h.token.value s
format_token e h kind.Operator s = format_by_value e h.token.value s
format_token e h kind.Number s = format_by_value e h.token.value s
format_token e h kind.Word s = format_by_value e h.token.value s
format_token e h kind.Join s = format_by_value e h.token.value s
