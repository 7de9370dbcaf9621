-- Every rule opened by one name, for computing: sheets with what they should give, as rows.
use Rattle.std.specs.Prelude.{List, ℕ}
use Prim.Native.String.{String}
use Rattle.rules.specs.Bytes.{bytes}
use Rattle.rules.specs.Words.{word_at, place_at, counts_of, kinds, kind_of, key_of, token_from}
use Rattle.rules.specs.Checks.{first_of, head_words, token_words, param_words, token_places, param_places, keep_places, body_byte, checked_as, checked}
use Rattle.rules.specs.Sheet.{body_part, list_of, indent_from, case_from, inline_from, limit_from, options_of, key_read, tokens_before, name_of, value_of, params_of, keep_of, keeps_of, env_of, tokens_of}
use Rattle.rules.specs.Text.{indent_of, trimmed, new_line, closing_line}
use Rattle.rules.specs.Span.{sort_in, scan, top_level_tokens_info}
use Rattle.rules.specs.InlineBlock.{build_from, build_info, is_inline_block, is_active, cur_len, begins_inline, begin_if_possible}
use Rattle.rules.specs.Indentation.{no_indentation, no_previous, unfolded, indent_level, increase_top_level as increase_top, increase_block_level, pop_top, decrease_top_level, pop_block, decrease_block_level, mark_reserved, is_single, asked, mark_top_level, set_previous_reserved, set_previous_top_level, last_reserved, last_top_level, previous_reserved, previous_top_level_reserved, span}
use Rattle.rules.specs.Params.{by_name, by_number, by_index, source, value_in, value_at, value_from, entry, get, advances, is_refused, offends}
use Rattle.rules.specs.Switch.{◌↪◌, fmt_table, moved_by, moved_to, moved, read_all, answered as switch_answered, check_fmt_off, switch_in, turn_by, turn_of, switch_after, switched_on}
use Rattle.rules.specs.State.{start, on_text, on_indentation, on_inline_block, on_block_level, on_index, refuse_if, push_str, push, trim_spaces_end, trim_all_spaces_end, one_blank, get_indent, add_new_line_inner, add_new_line, close_line_comment, increase_top_level}
use Rattle.rules.specs.Formatter.{case_for, format_reserved_word, push_reserved, kind_is, kind_in, not_white, previous_token, previous_non_whitespace_token, next_non_whitespace_token, span_info, white_then_no_operator, after_line_feed, two_after_comma, format_line_comment, format_type_specifier, format_block_comment, new_top_line, format_top_level_reserved_word, format_top_level_reserved_word_no_indent, newline_before, format_newline_after_reserved_word, over_limit, indent_inlined, after_line_comment, format_newline_reserved_word, format_reserved, format_with_spaces, format_with_space_after, format_without_spaces, format_no_change, folds_in, cuts_before, blank_between, format_opening_parentheses, format_closing_parentheses, format_placeholder, span_within, comma_breaks, format_comma, format_query_separator, format_by_value, format_token}
use Rattle.rules.specs.Answer.{Answer, taken_as, report, unless_refused, finish, taken, format_from, format, is_withdrawn, answer_as, answer, report_of, buffer_of, reported, buffer_after}
use Rattle.rules.specs.Rows.{between, clip, shift, lays_out, row_of, rows_after, trim_row, rows_from, rows, placeholders_from, placeholders, entry_word, row_words, rows_words, to_lay_out, is_short, listed_as, listed, listed_report, listed_buffer, list_for, list_as, list_after}
use Rattle.rules.specs.Base.{choose, when, full}

pub record Sample : Type 0 where
  pub sheet : List ℕ
  pub room : ℕ
  pub wanted : Answer

abbrev pub row : String → ℕ → Answer → Sample
row s room a = record { sheet = bytes s; room = room; wanted = a }

abbrev pub wanted : Sample → Answer
wanted r = r.wanted

unfoldable pub computed : List ℕ → ℕ → Answer
unfolding
    word_at place_at counts_of kinds kind_of key_of token_from
    first_of head_words token_words param_words token_places param_places keep_places body_byte checked_as checked
    body_part list_of indent_from case_from inline_from limit_from options_of key_read tokens_before name_of value_of params_of keep_of keeps_of env_of tokens_of
    indent_of trimmed new_line closing_line
    sort_in scan top_level_tokens_info
    build_from build_info is_inline_block is_active cur_len begins_inline full begin_if_possible
    no_indentation no_previous unfolded indent_level increase_top increase_block_level pop_top decrease_top_level pop_block decrease_block_level mark_reserved
    is_single asked mark_top_level set_previous_reserved set_previous_top_level last_reserved last_top_level previous_reserved previous_top_level_reserved span
    by_name by_number by_index source value_in value_at value_from entry get advances is_refused offends
    ◌↪◌ fmt_table moved_by moved_to moved read_all switch_answered check_fmt_off switch_in turn_by turn_of switch_after switched_on
    choose when
    start on_text on_indentation on_inline_block on_block_level on_index refuse_if push_str push trim_spaces_end trim_all_spaces_end one_blank get_indent add_new_line_inner
    add_new_line close_line_comment increase_top_level
    case_for format_reserved_word push_reserved kind_is kind_in not_white previous_token previous_non_whitespace_token next_non_whitespace_token span_info
    white_then_no_operator after_line_feed two_after_comma format_line_comment format_type_specifier format_block_comment new_top_line format_top_level_reserved_word
    format_top_level_reserved_word_no_indent newline_before format_newline_after_reserved_word over_limit indent_inlined after_line_comment format_newline_reserved_word
    format_reserved format_with_spaces format_with_space_after format_without_spaces format_no_change folds_in cuts_before blank_between format_opening_parentheses
    format_closing_parentheses format_placeholder span_within comma_breaks format_comma format_query_separator format_by_value format_token
    taken_as report unless_refused finish taken format_from format is_withdrawn answer_as answer report_of buffer_of reported buffer_after
computed s room = answer s room

abbrev pub given : Sample → Answer
given r = answer r.sheet r.room

-- and those of the call with a list
unfoldable pub computed_list : List ℕ → ℕ → ℕ → List ℕ
unfolding
    computed
    between clip shift lays_out row_of rows_after trim_row rows_from rows placeholders_from placeholders
    entry_word row_words rows_words to_lay_out is_short listed_as listed listed_report listed_buffer list_for list_as list_after
computed_list s room k = list_after s room k
