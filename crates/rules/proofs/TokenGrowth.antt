-- A token adds no more than its term of Wish 9's sum: rule by rule, then for any kind and however it is taken. Assumes nothing.
use mathlib.Core.Path.{◌≡◌, refl}
use mathlib.Core.Bool.{Bool, true, false}
use Rattle.std.specs.Prelude.{Option, None, Some, if◌then◌else◌}
use mathlib.Core.List.{List, [], ◌∷◌}
use Prim.Native.Nat.{ℕ, suc, ◌+◌, ◌-◌, ◌*◌, ◌≤◌}
use native.Mathlib.Omega.{arith}
use native.Mathlib.Nat.{mul_comm, suc-mul, mul-le-mul_left}
use lib.ListN.{length, replicate}
use Rattle.rules.specs.declared.TokenKind.{TokenKind}
use Rattle.rules.specs.declared.TokenKind.TheVariants as kind
use Rattle.rules.specs.declared.Turn.{Turn}
use Rattle.rules.specs.declared.Turn.TheVariants as turn
use Rattle.rules.specs.declared.SpanInfo.{SpanInfo}
use Rattle.rules.specs.declared.BlockInfo.{BlockInfo}
use Rattle.rules.specs.Bytes.{bytes}
use Rattle.rules.specs.Base.{same}
use Rattle.rules.specs.Tokens.{Token, Here, is}
use Rattle.rules.specs.Sheet.{Env}
use Rattle.rules.specs.Text.{indent_comment, line_feeds, mark}
use Rattle.rules.specs.Params.{get}
use Rattle.rules.specs.Indentation.{no_indentation}
use Rattle.rules.specs.InlineBlock.{build_info}
use Rattle.rules.specs.State.{State, on_text, on_block_level, get_indent}
use Rattle.rules.specs.Formatter.{format_reserved_word, push_reserved, span_info, format_line_comment, format_type_specifier, format_block_comment, format_top_level_reserved_word, format_top_level_reserved_word_no_indent, format_newline_after_reserved_word, indent_inlined, format_newline_reserved_word, format_reserved, format_with_spaces, format_with_space_after, format_without_spaces, format_no_change, format_opening_parentheses, format_closing_parentheses, format_placeholder, format_comma, format_query_separator, format_by_value, format_token}
use Rattle.rules.specs.Answer.{taken_as, taken}
use Rattle.rules.specs.Room.{room_laid_out, shown_by, room_of, counter_after}
use Rattle.rules.proofs.Lengths.{length-word, length-reserved, length-replicate, length-indent_comment}
use Rattle.rules.proofs.Growth.{Grows, ◌then◌, at_most, either, chosen, granted, stays, maybe, trims, trims_all, refuses, marked, indents, levels, inlines, moves, opens, closes-block, increases, marks_top, marks, indent_most, line_most, pushes, blank, blanked, length-get_indent, new_line_inner, closes, lines, top_lines}
use Rattle.rules.proofs.Rows.{counts}

-- a choice in the size, and in what is added to it
apart : (b : Bool) (n m : ℕ) → (if b then n + m else n + 1) ≤ n + 1 + (if b then m else 0)
apart true n m = omega arith
apart false n m = omega arith

module _ (e : Env) where
  -- with v shown
  abbrev GrowsBy : List ℕ → State → State → Type 0
  GrowsBy v s u = Grows e.room s u (room_laid_out e.options v)

  covered : (v : List ℕ) {n : ℕ} {s u : State} → n ≤ room_laid_out e.options v → Grows e.room s u n → GrowsBy v s u
  covered v l p = at_most (room_laid_out e.options v) l p

  -- ---- signs

  with_spaces : (v : List ℕ) {n : ℕ} {s : State} → length v ≤ n → Grows e.room s (format_with_spaces e v s) (n + 1)
  unfolding format_with_spaces
  with_spaces v l = pushes e v l then blank e

  space_after : (v : List ℕ) {n : ℕ} {s : State} → length v ≤ n → Grows e.room s (format_with_space_after e v s) (n + 1)
  unfolding format_with_space_after
  space_after v {n} l = at_most (n + 1) (omega arith) (trims then pushes e v l then blank e)

  without_spaces : (v : List ℕ) {s : State} → Grows e.room s (format_without_spaces e v s) (length v)
  unfolding format_without_spaces
  without_spaces v = at_most (length v) (omega arith) (trims then pushes e v {n = length v} (omega arith))

  comma : (v : List ℕ) {s : State} → Grows e.room s (format_comma e v s) (length v + 1 + line_most e)
  unfolding format_comma
  comma v = space_after v (omega arith) then maybe _ _ (lines e)

  abbrev between : ℕ
  between = e.options.lines_between_queries

  separator : (v : List ℕ) {s : State} → Grows e.room s (format_query_separator e v s) (length v + between)
  unfolding format_query_separator no_indentation
  separator v =
      let l = length-replicate between 10 in
      at_most (length v + between) (omega arith) (indents _ (omega arith) then trims then pushes e v {n = length v} (omega arith) then pushes e (replicate between 10) {n = between} (omega arith))

  -- the lines between queries count for `;` alone
  by_value : (v : List ℕ) {s : State} → GrowsBy v s (format_by_value e v s)
  unfolding format_by_value room_laid_out
  by_value v =
      let h = apart (same v (bytes ";")) (length v) between in
      covered v (omega arith)
      (chosen _ _ _ (comma v) (chosen _ _ _ (space_after v {n = length v} (omega arith)) (chosen _ _ _ (without_spaces v) (either _ _ _ (separator v) (with_spaces v {n = length v} (omega arith))))))

  -- ---- words and comments

  word : (t : Token) {s : State} → Grows e.room s (push_reserved e t s) (length t.value)
  unfolding push_reserved
  word t = pushes e _ (length-reserved e t.value)

  indents_inlined : (o : Option SpanInfo) {s : State} → Grows e.room s (indent_inlined o s) 0
  unfolding indent_inlined
  indents_inlined None {s} = stays s
  indents_inlined (Some sp) = maybe _ _ (increases sp)

  module _ (h : Here) where
    abbrev v : List ℕ
    v = h.token.value

    reserved : {s : State} → GrowsBy v s (format_reserved e h s)
    unfolding format_reserved room_laid_out
    reserved = covered v (omega arith) (word h.token then blank e then marks v)

    line_comment : {s : State} → GrowsBy v s (format_line_comment e h s)
    unfolding format_line_comment room_laid_out
    line_comment =
        covered v (omega arith)
        (chosen _ _ _ (lines e) (maybe _ _ (trims_all then pushes e (32 ∷ 32 ∷ []) {n = 2} (omega arith))) then pushes e v {n = length v} (omega arith) then closes e)

    type_specifier : {s : State} → GrowsBy v s (format_type_specifier e h s)
    unfolding format_type_specifier room_laid_out
    type_specifier = covered v (omega arith) (trims_all then pushes e v {n = length v} (omega arith) then maybe _ _ (blank e))

    -- an indent for each line feed
    block_comment : {s : State} → GrowsBy v s (format_block_comment e h s)
    unfolding format_block_comment room_laid_out
    block_comment {s} =
        granted (λ d.
        let ind = get_indent e false s in
        let i = length-get_indent e false s d in
        let c = length-indent_comment ind v in
        let m = mul-le-mul_left (line_feeds v) i in
        let f = suc-mul (indent_most e) (line_feeds v) in
        let g = mul_comm (indent_most e) (line_feeds v) in
        covered v (omega arith)
        (lines e then pushes e (indent_comment ind v) {n = length v + line_feeds v * indent_most e} (omega arith) then lines e))

    top_level : (sp : SpanInfo) {s : State} → GrowsBy v s (format_top_level_reserved_word e h sp s)
    unfolding format_top_level_reserved_word room_laid_out
    top_level sp =
        covered v (omega arith)
        (maybe _ _ (top_lines e) then word h.token then chosen _ _ _ (increases sp then lines e) (blank e) then marks_top v sp)

    top_level_no_indent : (sp : SpanInfo) {s : State} → GrowsBy v s (format_top_level_reserved_word_no_indent e h sp s)
    unfolding format_top_level_reserved_word_no_indent room_laid_out
    top_level_no_indent sp =
        covered v (omega arith)
        (maybe _ _ (top_lines e) then word h.token then chosen _ _ _ (lines e) (blank e) then marks_top v sp)

    newline_after : (sp : SpanInfo) {s : State} → GrowsBy v s (format_newline_after_reserved_word e h sp s)
    unfolding format_newline_after_reserved_word room_laid_out
    newline_after sp =
        covered v (omega arith)
        (chosen _ _ _ (top_lines e) (blanked e) then word h.token then increases sp then lines e then marks_top v sp)

    newline : {s : State} → GrowsBy v s (format_newline_reserved_word e h s)
    unfolding format_newline_reserved_word room_laid_out
    newline =
        covered v (omega arith)
        (chosen _ _ _ (indents_inlined _ then maybe _ _ trims then lines e) (blanked e) then word h.token then blank e then marks v)

    -- ---- brackets

    opening : (info : BlockInfo) {s : State} → GrowsBy v s (format_opening_parentheses e h info s)
    unfolding format_opening_parentheses room_laid_out
    opening info =
        let l = length-word e v in
        covered v (omega arith)
        (levels suc then refuses _ 6 (omega arith) then inlines _
        then maybe _ _ trims then maybe _ _ (blanked e) then maybe _ _ (trims_all then blank e)
        then opens _ then pushes e (format_reserved_word e v) {n = length v} (omega arith) then chosen _ _ _ (lines e) (maybe _ _ (blank e)))

    closing : {s : State} → GrowsBy v s (format_closing_parentheses e h s)
    unfolding format_closing_parentheses on_block_level room_laid_out
    closing {s} =
        let l = length-word e v in
        let w : length (format_reserved_word e v) ≤ length v = omega arith in
        covered v (omega arith)
        (levels (λ n. n - 1) then closes-block {i = s.indentation} refl
        then chosen _ _ _ (inlines _ then chosen _ _ _ (blanked e then with_spaces _ w) (space_after _ w))
        (refuses _ 8 (omega arith) then new_line_inner e _ then with_spaces _ w))

    -- ---- a token

    -- what is shown: its entry, or its own value
    placeholder : {s : State} → GrowsBy (get e.params h.token.key s.index v) s (format_placeholder e h.token s)
    unfolding format_placeholder room_laid_out
    placeholder {s} =
        let x = get e.params h.token.key s.index v in
        covered x (omega arith) (refuses _ 5 (omega arith) then pushes e x {n = length x} (omega arith) then blank e then maybe _ _ (moves suc))

    by_kind : (k : TokenKind) (s : State)
        → Grows e.room s (format_token e h k s) (if is k kind.Whitespace then 0 else room_laid_out e.options (if is k kind.Placeholder then get e.params h.token.key s.index v else v))
    unfolding format_token
    by_kind kind.Whitespace s = stays s
    by_kind kind.LineComment s = line_comment
    by_kind kind.BlockComment s = block_comment
    by_kind kind.ReservedTopLevel s = top_level (span_info e h s)
    by_kind kind.ReservedTopLevelNoIndent s = top_level_no_indent (span_info e h s)
    by_kind kind.ReservedNewlineAfter s = newline_after (span_info e h s)
    by_kind kind.ReservedNewline s = newline
    by_kind kind.Reserved s = reserved
    by_kind kind.OpenParen s = opening (build_info (h.token ∷ h.after))
    by_kind kind.CloseParen s = closing
    by_kind kind.Placeholder s = placeholder
    by_kind kind.TypeSpecifier s = type_specifier
    by_kind kind.String s = by_value v
    by_kind kind.Operator s = by_value v
    by_kind kind.Number s = by_value v
    by_kind kind.Word s = by_value v
    by_kind kind.Join s = by_value v

    by_turn : (t : Turn) (s : State) → Grows e.room s (taken_as t e h s) (room_of e.options e.params s.index t h.token)
    unfolding taken_as format_no_change room_of shown_by
    by_turn turn.Dropped s = stays s
    by_turn (turn.Switches off) s = stays s
    by_turn turn.LaidOut s = by_kind h.token.kind s
    by_turn turn.Copied s = pushes e v (omega arith)

    -- its term is what it adds, the state's count being the sum's
    pub token-grows : (t : Turn) (s : State) → Grows e.room s (taken t e h s) (room_of e.options e.params s.index t h.token)
    unfolding taken on_text
    token-grows t s = at_most _ (omega arith) (marked s then by_turn t (on_text mark s))

    pub token-counts : (t : Turn) (s : State) → (taken t e h s).index ≡ counter_after e.params t h.token s.index
    unfolding taken on_text counter_after
    token-counts t s = counts e h (on_text mark s) t
