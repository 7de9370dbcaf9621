-- What each handler does to the query's text, all that it reads of the rest given as plain values.
use Rattle.std.specs.Prelude.{Bool, List, [], ◌∷◌, ℕ, replicate}
use Rattle.rules.specs.declared.FormatOptions.{FormatOptions}
use Rattle.rules.specs.Base.{◌▹◌, choose, when}
use Rattle.rules.specs.Bytes.{bytes}
use Rattle.rules.specs.Text.{Text, append, refuse, cut_blanks, cut_white, indent_of, indent_comment, is_on, new_line, closing_line}

-- a new line at a level
unfoldable pub line_at : ℕ → FormatOptions → ℕ → Text → Text
line_at room o level w = new_line room (is_on o.inline) (indent_of o.indent level) w

-- the new line that closes a line comment
unfoldable pub closing_at : ℕ → FormatOptions → ℕ → Text → Text
closing_at room o level w = closing_line room o.inline (indent_of o.indent level) w

unfoldable pub blank : ℕ → Text → Text
blank room w = append room (32 ∷ []) w

unfoldable pub one_blank : ℕ → Text → Text
one_blank room w = w ▹ cut_blanks ▹ blank room

-- ---- comments and type specifiers

-- two blanks after a comma
unfoldable pub after_comma : ℕ → Text → Text
after_comma room w = w ▹ cut_white ▹ append room (bytes "  ")

unfoldable pub line_comment : ℕ → FormatOptions → ℕ → Bool → Bool → List ℕ → Text → Text
line_comment room o level breaks comma v w =
    w ▹ choose breaks (line_at room o level) (when comma (after_comma room)) ▹ append room v ▹ closing_at room o level

unfoldable pub type_specifier : ℕ → List ℕ → Bool → Text → Text
type_specifier room v spaced w = w ▹ cut_white ▹ append room v ▹ when spaced (blank room)

unfoldable pub block_comment : ℕ → FormatOptions → ℕ → List ℕ → Text → Text
block_comment room o level v w = w ▹ line_at room o level ▹ append room (indent_comment (indent_of o.indent level) v) ▹ line_at room o level

-- ---- reserved words: out and into are the levels before and after the word

-- refusal 6 where the stack is full, and a new line
unfoldable pub deeper : ℕ → FormatOptions → Bool → ℕ → Text → Text
deeper room o six into w = w ▹ when six (refuse 6) ▹ line_at room o into

unfoldable pub top_level : ℕ → FormatOptions → Bool → ℕ → List ℕ → Bool → Bool → ℕ → Text → Text
top_level room o before out v after six into w =
    w ▹ when before (line_at room o out) ▹ append room v ▹ choose after (deeper room o six into) (blank room)

unfoldable pub newline_after : ℕ → FormatOptions → Bool → ℕ → List ℕ → Bool → ℕ → Text → Text
newline_after room o before out v six into w =
    w ▹ choose before (line_at room o out) (one_blank room) ▹ append room v ▹ deeper room o six into

-- the new line before a newline word: what was inlined is indented, and a line comment's indent is undone
unfoldable pub newline_break : ℕ → FormatOptions → Bool → Bool → ℕ → Text → Text
newline_break room o six comment level w = w ▹ when six (refuse 6) ▹ when comment cut_blanks ▹ line_at room o level

unfoldable pub newline : ℕ → FormatOptions → Bool → Bool → Bool → ℕ → List ℕ → Text → Text
newline room o breaks six comment level v w =
    w ▹ choose breaks (newline_break room o six comment level) (one_blank room) ▹ append room v ▹ blank room

-- ---- values

unfoldable pub with_spaces : ℕ → List ℕ → Text → Text
with_spaces room v w = w ▹ append room v ▹ blank room

unfoldable pub with_space_after : ℕ → List ℕ → Text → Text
with_space_after room v w = w ▹ cut_blanks ▹ append room v ▹ blank room

unfoldable pub without_spaces : ℕ → List ℕ → Text → Text
without_spaces room v w = w ▹ cut_blanks ▹ append room v

unfoldable pub comma : ℕ → FormatOptions → List ℕ → Bool → ℕ → Text → Text
comma room o v breaks level w = w ▹ with_space_after room v ▹ when breaks (line_at room o level)

unfoldable pub separator : ℕ → List ℕ → ℕ → Text → Text
separator room v feeds w = w ▹ without_spaces room v ▹ append room (replicate feeds 10)

unfoldable pub placeholder : ℕ → Bool → List ℕ → Text → Text
placeholder room five v w = w ▹ when five (refuse 5) ▹ with_spaces room v

-- ---- brackets

unfoldable pub fold : ℕ → Text → Text
fold room w = w ▹ cut_white ▹ blank room

-- refusal 6, and the blanks before an opening bracket
unfoldable pub before_opening : ℕ → Bool → Bool → Bool → Bool → Text → Text
before_opening room six cuts between folded w =
    w ▹ when six (refuse 6) ▹ when cuts cut_blanks ▹ when between (one_blank room) ▹ when folded (fold room)

-- a new line after it, but for an inline block, where `case` alone has a blank after it
unfoldable pub after_opening : ℕ → FormatOptions → Bool → Bool → ℕ → Text → Text
after_opening room o inlined is_case level w = choose inlined (when is_case (blank room)) (line_at room o level) w

-- a bracket that closes an inline block; `end` has a blank before it
unfoldable pub closing_inline : ℕ → Bool → List ℕ → Text → Text
closing_inline room is_end v w = choose is_end (λ u. u ▹ one_blank room ▹ with_spaces room v) (with_space_after room v) w

unfoldable pub closing : ℕ → FormatOptions → Bool → ℕ → List ℕ → Text → Text
closing room o eight level v w = w ▹ when eight (refuse 8) ▹ line_at room o level ▹ with_spaces room v
