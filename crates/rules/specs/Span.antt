-- formatter.rs, `top_level_tokens_info`: the span of a top-level word, read from the tokens after it.
use Rattle.std.specs.Prelude.{if◌then◌else◌, Bool, true, false, not, ◌&&◌, ◌||◌, List, [], ◌∷◌, ℕ, ◌+◌, ◌-◌, min, max, eqb, ltb, length}
use Rattle.rules.specs.declared.TokenKind.{TokenKind}
use Rattle.rules.specs.declared.TokenKind.TheVariants as kind
use Rattle.rules.specs.declared.Sort.{Sort}
use Rattle.rules.specs.declared.Sort.TheVariants as sort
use Rattle.rules.specs.declared.Scan.{Scan}
use Rattle.rules.specs.declared.SpanInfo.{SpanInfo}
use Rattle.rules.specs.declared.FormatOptions.{FormatOptions}
use Rattle.rules.specs.Bytes.{bytes}
use Rattle.rules.specs.Base.{same, or_zero}
use Rattle.rules.specs.Tokens.{Token}

-- an operator is `;`, `,` or neither
abbrev pub operator_sort : Bool → Bool → Sort
operator_sort true comma = sort.Semicolon
operator_sort false true = sort.Comma
operator_sort false false = sort.Other

-- the sort of a kind, its value being `;` or `,` or neither
abbrev pub sort_of : TokenKind → Bool → Bool → Sort
sort_of kind.TypeSpecifier semicolon comma = sort.Other
sort_of kind.Whitespace semicolon comma = sort.White
sort_of kind.String semicolon comma = sort.Other
sort_of kind.Reserved semicolon comma = sort.Other
sort_of kind.ReservedTopLevel semicolon comma = sort.Head
sort_of kind.ReservedTopLevelNoIndent semicolon comma = sort.Head
sort_of kind.ReservedNewline semicolon comma = sort.Other
sort_of kind.ReservedNewlineAfter semicolon comma = sort.Head
sort_of kind.Operator semicolon comma = operator_sort semicolon comma
sort_of kind.OpenParen semicolon comma = sort.Open
sort_of kind.CloseParen semicolon comma = sort.Close
sort_of kind.LineComment semicolon comma = sort.Other
sort_of kind.BlockComment semicolon comma = sort.Other
sort_of kind.Number semicolon comma = sort.Other
sort_of kind.Placeholder semicolon comma = sort.Other
sort_of kind.Word semicolon comma = sort.Other
sort_of kind.Join semicolon comma = sort.Other

unfoldable pub sort_in : Token → Sort
sort_in t = sort_of t.kind (same t.value (bytes ";")) (same t.value (bytes ","))

-- a token of the sort stops the reading, o being the open level
abbrev pub stops_at : ℕ → Sort → ℕ → Bool
stops_at o sort.Open level = false
stops_at o sort.Close level = ltb (level - 1) o
stops_at o sort.Head level = eqb level o
stops_at o sort.White level = false
stops_at o sort.Semicolon level = eqb level o
stops_at o sort.Comma level = false
stops_at o sort.Other level = false

-- one more where the level is the open level
abbrev pub one_more : ℕ → ℕ → ℕ → ℕ
one_more level o x = if eqb level o then x + 1 else x

-- what a token of the sort adds, its value being len bytes long; white adds 1 however long it is
abbrev pub counted_in : ℕ → Sort → ℕ → Scan → Scan
counted_in o sort.Open len a =
    record { level = a.level + 1; full_span = a.full_span + len; blocks = one_more a.level o a.blocks; arguments = a.arguments }
counted_in o sort.Close len a =
    record { level = a.level - 1; full_span = a.full_span + len; blocks = a.blocks; arguments = a.arguments }
counted_in o sort.Head len a =
    record { level = a.level; full_span = a.full_span + len; blocks = a.blocks; arguments = a.arguments }
counted_in o sort.White len a =
    record { level = a.level; full_span = a.full_span + 1; blocks = a.blocks; arguments = a.arguments }
counted_in o sort.Semicolon len a =
    record { level = a.level; full_span = a.full_span + len; blocks = a.blocks; arguments = a.arguments }
counted_in o sort.Comma len a =
    record { level = a.level; full_span = a.full_span + len; blocks = a.blocks; arguments = one_more a.level o a.arguments }
counted_in o sort.Other len a =
    record { level = a.level; full_span = a.full_span + len; blocks = a.blocks; arguments = max 1 a.arguments }

unfoldable pub scan : ℕ → List Token → Scan → Scan
scan o [] a = a
scan o (t ∷ ts) a =
    let rest = scan o ts (counted_in o (sort_in t) (length t.value) a) in
    if stops_at o (sort_in t) a.level then a else rest

abbrev pub unread : ℕ → Scan
unread o = record { level = o; full_span = 0; blocks = 0; arguments = 0 }

-- the limit of a span: that of the arguments too, where there are several
abbrev pub span_limit : ℕ → ℕ → ℕ → ℕ
span_limit limit arguments_limit arguments =
    if ltb 1 arguments && not (eqb arguments_limit 0) then min arguments_limit limit else limit

-- inside an inline block, block_len bytes long, it is decided as if it were inline; block_len is 0 outside
abbrev pub breaks_before : ℕ → ℕ → Bool
breaks_before limit block_len = eqb block_len 0 || ltb limit block_len

abbrev pub span_of : FormatOptions → ℕ → Scan → SpanInfo
span_of op block_len a =
    record {
      full_span = a.full_span;
      blocks = a.blocks;
      newline_before = breaks_before (or_zero op.max_inline_top_level) block_len;
      newline_after = ltb (span_limit (or_zero op.max_inline_top_level) (or_zero op.max_inline_arguments) a.arguments) a.full_span;
      arguments = a.arguments;
    }

unfoldable pub top_level_tokens_info : FormatOptions → ℕ → ℕ → List Token → SpanInfo
top_level_tokens_info op block_level block_len after = span_of op block_len (scan block_level after (unread block_level))
