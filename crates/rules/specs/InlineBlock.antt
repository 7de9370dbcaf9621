-- inline_block.rs: the length of a block, and the open inline blocks, as a list of their lengths with the innermost first.
use Rattle.std.specs.Prelude.{if◌then◌else◌, Bool, true, false, not, ◌&&◌, ◌||◌, List, [], ◌∷◌, ℕ, ◌+◌, ◌-◌, max, eqb, leb, ltb, length, get_or, Option, None, Some}
use Rattle.rules.specs.declared.TokenKind.{TokenKind}
use Rattle.rules.specs.declared.TokenKind.TheVariants as kind
use Rattle.rules.specs.declared.Part.{Part}
use Rattle.rules.specs.declared.Part.TheVariants as part
use Rattle.rules.specs.declared.Start.{Start}
use Rattle.rules.specs.declared.BlockInfo.{BlockInfo}
use Rattle.rules.specs.declared.FormatOptions.{FormatOptions}
use Rattle.rules.specs.Bytes.{bytes}
use Rattle.rules.specs.Base.{same, or_zero}
use Rattle.rules.specs.Tokens.{Token}

-- ---- build_info

abbrev pub part_of : TokenKind → Part
part_of kind.TypeSpecifier = part.Rest
part_of kind.Whitespace = part.Rest
part_of kind.String = part.Rest
part_of kind.Reserved = part.Rest
part_of kind.ReservedTopLevel = part.Top
part_of kind.ReservedTopLevelNoIndent = part.Top
part_of kind.ReservedNewline = part.Newline
part_of kind.ReservedNewlineAfter = part.Rest
part_of kind.Operator = part.Rest
part_of kind.OpenParen = part.Open
part_of kind.CloseParen = part.Close
part_of kind.LineComment = part.Comment
part_of kind.BlockComment = part.Comment
part_of kind.Number = part.Rest
part_of kind.Placeholder = part.Rest
part_of kind.Word = part.Rest
part_of kind.Join = part.Rest

-- what each part does
abbrev pub is_top : Part → Bool
is_top part.Top = true
is_top part.Newline = false
is_top part.Open = false
is_top part.Close = false
is_top part.Comment = false
is_top part.Rest = false

abbrev pub is_newline : Part → Bool
is_newline part.Top = false
is_newline part.Newline = true
is_newline part.Open = false
is_newline part.Close = false
is_newline part.Comment = false
is_newline part.Rest = false

abbrev pub is_comment : Part → Bool
is_comment part.Top = false
is_comment part.Newline = false
is_comment part.Open = false
is_comment part.Close = false
is_comment part.Comment = true
is_comment part.Rest = false

abbrev pub level_after : Part → ℕ → ℕ
level_after part.Top level = level
level_after part.Newline level = level
level_after part.Open level = level + 1
level_after part.Close level = level - 1
level_after part.Comment level = level
level_after part.Rest level = level

-- the block ends: a bracket closes it, and no level is left
abbrev pub closes_at : Part → ℕ → Bool
closes_at part.Top level = false
closes_at part.Newline level = false
closes_at part.Open level = false
closes_at part.Close level = eqb level 0
closes_at part.Comment level = false
closes_at part.Rest level = false

-- a second top-level word at the level of the first ends a span; the first starts one
abbrev pub start_after : Option Start → ℕ → ℕ → Option Start
start_after None level len = Some (record { level = level; span = len })
start_after (Some w) level len = if eqb w.level level then None else Some w

abbrev pub span_after : Option Start → ℕ → ℕ → ℕ → ℕ
span_after None level len best = best
span_after (Some w) level len best = if eqb w.level level then max best (len - w.span) else best

-- a token of the part, its value being n bytes long
abbrev pub measured_in : Part → ℕ → BlockInfo → BlockInfo
measured_in p n b =
    record {
      length = b.length + n;
      level = level_after p b.level;
      start = if is_top p then start_after b.start b.level (b.length + n) else b.start;
      top_level_token_span = if is_top p then span_after b.start b.level (b.length + n) b.top_level_token_span else b.top_level_token_span;
      has_forbidden_tokens = b.has_forbidden_tokens;
      has_reserved_tokens = b.has_reserved_tokens || is_newline p;
    }

abbrev pub measured : Token → BlockInfo → BlockInfo
measured t b = measured_in (part_of t.kind) (length t.value) b

abbrev pub is_forbidden_token : Token → Bool
is_forbidden_token t = is_comment (part_of t.kind) || same t.value (bytes ";")

abbrev pub forbid : Bool → BlockInfo → BlockInfo
forbid f b =
    record {
      length = b.length;
      level = b.level;
      start = b.start;
      top_level_token_span = b.top_level_token_span;
      has_forbidden_tokens = b.has_forbidden_tokens || f;
      has_reserved_tokens = b.has_reserved_tokens;
    }

-- the close that ends the block is measured, and not tested for `;`
unfoldable pub build_from : List Token → BlockInfo → BlockInfo
build_from [] b = b
build_from (t ∷ ts) b =
    let rest = build_from ts (forbid (is_forbidden_token t) (measured t b)) in
    if closes_at (part_of t.kind) (measured t b).level then measured t b else rest

abbrev pub unbuilt : BlockInfo
unbuilt =
    record { length = 0; level = 0; start = None; top_level_token_span = 0; has_forbidden_tokens = false; has_reserved_tokens = false }

unfoldable pub build_info : List Token → BlockInfo
build_info ts = build_from ts unbuilt

-- ---- begin_if_possible, end, is_active, cur_len

unfoldable pub is_inline_block : FormatOptions → BlockInfo → Bool
is_inline_block op b =
    not b.has_forbidden_tokens
    && (leb b.length op.max_inline_block
    && (leb b.top_level_token_span (or_zero op.max_inline_top_level)
    && (not b.has_reserved_tokens || leb b.length (or_zero op.max_inline_arguments))))

unfoldable pub is_active : List ℕ → Bool
is_active l = ltb 0 (length l)

unfoldable pub cur_len : List ℕ → ℕ
cur_len l = get_or l 0 0

-- a block starts inline only if it fits; inside an inline block every one does
unfoldable pub begins_inline : FormatOptions → BlockInfo → List ℕ → Bool
begins_inline op b l = is_active l || is_inline_block op b

-- a block that begins inline; none does where refusal 6 is given, and then no stack moves
unfoldable pub begin_if_possible : Bool → ℕ → List ℕ → List ℕ
begin_if_possible begins len l = if begins then len ∷ l else l
