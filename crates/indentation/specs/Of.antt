-- What the code's stacks stand for: words are tokens' numbers.
use Rattle.std.specs.Prelude.{if◌then◌else◌, ◌≡◌, Bool, true, false, List, [], ◌∷◌, map, ℕ, zero, suc, ◌+◌, ◌%◌, ◌≤◌, eqb, ltb, get_or, Option, None, Some}
use Rattle.rules.specs.declared.IndentType.{IndentType}
use Rattle.rules.specs.declared.IndentType.TheVariants.{Top, Block, FoldedBlock}
use Rattle.rules.specs.declared.SpanInfo.{SpanInfo}
use Rattle.rules.specs.Indentation.{is_single, Indentation, PreviousTokens, Closed, unfolded}
use Rattle.stacks.specs.Stack.{stack, Kept}
use Rattle.indentation.specs.declared.Previous.{Previous}
use Rattle.indentation.specs.declared.Indentation.{Indentation as Code}
use Rattle.indentation.specs.declared.TheConstants.{BLOCK, FOLDED_BLOCK}
use Rattle.indentation.specs.declared.Closed.{Closed as CodeClosed}

unfoldable pub type_of : ℕ → IndentType
type_of zero = Top
type_of (suc zero) = Block
type_of (suc (suc k)) = FoldedBlock

unfoldable pub kind_for : Bool → ℕ
kind_for true = FOLDED_BLOCK
kind_for false = BLOCK

unfoldable pub word_of : ℕ → Option ℕ
word_of zero = None
word_of (suc n) = Some n

-- the marks of a top-level word: whether its span is single, and whether it has a newline after
unfoldable pub marks_of : Bool → Bool → ℕ
marks_of false false = 1
marks_of true false = 2
marks_of false true = 3
marks_of true true = 4

-- the span that an entry's numbers tell
abbrev pub top_span : Previous → SpanInfo
top_span p = record { full_span = p.full_span; blocks = 0; newline_before = false; newline_after = ltb 2 p.marks; arguments = (if eqb (p.marks % 2) 0 then 1 else 0) }

-- there is one where there are marks
unfoldable pub top_of : ℕ → SpanInfo → Option SpanInfo
top_of zero sp = None
top_of (suc m) sp = Some sp

unfoldable pub previous_of : Previous → PreviousTokens ℕ
previous_of p = record { top_level_reserved = top_of p.marks (top_span p); reserved = word_of p.word }

abbrev pub no_span : SpanInfo
no_span = record { full_span = 0; blocks = 0; newline_before = false; newline_after = false; arguments = 0 }

abbrev pub entry : ℕ → ℕ → ℕ → Previous
entry full word marks = record { full_span = full; word = word; marks = marks }

abbrev pub no_previous : Previous
no_previous = entry 0 0 0

abbrev pub reserved_after : Previous → ℕ → Previous
reserved_after p token = entry p.full_span (token + 1) p.marks

abbrev pub top_level_after : ℕ → SpanInfo → Previous
top_level_after word sp = entry sp.full_span word (marks_of (is_single sp) sp.newline_after)

-- the one entry for a span, or none, and a word
unfoldable pub entry_for : Option SpanInfo → ℕ → Previous
entry_for None word = entry 0 word 0
entry_for (Some sp) word = top_level_after word sp

unfoldable pub types_of : Code → List IndentType
types_of i = map type_of (stack 0 i.nkinds i.kinds)

unfoldable pub indentation_of : Code → Indentation ℕ
indentation_of i =
    record {
      indent_types = types_of i;
      top_level_span = stack 0 i.nspans i.spans;
      previous = map previous_of (stack no_previous i.nprevious i.previous);
    }

-- the last previous words, or none
unfoldable pub last_of : Code → Previous
last_of i = get_or (stack no_previous i.nprevious i.previous) 0 no_previous

-- the top-level entries
unfoldable pub tops : List IndentType → ℕ
tops [] = 0
tops (Top ∷ ts) = suc (tops ts)
tops (Block ∷ ts) = tops ts
tops (FoldedBlock ∷ ts) = tops ts

-- an entry is the one for what it tells: no marks above 4, and zeros where there are none
abbrev pub Told : Previous → Type 0
Told p = p ≡ entry_for (top_of p.marks (top_span p)) p.word

-- the invariant: each stack is kept, a span for each top-level entry, at most one previous word more than entries, the level is the count of unfolded entries
pub record Clean (i : Code) : Type 0 where
  pub kinds : Kept 0 128 i.nkinds i.kinds
  pub known : (k : ℕ) → get_or i.kinds k 0 ≤ 2
  pub spans : Kept 0 128 i.nspans i.spans
  pub paired : i.nspans ≡ tops (types_of i)
  pub previous : Kept no_previous 129 i.nprevious i.previous
  pub told : (k : ℕ) → Told (get_or i.previous k no_previous)
  pub fewer : i.nprevious ≤ i.nkinds + 1
  pub counted : i.level ≡ unfolded (types_of i)

-- r is the one value for w
pub record Stands (w : Indentation ℕ) (r : Code) : Type 0 where
  pub is : indentation_of r ≡ w
  pub clean : Clean r

pub record StandsClosed (w : Closed ℕ) (r : CodeClosed) : Type 0 where
  pub folded : r.folded ≡ w.folded
  pub left : Stands w.left r.left

unfoldable pub ends_top : List IndentType → Bool
ends_top [] = false
ends_top (Top ∷ ts) = true
ends_top (Block ∷ ts) = false
ends_top (FoldedBlock ∷ ts) = false
