-- The stacks at a newline word: a top-level word that was inlined is indented where the line breaks.
use Rattle.std.specs.Prelude.{◌≡◌, Bool, false, not, ◌&&◌, ℕ, ◌≤◌, Option, None, Some}
use Rattle.rules.specs.declared.SpanInfo.{SpanInfo}
use Rattle.rules.specs.Base.{when, full}
use Rattle.rules.specs.Indentation.{Indentation, indent_level, increase_top_level, set_previous_reserved, previous_top_level_reserved}
use Rattle.indentation.specs.Of.{no_span, Stands}
use Rattle.reserved.specs.declared.Newline.{Newline}

-- the last top-level word's span is pushed where it was inlined
unfoldable pub indent_last : {W : Type 0} → Option SpanInfo → Indentation W → Indentation W
indent_last None i = i
indent_last (Some sp) i = when (not sp.newline_after) (increase_top_level sp) i

-- refusal 6 is given where there is such a word, and the stack is full
unfoldable pub six_in : Option SpanInfo → Bool → Bool
six_in None full = false
six_in (Some sp) full = not sp.newline_after && full

-- there is such a word; its span, or one that is none
unfoldable pub inlined_last : Option SpanInfo → Bool
inlined_last None = false
inlined_last (Some sp) = not sp.newline_after

unfoldable pub or_no_span : Option SpanInfo → SpanInfo
or_no_span None = no_span
or_no_span (Some sp) = sp

abbrev pub indented_in : {W : Type 0} → Bool → Indentation W → Indentation W
indented_in breaks i = when breaks (indent_last (previous_top_level_reserved i)) i

-- the newline word is n
pub record Indented (i : Indentation ℕ) (breaks : Bool) (n : ℕ) (r : Newline) : Type 0 where
  pub six : r.six ≡ six_in (previous_top_level_reserved i) (full i.indent_types)
  pub level : r.level ≡ indent_level false (indented_in breaks i)
  pub low : r.level ≤ 128
  pub stands : Stands (set_previous_reserved n (indented_in breaks i)) r.stacks
