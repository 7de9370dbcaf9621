-- The stacks under another name for each word.
use Rattle.std.specs.Prelude.{Option, None, Some, map}
use Rattle.rules.specs.Indentation.{Indentation, PreviousTokens, Closed}

module _ {A B : Type 0} (f : A → B) where
  abbrev pub on_option : Option A → Option B
  on_option None = None
  on_option (Some v) = Some (f v)

  abbrev pub on_previous : PreviousTokens A → PreviousTokens B
  on_previous p = record { top_level_reserved = p.top_level_reserved; reserved = on_option p.reserved }

  unfoldable pub on_words : Indentation A → Indentation B
  on_words i = record { indent_types = i.indent_types; top_level_span = i.top_level_span; previous = map on_previous i.previous }

  -- what is left of a closed block
  abbrev pub on_closed : Closed A → Closed B
  on_closed c = record { folded = c.folded; left = on_words c.left }
