-- The stacks around a word that starts a level.
use Rattle.std.specs.Prelude.{◌≡◌, Bool, false, ℕ, ◌≤◌}
use Rattle.rules.specs.declared.SpanInfo.{SpanInfo}
use Rattle.rules.specs.Indentation.{Indentation, indent_level, increase_top_level, decrease_top_level, set_previous_top_level}
use Rattle.indentation.specs.Of.{Stands}
use Rattle.rules.specs.Base.{when, full}
use Rattle.top_level.specs.declared.Levels.{Levels}

-- the stacks before the word, and after it
abbrev pub out_of : {W : Type 0} → Bool → Indentation W → Indentation W
out_of before i = when before decrease_top_level i

abbrev pub into_of : {W : Type 0} → Bool → Bool → SpanInfo → Indentation W → Indentation W
into_of before after sp i = when after (increase_top_level sp) (out_of before i)

-- the word is n
pub record Turned (i : Indentation ℕ) (before after : Bool) (sp : SpanInfo) (n : ℕ) (r : Levels) : Type 0 where
  pub out : r.out ≡ indent_level false (out_of before i)
  pub out_low : r.out ≤ 128
  pub six : r.six ≡ full (out_of before i).indent_types
  pub into : r.into ≡ indent_level false (into_of before after sp i)
  pub into_low : r.into ≤ 128
  pub stands : Stands (set_previous_top_level n sp (into_of before after sp i)) r.stacks
