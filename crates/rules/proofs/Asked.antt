-- Of every span the four rules get the same from what is kept as from the whole. Assumes nothing.
use mathlib.Core.Path.{◌≡◌, refl}
use mathlib.Core.Bool.{Bool, true, false, ◌&&◌}
use Rattle.std.specs.Prelude.{Some, if◌then◌else◌, None, Option, ℕ}
use Prim.Native.Nat.{ℕ}
use lib.Dec.{eqb, leb}
use Rattle.rules.specs.declared.SpanInfo.{SpanInfo}
use Rattle.rules.specs.Base.{when}
use Rattle.rules.specs.Indentation.{is_single, asked, increase_top_level as increase_top}
use Rattle.rules.specs.State.{on_indentation, increase_top_level}
use Rattle.rules.specs.Formatter.{newline_before, indent_inlined, folds_in, span_within}
use Rattle.rules.specs.Asked.{Asked}

pub asked-same : (sp : SpanInfo) → Asked sp
unfolding asked is_single newline_before indent_inlined folds_in span_within when increase_top_level increase_top on_indentation
asked-same sp =
    record {
      breaks = by-limit;
      indents = λ s. refl;
      folds = fold (leb sp.blocks 2) sp.newline_after (eqb sp.arguments 1);
      fits = λ most. refl;
    }
  where
    by-limit : (l : Option ℕ) (n : ℕ) → newline_before l (Some (asked sp)) n ≡ newline_before l (Some sp) n
    by-limit None n = refl
    by-limit (Some most) n = refl

    fold : (few after one : Bool) → (true && (after && eqb (if few && one then 1 else 0) 1)) ≡ (few && (after && one))
    fold true true true = refl
    fold true true false = refl
    fold true false one = refl
    fold false true true = refl
    fold false true false = refl
    fold false false one = refl
