-- Wish 12: what a converted sheet is to the sheet that it was made of, and Wish 6 on converted sheets.
use Rattle.std.specs.Prelude.{Ok}
use mathlib.Core.Path.{◌≡◌, ◌∙◌}
use mathlib.Core.List.{List}
use Prim.Native.Nat.{ℕ}
use Rattle.rules.specs.declared.Counts.{Counts}
use Rattle.rules.specs.Checks.{checked}
use Rattle.rules.specs.Compacted.{compacted, SameSheet}
use Rattle.checks.proofs.Sound.{sound-sheeted}
use Rattle.compacted.proofs.Theorem.{same-sheet}
use Rattle.converted.specs.Converted.{converted, converts, convert_as, convert}
use Rattle.converted.proofs.Laws.{none_left, twice}
use Rattle.converted.proofs.Checked.{same_check}
use Rattle.converted.proofs.Commutes.{commute}

module _ (s : List ℕ) (c : Counts) (h : checked s ≡ Ok c) where
  -- it passes checks 1 to 4, with the same counts
  pub still-sound : checked (converted s) ≡ Ok c
  still-sound = same_check s ∙ h

  -- converting it changes nothing
  pub converted-again : convert (converted s) ≡ converts (converted s) 0
  unfolding convert convert_as
  converted-again = rw (still-sound, none_left s, twice s)

  pub commutes : compacted (converted s) c ≡ converted (compacted s c)
  commutes = commute s c (sound-sheeted s c h)

  pub stored-sheet : SameSheet (converted s) (converted (compacted s c))
  stored-sheet = rw commutes at (same-sheet (converted s) c still-sound)
