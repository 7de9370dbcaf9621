-- Wish 10: what a mended sheet is to the sheet that it was made of, and that a sound sheet is untouched.
use Rattle.rules.specs.declared.Offence.TheVariants as offence
use Rattle.std.specs.Prelude.{None, Option, Some, Ok}
use mathlib.Core.Path.{◌≡◌, refl, sym}
use mathlib.Core.List.{List, []}
use Prim.Native.Nat.{ℕ}
use native.Mathlib.Omega.{arith}
use borrow.Author.Tests.{le-ltb}
use Rattle.rules.specs.declared.Counts.{Counts}
use Rattle.rules.specs.Words.{counts_of}
use Rattle.rules.specs.Checks.{sizes, refused_as, checked_as, checked}
use Rattle.checks.proofs.Sound.{sizes-pass, sound-sheeted}
use Rattle.word_bytes.proofs.WordLaws.{Small}
use Rattle.mended.specs.Mended.{mended, changes, mends, mend_from, mend}
use Rattle.mended.specs.Mends.{GoodSheet}
use Rattle.mended.proofs.Laws.{small-mended}
use Rattle.mended.proofs.Sound.{same_length, new-sound}
use Rattle.mended.proofs.Undone.{undone-is}
use Rattle.mended.proofs.Untouched.{no-changes, stays}

-- ---- a sound sheet

-- the offence of check 1, where the four checks find none
sized : (s : List ℕ) (c : Counts) (o : Option ℕ) → refused_as (λ p. offence.Size) o (checked_as s (counts_of s)) ≡ Ok c → o ≡ None
sized s c (Some p) h = cc
sized s c None h = refl

module _ (s : List ℕ) (small : Small s) (c : Counts) (h : checked s ≡ Ok c) where
  pub untouched : mended s c ≡ s
  untouched = stays s c (sound-sheeted s c h) small

  pub no_row : changes s (mended s c) c ≡ []
  no_row = no-changes s c (sound-sheeted s c h) small

  pub untouched-call : (k : ℕ) → mend s k ≡ mends s []
  unfolding mend mend_from checked
  untouched-call k = rw (sized s c (sizes s) h, ← (sound-sheeted s c h).counted, no_row, untouched, le-ltb k 0 (omega arith))

-- ---- any sheet that passes check 1

pub good-sheet : (s : List ℕ) → Small s → sizes s ≡ None → GoodSheet s (mended s (counts_of s)) (changes s (mended s (counts_of s)) (counts_of s))
good-sheet s small h =
    let c = counts_of s in
    let t = mended s c in
    let sound = new-sound s small h in
    record {
      sound = sound;
      again = rw (← (sound-sheeted t c sound).counted) (untouched t (small-mended s c) c sound);
      back = undone-is s t small (small-mended s c) (sym (same_length s small h)) c (sizes-pass s h).long;
      longs = same_length s small h;
    }
