-- How far a text goes on with some bytes, its white bytes left out.
use Rattle.std.specs.Prelude.{if◌then◌else◌, ◌≡◌, false, List, [], ◌∷◌, ◌++◌, ℕ, suc, ◌≤◌, ◌<◌, eqb, length, drop, get_or, Option, None, Some}
use Rattle.rules.specs.Due.{white, strip}

-- where the text, the rest of which begins at a byte, has gone on with v; none if it does not
unfoldable pub read_to : List ℕ → ℕ → List ℕ → Option ℕ
read_to [] at text = Some at
read_to (x ∷ v) at [] = None
read_to (x ∷ v) at (y ∷ text) =
    if white y then read_to (x ∷ v) (suc at) text
    else if eqb x y then read_to v (suc at) text
    else None

-- from one byte of the text on to another only white bytes stand, and at the other none
pub record Skipped (text : List ℕ) (from at : ℕ) : Type 0 where
  pub within : at ≤ length text
  pub left : strip (drop from text) ≡ strip (drop at text)
  pub read : (x : ℕ) (v : List ℕ) → read_to (x ∷ v) from (drop from text) ≡ read_to (x ∷ v) at (drop at text)
  pub stops : at < length text → white (get_or text at 0) ≡ false

abbrev pub goes_on : List ℕ → List ℕ → Option ℕ → Option ℕ
goes_on v text None = None
goes_on v text (Some at) = read_to v at (drop at text)

-- r tells how the text goes on with one byte, whatever is to follow
pub record Byte (b : ℕ) (text : List ℕ) (from : ℕ) (r : Option ℕ) : Type 0 where
  pub within : (at : ℕ) → r ≡ Some at → at ≤ length text
  pub read : (v : List ℕ) → read_to (strip (b ∷ []) ++ v) from (drop from text) ≡ goes_on v text r
