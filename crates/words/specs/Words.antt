-- What one turn of a word or a comment appends, and what it is to write a list.
use Rattle.std.specs.Prelude.{if◌then◌else◌, ◌≡◌, List, [], ◌∷◌, ◌++◌, Bool, true, false, ◌&&◌, ℕ, zero, suc, ◌+◌, ltb, length}
use Rattle.std.specs.Bool.{beq}
use Rattle.rules.specs.Text.{is_blank, is_white}
use Rattle.text.specs.Put.{put}
use Rattle.words.specs.declared.Joined.{Joined}

-- p was written over d from index at: that is t, and p ends at end
pub record Written (d : List ℕ) (at : ℕ) (p t : List ℕ) (end : ℕ) : Type 0 where
  pub bytes : t ≡ put d at p
  pub ends : end ≡ at + length p

-- a byte, with a blank before it where white was read
abbrev pub spaced : Bool → ℕ → List ℕ
spaced true b = 32 ∷ b ∷ []
spaced false b = b ∷ []

-- what a list writes with its white joined: `begun` tells whether a byte was written before it, `gap` whether white was read since
abbrev pub piece : Bool → Bool → List ℕ → List ℕ
piece begun gap [] = []
piece begun gap (x ∷ xs) = if is_white x then piece begun begun xs else spaced gap x ++ piece true false xs

-- the gap that it leaves
abbrev pub gap_after : Bool → Bool → List ℕ → Bool
gap_after begun gap [] = gap
gap_after begun gap (x ∷ xs) = if is_white x then gap_after begun begun xs else gap_after true false xs

-- a word that starts at index at, of which nothing is written
abbrev pub fresh : ℕ → Joined
fresh at = record { end = at; gap = false }

-- what v writes to a word that starts at index at and is written as far as j
abbrev pub piece_at : ℕ → Joined → List ℕ → List ℕ
piece_at at j v = piece (ltb at j.end) j.gap v

-- v takes such a word from j to k, and the buffer from d to t
pub record Joins (at : ℕ) (d : List ℕ) (j : Joined) (v t : List ℕ) (k : Joined) : Type 0 where
  pub wrote : Written d j.end (piece_at at j v) t k.end
  pub gap : k.gap ≡ gap_after (ltb at j.end) j.gap v

-- each byte is white, or none is
abbrev pub all_white : Bool → List ℕ → Bool
all_white white [] = true
all_white white (x ∷ xs) = beq (is_white x) white && all_white white xs

-- how many blanks and tabs a list starts with
abbrev pub blanks : List ℕ → ℕ
blanks [] = 0
blanks (x ∷ xs) = if is_blank x then suc (blanks xs) else 0

-- what stands in their place
unfoldable pub lead_of : ℕ → List ℕ → List ℕ
lead_of zero ind = []
lead_of (suc n) ind = ind ++ 32 ∷ []
