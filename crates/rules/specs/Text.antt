-- Rules on bytes: white bytes, cutting, casing, joining blanks, comments; the working text, which a refusal replaces; lines and width.
use Rattle.std.specs.Prelude.{if◌then◌else◌, Bool, true, false, ◌&&◌, ◌||◌, List, [], ◌∷◌, ◌++◌, map, ℕ, suc, ◌+◌, ◌-◌, ◌*◌, ◌/◌, min, max, eqb, leb, length, take, drop, replicate}
use Rattle.rules.specs.declared.Case.{Case}
use Rattle.rules.specs.declared.Case.TheVariants as case
use Rattle.rules.specs.declared.Inline.{Inline}
use Rattle.rules.specs.declared.Inline.TheVariants as inline
use Rattle.rules.specs.declared.Indent.{Indent}
use Rattle.rules.specs.declared.Indent.TheVariants as indent
use Rattle.rules.specs.Base.{◌▹◌, same}

-- a blank or a tab
abbrev pub is_blank : ℕ → Bool
is_blank c = eqb c 32 || eqb c 9

abbrev pub is_white : ℕ → Bool
is_white c = eqb c 32 || (leb 9 c && leb c 13)

abbrev pub trim_start : (ℕ → Bool) → List ℕ → List ℕ
trim_start p [] = []
trim_start p (x ∷ xs) = if p x then trim_start p xs else x ∷ xs

-- x before a list that is trimmed at its end
abbrev pub trim_cons : (ℕ → Bool) → ℕ → List ℕ → List ℕ
trim_cons p x [] = if p x then [] else x ∷ []
trim_cons p x (y ∷ ys) = x ∷ y ∷ ys

abbrev pub trim_end : (ℕ → Bool) → List ℕ → List ℕ
trim_end p [] = []
trim_end p (x ∷ xs) = trim_cons p x (trim_end p xs)

-- the last byte, or d
abbrev pub last_or : ℕ → List ℕ → ℕ
last_or d [] = d
last_or d (x ∷ xs) = last_or x xs

-- ---- case

abbrev pub to_upper : ℕ → ℕ
to_upper c = if leb 97 c && leb c 122 then c - 32 else c

abbrev pub to_lower : ℕ → ℕ
to_lower c = if leb 65 c && leb c 90 then c + 32 else c

abbrev pub byte_in_case : Case → ℕ → ℕ
byte_in_case case.AsIs c = c
byte_in_case case.Upper c = to_upper c
byte_in_case case.Lower c = to_lower c

abbrev pub in_case : Case → List ℕ → List ℕ
in_case k v = map (byte_in_case k) v

-- v in small letters is w
abbrev pub is_lower : List ℕ → List ℕ → Bool
is_lower v w = same (in_case case.Lower v) w

-- ---- white joined

-- one blank before what is left, unless a blank is there or nothing is left
abbrev pub blank_before : List ℕ → List ℕ
blank_before [] = []
blank_before (y ∷ ys) = if eqb y 32 then y ∷ ys else 32 ∷ y ∷ ys

abbrev pub squeeze : List ℕ → List ℕ
squeeze [] = []
squeeze (x ∷ xs) = if is_white x then blank_before (squeeze xs) else x ∷ squeeze xs

-- runs of white become one blank, and none at either end
abbrev pub equalize_whitespace : List ℕ → List ℕ
equalize_whitespace v = trim_start is_white (squeeze v)

-- ---- a block comment

-- a line that starts with a blank or a tab starts with the indent and one blank instead
abbrev pub lead_line : List ℕ → List ℕ → List ℕ
lead_line ind [] = []
lead_line ind (y ∷ ys) = if is_blank y then ind ++ 32 ∷ trim_start is_blank ys else y ∷ ys

-- every line but the first
abbrev pub indent_comment : List ℕ → List ℕ → List ℕ
indent_comment ind [] = []
indent_comment ind (x ∷ xs) = x ∷ (if eqb x 10 then lead_line ind (indent_comment ind xs) else indent_comment ind xs)

-- ---- an indent, and the trim at the end

unfoldable pub indent_of : Indent → ℕ → List ℕ
indent_of (indent.Spaces n) level = replicate (level * n) 32
indent_of indent.Tabs level = replicate level 9

unfoldable pub trimmed : List ℕ → List ℕ
trimmed b = trim_start is_white (trim_end is_white b)

-- ---- the report's two numbers

abbrev pub line_feeds : List ℕ → ℕ
line_feeds [] = 0
line_feeds (x ∷ xs) = if eqb x 10 then suc (line_feeds xs) else line_feeds xs

abbrev pub lines : List ℕ → ℕ
lines [] = 0
lines (x ∷ xs) = suc (line_feeds (x ∷ xs))

-- the column after a byte: a line feed starts a line, a tab goes to the next multiple of 8, every other byte goes one on
abbrev pub column_after : ℕ → ℕ → ℕ
column_after at x = if eqb x 10 then 0 else if eqb x 9 then (at / 8 + 1) * 8 else suc at

-- the largest column reached: at is the column before the bytes, best the largest one so far
abbrev pub width_from : ℕ → ℕ → List ℕ → ℕ
width_from at best [] = best
width_from at best (x ∷ xs) = width_from (column_after at x) (max (column_after at x) best) xs

abbrev pub width : List ℕ → ℕ
width v = width_from 0 0 v

-- ---- the working text: bytes, until an offence takes their place; no cut goes below the floor; low is the least length since the text was marked

pub data Text : Type 0 where
  fits : (floor low : ℕ) → List ℕ → Text
  refused : ℕ → Text

-- other bytes, of which none is held
abbrev pub change : (List ℕ → List ℕ) → Text → Text
change f (fits k m b) = fits 0 0 (f b)
change f (refused n) = refused n

-- v is appended in a buffer of `room` bytes
abbrev pub append : ℕ → List ℕ → Text → Text
append room v (fits k m b) = if leb (length b + length v) room then fits k m (b ++ v) else refused 9
append room v (refused n) = refused n

-- a line feed, unless there is one
abbrev pub line_feed : ℕ → Text → Text
line_feed room (fits k m b) = if eqb (last_or 0 b) 10 then fits k m b else append room (10 ∷ []) (fits k m b)
line_feed room (refused n) = refused n

-- the first offence stays
abbrev pub refuse : ℕ → Text → Text
refuse n (fits k m b) = refused n
refuse n (refused m) = refused m

-- the text is cut to b
abbrev pub lowered : ℕ → ℕ → List ℕ → Text
lowered k m b = fits k (min m (length b)) b

-- the bytes of p go from the end, down to the floor
abbrev pub cut : (ℕ → Bool) → Text → Text
cut p (fits k m b) = lowered k m (take k b ++ trim_end p (drop k b))
cut p (refused n) = refused n

abbrev pub cut_blanks : Text → Text
cut_blanks w = cut is_blank w

abbrev pub cut_white : Text → Text
cut_white w = cut is_white w

-- all that stands there is held: the floor is its length
abbrev pub hold : Text → Text
hold (fits k m b) = fits (length b) m b
hold (refused n) = refused n

-- from here on low is the least length that the text is cut to
abbrev pub mark : Text → Text
mark (fits k m b) = fits k (length b) b
mark (refused n) = refused n

abbrev pub low_of : Text → ℕ
low_of (fits k m b) = m
low_of (refused n) = 0

abbrev pub bytes_in : Text → List ℕ
bytes_in (fits k m b) = b
bytes_in (refused n) = []

abbrev pub is_on : Inline → Bool
is_on inline.Off = false
is_on inline.Comments = true

-- blanks and tabs are cut; then one blank where all is inline, else a line feed unless there is one, and the indent
unfoldable pub new_line : ℕ → Bool → List ℕ → Text → Text
new_line room on ind w =
    if on then w ▹ cut_blanks ▹ append room (32 ∷ [])
    else w ▹ cut_blanks ▹ line_feed room ▹ append room ind

-- the new line that closes a line comment: on one line a line feed unless there is one, no indent, and the line feed is held
unfoldable pub closing_line : ℕ → Inline → List ℕ → Text → Text
closing_line room inline.Off ind w = new_line room false ind w
closing_line room inline.Comments ind w = w ▹ cut_blanks ▹ line_feed room ▹ hold
