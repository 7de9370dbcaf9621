-- Wish 10: what each word and byte of a damaged sheet becomes, and the report.
use Rattle.std.specs.Prelude.{if◌then◌else◌, false, List, [], ◌∷◌, ◌++◌, ℕ, zero, suc, ◌+◌, ◌-◌, ◌*◌, ◌%◌, eqb, leb, ltb, length, take, drop, replicate, get_or, None, Option, Some}
use Rattle.rules.specs.declared.Counts.{Counts}
use Rattle.rules.specs.declared.Outcome.{Outcome}
use Rattle.rules.specs.Words.{word_at, word_bytes, place_at, class_bits, packed_of, counts_of, params_at, keeps_at, body_at}
use Rattle.rules.specs.Checks.{sizes, mode_fits, packed_fits, in_body}
use Rattle.rules.specs.Compacted.{word_count}

-- ---- the head

-- a bad mode is Indexed with parameters and None without
unfoldable pub mended_mode : List ℕ → ℕ
mended_mode s =
    if mode_fits (word_at s 16) (word_at s 4) then word_at s 16
    else if eqb (word_at s 4) 0 then 0
    else 1

-- a word above its bound takes the Rust's default
abbrev pub or_default : ℕ → ℕ → ℕ → ℕ
or_default most default w = if leb w most then w else default

-- the counts stay, and so do words 9, 10 and 11, which may be any
unfoldable pub mended_head : List ℕ → ℕ → ℕ
mended_head s at =
    if eqb at 16 then mended_mode s
    else if eqb at 20 then or_default 256 2 (word_at s 20)
    else if eqb at 24 then or_default 2 0 (word_at s 24)
    else if eqb at 28 then or_default 2 0 (word_at s 28)
    else if eqb at 32 then or_default 255 1 (word_at s 32)
    else word_at s at

-- ---- the records

-- kind Word, no key, no alias
abbrev pub plain_word : ℕ
plain_word = packed_of 15 0 false

unfoldable pub mended_packed : ℕ → ℕ
mended_packed w = if packed_fits w then w else plain_word

-- the word k bytes into the place at a byte offset: outside the bodies both become 0
unfoldable pub place_word : List ℕ → ℕ → ℕ → ℕ → ℕ
place_word s bytes at k = if in_body (place_at s at) bytes then word_at s (at + k) else 0

-- the words of a key by its class: 0 has none, 1 is a place, 2 and 3 have the first alone
unfoldable pub key_word : ℕ → List ℕ → ℕ → ℕ → ℕ → ℕ
key_word class s bytes at k =
    if eqb class 1 then place_word s bytes at k
    else if eqb class 0 then 0
    else if eqb k 0 then word_at s at
    else 0

-- the word k bytes into the token record at a byte offset
unfoldable pub mended_token : List ℕ → ℕ → ℕ → ℕ → ℕ
mended_token s bytes at k =
    if eqb k 0 then mended_packed (word_at s at)
    else if ltb k 12 then place_word s bytes (at + 4) (k - 4)
    else key_word (class_bits (mended_packed (word_at s at))) s bytes (at + 12) (k - 12)

-- into a parameter record, mode being the new one: names stand in mode 2 alone
unfoldable pub mended_param : ℕ → List ℕ → ℕ → ℕ → ℕ → ℕ
mended_param mode s bytes at k =
    if ltb k 8 then (if eqb mode 2 then place_word s bytes at k else 0)
    else place_word s bytes (at + 8) (k - 8)

-- ---- the sheet

-- of records of `size` bytes from a byte offset on: f of the record's offset and of how far into it a word is
abbrev pub in_record : (ℕ → ℕ → ℕ) → ℕ → ℕ → ℕ → ℕ
in_record f size from at = f (at - (at - from) % size) ((at - from) % size)

-- the word at a byte offset
unfoldable pub mended_word : List ℕ → Counts → ℕ → ℕ
mended_word s c at =
    if ltb at 48 then mended_head s at
    else if ltb at (params_at c) then in_record (mended_token s c.bytes) 20 48 at
    else if ltb at (keeps_at c) then in_record (mended_param (mended_mode s) s c.bytes) 16 (params_at c) at
    else in_record (place_word s c.bytes) 8 (keeps_at c) at

-- a byte that is not ASCII becomes `?`
unfoldable pub mended_byte : ℕ → ℕ
mended_byte x = if ltb x 128 then x else 63

-- the first k words, and the first j body bytes
unfoldable pub mended_words : List ℕ → Counts → ℕ → List ℕ
mended_words s c zero = []
mended_words s c (suc k) = mended_words s c k ++ word_bytes (mended_word s c (4 * k))

unfoldable pub mended_bytes : List ℕ → Counts → ℕ → List ℕ
mended_bytes s c zero = []
mended_bytes s c (suc j) = mended_bytes s c j ++ mended_byte (get_or s (body_at c + j) 0) ∷ []

unfoldable pub mended : List ℕ → Counts → List ℕ
mended s c = mended_words s c (word_count c) ++ mended_bytes s c c.bytes

-- ---- the report: each word and each body byte in which two sheets differ, in file order

-- its offset, the old number and the new one
pub record Change : Type 0 where
  pub at : ℕ
  pub old : ℕ
  pub new : ℕ

-- none, if they are the same
abbrev pub change : ℕ → ℕ → ℕ → List Change
change at old new = if eqb old new then [] else record { at = at; old = old; new = new } ∷ []

unfoldable pub word_changes : List ℕ → List ℕ → ℕ → List Change
word_changes s t zero = []
word_changes s t (suc k) = word_changes s t k ++ change (4 * k) (word_at s (4 * k)) (word_at t (4 * k))

unfoldable pub byte_changes : List ℕ → List ℕ → ℕ → ℕ → List Change
byte_changes s t base zero = []
byte_changes s t base (suc j) = byte_changes s t base j ++ change (base + j) (get_or s (base + j) 0) (get_or t (base + j) 0)

-- from sheet s to sheet t
unfoldable pub changes : List ℕ → List ℕ → Counts → List Change
changes s t c = word_changes s t (word_count c) ++ byte_changes s t (body_at c) c.bytes

-- three words for each
unfoldable pub change_words : List Change → List ℕ
change_words [] = []
change_words (x ∷ xs) = x.at ∷ x.old ∷ x.new ∷ change_words xs

-- ---- the call, with a report of k words

-- a sheet and what changed; or a refusal's number
pub data Mending : Type 0 where
  mends : List ℕ → List Change → Mending
  refusal : ℕ → Mending

-- 13: fewer than three words for each change
unfoldable pub mend_from : List ℕ → ℕ → Option ℕ → Mending
mend_from s k (Some p) = refusal 1
mend_from s k None =
    let t = mended s (counts_of s) in
    let rows = changes s t (counts_of s) in
    if ltb k (3 * length rows) then refusal 13 else mends t rows

unfoldable pub mend : List ℕ → ℕ → Mending
mend s k = mend_from s k (sizes s)

-- in numbers: `length` is the number of changes
unfoldable pub mend_outcome : Mending → Outcome
mend_outcome (mends t rows) = record { refusal = 0; place = 0; length = length rows }
mend_outcome (refusal n) = record { refusal = n; place = 0; length = 0 }

-- the sheet and the report afterwards: a refusal leaves the sheet as it came and the report zero
unfoldable pub sheet_after : List ℕ → Mending → List ℕ
sheet_after s (mends t rows) = t
sheet_after s (refusal n) = s

unfoldable pub report_after : ℕ → Mending → List ℕ
report_after k (mends t rows) = change_words rows ++ replicate (k - 3 * length rows) 0
report_after k (refusal n) = replicate k 0

-- ---- rows written into a sheet whose bodies start at base

-- a word, or a body byte
unfoldable pub written_at : ℕ → ℕ → ℕ → List ℕ → List ℕ
written_at base at new s = take at s ++ (if ltb at base then word_bytes new else new ∷ []) ++ drop (at + (if ltb at base then 4 else 1)) s

-- the new numbers, the first row first; and the old ones
unfoldable pub done : ℕ → List Change → List ℕ → List ℕ
done base [] s = s
done base (x ∷ xs) s = done base xs (written_at base x.at x.new s)

unfoldable pub undone : ℕ → List Change → List ℕ → List ℕ
undone base [] s = s
undone base (x ∷ xs) s = undone base xs (written_at base x.at x.old s)
