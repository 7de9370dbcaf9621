-- Checks 1 to 4 of a sheet, each its first offence in file order.
use Rattle.std.specs.Prelude.{if◌then◌else◌, Bool, true, false, ◌&&◌, List, ℕ, zero, suc, ◌+◌, eqb, leb, ltb, length, get_or, None, Option, Some, Result, Ok, Err}
use Rattle.rules.specs.declared.Counts.{Counts}
use Rattle.rules.specs.declared.Place.{Place}
use Rattle.rules.specs.declared.Offence.{Offence}
use Rattle.rules.specs.declared.Offence.TheVariants as offence
use Rattle.rules.specs.Words.{word_at, place_at, counts_of, tokens_at, params_at, keeps_at, body_at, kind_bits, class_bits, upper_bits}

-- ---- the first of several offences

-- an offence at a place unless a test holds, and then what comes later
abbrev pub demanded : Bool → ℕ → Option ℕ → Option ℕ
demanded true at later = later
demanded false at later = Some at

abbrev pub or_later : Option ℕ → Option ℕ → Option ℕ
or_later (Some p) later = Some p
or_later None later = later

-- the first offence of k records of `size` bytes, the first of them at a byte offset
unfoldable pub first_of : (ℕ → Option ℕ) → ℕ → ℕ → ℕ → Option ℕ
first_of f size at zero = None
first_of f size at (suc k) = or_later (f at) (first_of f size (at + size) k)

-- ---- check 1: the counts and the length of the file

abbrev pub counts_fit : Counts → Bool
counts_fit c = leb c.tokens 1024 && (leb c.params 256 && (leb c.keeps 64 && leb c.bytes 32768))

abbrev pub sizes : List ℕ → Option ℕ
sizes s =
    demanded (leb 48 (length s)) 0
    (demanded (counts_fit (counts_of s)) 0
    (demanded (eqb (length s) (body_at (counts_of s) + (counts_of s).bytes)) 0
    None))

-- ---- check 2: every word

-- mode 0 has no parameters
abbrev pub mode_fits : ℕ → ℕ → Bool
mode_fits mode params = if eqb mode 0 then eqb params 0 else leb mode 2

-- the words of the head that are no counts; 9, 10 and 11 may be any
unfoldable pub head_words : List ℕ → Option ℕ
head_words s =
    demanded (mode_fits (word_at s 16) (word_at s 4)) 16
    (demanded (leb (word_at s 20) 256) 20
    (demanded (leb (word_at s 24) 2) 24
    (demanded (leb (word_at s 28) 2) 28
    (demanded (leb (word_at s 32) 255) 32
    None))))

abbrev pub packed_fits : ℕ → Bool
packed_fits w = leb (kind_bits w) 16 && eqb (upper_bits w) 0

-- key class 0 has neither word, 1 both, 2 and 3 the first alone
abbrev pub key_afits : ℕ → ℕ → Bool
key_afits class a = if eqb class 0 then eqb a 0 else true

abbrev pub key_bfits : ℕ → ℕ → Bool
key_bfits class b = if eqb class 1 then true else eqb b 0

unfoldable pub token_words : List ℕ → ℕ → Option ℕ
token_words s at =
    demanded (packed_fits (word_at s at)) at
    (demanded (key_afits (class_bits (word_at s at)) (word_at s (at + 12))) (at + 12)
    (demanded (key_bfits (class_bits (word_at s at)) (word_at s (at + 16))) (at + 16)
    None))

-- names stand in mode 2 alone
abbrev pub name_fits : ℕ → ℕ → Bool
name_fits mode x = if eqb mode 2 then true else eqb x 0

unfoldable pub param_words : List ℕ → ℕ → Option ℕ
param_words s at =
    demanded (name_fits (word_at s 16) (word_at s at)) at
    (demanded (name_fits (word_at s 16) (word_at s (at + 4))) (at + 4)
    None)

abbrev pub words : List ℕ → Counts → Option ℕ
words s c =
    or_later (head_words s)
    (or_later (first_of (token_words s) 20 tokens_at c.tokens)
    (first_of (param_words s) 16 (params_at c) c.params))

-- ---- check 3: every place

abbrev pub in_body : Place → ℕ → Bool
in_body p bytes = leb (p.start + p.len) bytes

-- the two key words of class 1 are a place
abbrev pub key_in_body : ℕ → Place → ℕ → Bool
key_in_body class p bytes = if eqb class 1 then in_body p bytes else true

unfoldable pub token_places : List ℕ → ℕ → ℕ → Option ℕ
token_places s bytes at =
    demanded (in_body (place_at s (at + 4)) bytes) (at + 4)
    (demanded (key_in_body (class_bits (word_at s at)) (place_at s (at + 12)) bytes) (at + 12)
    None)

unfoldable pub param_places : List ℕ → ℕ → ℕ → Option ℕ
param_places s bytes at =
    demanded (in_body (place_at s at) bytes) at
    (demanded (in_body (place_at s (at + 8)) bytes) (at + 8)
    None)

unfoldable pub keep_places : List ℕ → ℕ → ℕ → Option ℕ
keep_places s bytes at = demanded (in_body (place_at s at) bytes) at None

abbrev pub places : List ℕ → Counts → Option ℕ
places s c =
    or_later (first_of (token_places s c.bytes) 20 tokens_at c.tokens)
    (or_later (first_of (param_places s c.bytes) 16 (params_at c) c.params)
    (first_of (keep_places s c.bytes) 8 (keeps_at c) c.keeps))

-- ---- check 4: every body byte

unfoldable pub body_byte : List ℕ → ℕ → Option ℕ
body_byte s at = demanded (ltb (get_or s at 0) 128) at None

abbrev pub body_bytes : List ℕ → Counts → Option ℕ
body_bytes s c = first_of (body_byte s) 1 (body_at c) c.bytes

-- ---- the four in turn

-- an offence at a place; none, what comes later
abbrev pub refused_as : (ℕ → Offence) → Option ℕ → Result Counts Offence → Result Counts Offence
refused_as refusal (Some p) later = Err (refusal p)
refused_as refusal None later = later

unfoldable pub checked_as : List ℕ → Counts → Result Counts Offence
checked_as s c =
    refused_as offence.Word (words s c)
    (refused_as offence.Place (places s c)
    (refused_as offence.Byte (body_bytes s c)
    (Ok c)))

unfoldable pub checked : List ℕ → Result Counts Offence
checked s = refused_as (λ p. offence.Size) (sizes s) (checked_as s (counts_of s))

-- the number of a refusal, and its place
abbrev pub number_of : Offence → ℕ
number_of offence.Size = 1
number_of (offence.Word p) = 2
number_of (offence.Place p) = 3
number_of (offence.Byte p) = 4

abbrev pub place_of : Offence → ℕ
place_of offence.Size = 0
place_of (offence.Word p) = p
place_of (offence.Place p) = p
place_of (offence.Byte p) = p
