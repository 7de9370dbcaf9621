-- The sheet's words and records, at any byte offset of any bytes.
use Rattle.std.specs.Prelude.{if◌then◌else◌, Bool, List, [], ◌∷◌, ◌++◌, ℕ, ◌+◌, ◌*◌, ◌/◌, ◌%◌, eqb, get_or, Option, None, Some}
use Rattle.rules.specs.declared.Place.{Place}
use Rattle.rules.specs.declared.PlaceholderKind.{PlaceholderKind}
use Rattle.rules.specs.declared.PlaceholderKind.TheVariants as key
use Rattle.rules.specs.declared.TokenKind.{TokenKind}
use Rattle.rules.specs.declared.TokenKind.TheVariants as kind
use Rattle.rules.specs.declared.Token.{Token}
use Rattle.rules.specs.declared.Counts.{Counts}

-- the little-endian word at a byte offset
unfoldable pub word_at : List ℕ → ℕ → ℕ
word_at s at = get_or s at 0 + get_or s (at + 1) 0 * 256 + get_or s (at + 2) 0 * 65536 + get_or s (at + 3) 0 * 16777216

-- a word's bytes, the lowest first; and those of several
abbrev pub word_bytes : ℕ → List ℕ
word_bytes w = w % 256 ∷ w / 256 % 256 ∷ w / 65536 % 256 ∷ w / 16777216 % 256 ∷ []

abbrev pub words_bytes : List ℕ → List ℕ
words_bytes [] = []
words_bytes (w ∷ ws) = word_bytes w ++ words_bytes ws

unfoldable pub place_at : List ℕ → ℕ → Place
place_at s at = record { start = word_at s at; len = word_at s (at + 4) }

-- ---- the counts, and where each table starts

unfoldable pub counts_of : List ℕ → Counts
counts_of s = record { tokens = word_at s 0; params = word_at s 4; keeps = word_at s 8; bytes = word_at s 12 }

abbrev pub tokens_at : ℕ
tokens_at = 48

abbrev pub params_at : Counts → ℕ
params_at c = 48 + 20 * c.tokens

abbrev pub keeps_at : Counts → ℕ
keeps_at c = params_at c + 16 * c.params

abbrev pub body_at : Counts → ℕ
body_at c = keeps_at c + 8 * c.keeps

-- ---- the packed word: bits 0 to 4 the kind, 5 and 6 the key class, 7 the alias, all others zero

abbrev pub kind_bits : ℕ → ℕ
kind_bits w = w % 32

abbrev pub class_bits : ℕ → ℕ
class_bits w = w / 32 % 4

abbrev pub create_bit : ℕ → ℕ
create_bit w = w / 128 % 2

abbrev pub upper_bits : ℕ → ℕ
upper_bits w = w / 256

-- the parts put together
abbrev pub packed_of : ℕ → ℕ → Bool → ℕ
packed_of kind class create = kind + class * 32 + (if create then 128 else 0)

-- the kinds in the order of the source, but for the last
unfoldable pub kinds : List TokenKind
kinds =
    kind.TypeSpecifier
    ∷ kind.Whitespace
    ∷ kind.String
    ∷ kind.Reserved
    ∷ kind.ReservedTopLevel
    ∷ kind.ReservedTopLevelNoIndent
    ∷ kind.ReservedNewline
    ∷ kind.ReservedNewlineAfter
    ∷ kind.Operator
    ∷ kind.OpenParen
    ∷ kind.CloseParen
    ∷ kind.LineComment
    ∷ kind.BlockComment
    ∷ kind.Number
    ∷ kind.Placeholder
    ∷ kind.Word
    ∷ []

-- the kind of a number; Join from 16 on
unfoldable pub kind_of : ℕ → TokenKind
kind_of n = get_or kinds n kind.Join

-- the keys of classes 0, 1 and 2, and that of 3
unfoldable pub key_of : ℕ → ℕ → ℕ → Option PlaceholderKind
key_of class a b =
    get_or (None ∷ Some (key.Named (record { start = a; len = b })) ∷ Some (key.Zero (record { 0 = a })) ∷ []) class (Some (key.One (record { 0 = a })))

-- the token record at a byte offset
unfoldable pub token_from : List ℕ → ℕ → Token
token_from s at =
    record {
      kind = kind_of (kind_bits (word_at s at));
      value = place_at s (at + 4);
      key = key_of (class_bits (word_at s at)) (word_at s (at + 12)) (word_at s (at + 16));
      create = eqb (create_bit (word_at s at)) 1;
    }

-- token record i
abbrev pub token_at : List ℕ → ℕ → Token
token_at s i = token_from s (tokens_at + 20 * i)
