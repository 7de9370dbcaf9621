-- What a checked sheet says: options, parameters, keep words and tokens, values and names as bytes.
use Rattle.std.specs.Prelude.{if◌then◌else◌, List, [], ◌∷◌, ℕ, zero, suc, ◌+◌, ◌-◌, ◌*◌, eqb, take, drop, get_or, None, Option, Some}
use Rattle.rules.specs.declared.Place.{Place}
use Rattle.rules.specs.declared.PlaceholderKind.{PlaceholderKind}
use Rattle.rules.specs.declared.PlaceholderKind.TheVariants as key
use Rattle.rules.specs.declared.Token as declared
use Rattle.rules.specs.declared.Indent.{Indent}
use Rattle.rules.specs.declared.Indent.TheVariants as indent
use Rattle.rules.specs.declared.Case.{Case}
use Rattle.rules.specs.declared.Case.TheVariants as case
use Rattle.rules.specs.declared.Inline.{Inline}
use Rattle.rules.specs.declared.Inline.TheVariants as inline
use Rattle.rules.specs.declared.FormatOptions.{FormatOptions}
use Rattle.rules.specs.declared.Counts.{Counts}
use Rattle.rules.specs.Tokens.{Key, absent, named, zero_indexed, one_indexed, Token, Here}
use Rattle.rules.specs.Words.{word_at, place_at, token_at, params_at, keeps_at, body_at}

-- the bytes of a place, base being the offset of the first body byte
unfoldable pub body_part : List ℕ → ℕ → Place → List ℕ
body_part s base p = take p.len (drop (base + p.start) s)

-- f at k numbers from i on
unfoldable pub list_of {ℓ} : {A : Type ℓ} → (ℕ → A) → ℕ → ℕ → List A
list_of f i zero = []
list_of f i (suc k) = f i ∷ list_of f (suc i) k

-- ---- options

unfoldable pub indent_from : ℕ → Indent
indent_from w = if eqb w 256 then indent.Tabs else indent.Spaces w

unfoldable pub case_from : ℕ → Case
case_from w = get_or (case.AsIs ∷ case.Upper ∷ []) w case.Lower

-- 1 is withdrawn (refusal 14); it reads as the 2 that it is converted to
unfoldable pub inline_from : ℕ → Inline
inline_from w = if eqb w 0 then inline.Off else inline.Comments

unfoldable pub limit_from : ℕ → Option ℕ
limit_from w = if eqb w 4294967295 then None else Some w

unfoldable pub options_of : List ℕ → FormatOptions
options_of s =
    record {
      indent = indent_from (word_at s 20);
      casing = case_from (word_at s 24);
      inline = inline_from (word_at s 28);
      lines_between_queries = word_at s 32;
      max_inline_block = word_at s 36;
      max_inline_arguments = limit_from (word_at s 40);
      max_inline_top_level = limit_from (word_at s 44);
    }

-- ---- tokens

unfoldable pub key_read : List ℕ → ℕ → Option PlaceholderKind → Key
key_read s base None = absent
key_read s base (Some (key.Named p)) = named (body_part s base p)
key_read s base (Some (key.Zero n)) = zero_indexed n
key_read s base (Some (key.One n)) = one_indexed n

-- a declared token, read
abbrev pub token_read : List ℕ → ℕ → declared.Token → Token
token_read s base t = record { kind = t.kind; value = body_part s base t.value; key = key_read s base t.key; create = t.create }

abbrev pub token_of : List ℕ → ℕ → ℕ → Token
token_of s base i = token_read s base (token_at s i)

-- k tokens from the i-th on
abbrev pub tokens_from : List ℕ → ℕ → ℕ → ℕ → List Token
tokens_from s base i k = list_of (token_of s base) i k

-- the first i tokens, the last of them first
unfoldable pub tokens_before : List ℕ → ℕ → ℕ → List Token
tokens_before s base zero = []
tokens_before s base (suc i) = token_of s base i ∷ tokens_before s base i

-- token i of n, with those around it
abbrev pub here_at : List ℕ → ℕ → ℕ → ℕ → Here
here_at s base n i = record { before = tokens_before s base i; token = token_of s base i; after = tokens_from s base (i + 1) (n - (i + 1)) }

-- ---- parameters and keep words

pub record Param : Type 0 where
  pub name : List ℕ
  pub value : List ℕ

pub data QueryParams : Type 0 where
  NoParams : QueryParams
  Indexed : List (List ℕ) → QueryParams
  Named : List Param → QueryParams

-- parameter i: its name, and what it shows
unfoldable pub name_of : List ℕ → Counts → ℕ → List ℕ
name_of s c i = body_part s (body_at c) (place_at s (params_at c + 16 * i))

unfoldable pub value_of : List ℕ → Counts → ℕ → List ℕ
value_of s c i = body_part s (body_at c) (place_at s (params_at c + 16 * i + 8))

abbrev pub param_of : List ℕ → Counts → ℕ → Param
param_of s c i = record { name = name_of s c i; value = value_of s c i }

unfoldable pub params_of : List ℕ → Counts → QueryParams
params_of s c =
    if eqb (word_at s 16) 0 then NoParams
    else if eqb (word_at s 16) 1 then Indexed (list_of (value_of s c) 0 c.params)
    else Named (list_of (param_of s c) 0 c.params)

unfoldable pub keep_of : List ℕ → Counts → ℕ → List ℕ
keep_of s c i = body_part s (body_at c) (place_at s (keeps_at c + 8 * i))

unfoldable pub keeps_of : List ℕ → Counts → List (List ℕ)
keeps_of s c = list_of (keep_of s c) 0 c.keeps

-- ---- the whole

-- what is the same for the whole sheet, room being the buffer's length
pub record Env : Type 0 where
  pub options : FormatOptions
  pub params : QueryParams
  pub keep : List (List ℕ)
  pub room : ℕ

unfoldable pub env_of : List ℕ → Counts → ℕ → Env
env_of s c room = record { options = options_of s; params = params_of s c; keep = keeps_of s c; room = room }

unfoldable pub tokens_of : List ℕ → Counts → List Token
tokens_of s c = tokens_from s (body_at c) 0 c.tokens
