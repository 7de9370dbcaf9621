-- Tokens by their place: the depth before each, and what is counted up to each.
use Rattle.std.specs.Prelude.{if◌then◌else◌, Bool, ℕ, zero, suc, ◌+◌, length}
use Rattle.rules.specs.declared.Part.{Part}
use Rattle.rules.specs.Tokens.{Token}
use Rattle.rules.specs.InlineBlock.{part_of, is_newline, level_after, is_forbidden_token}

abbrev pub part_at : (ℕ → Token) → ℕ → Part
part_at f j = part_of (f j).kind

-- the brackets that are open before token j: a stray close leaves 0
unfoldable pub depth : (ℕ → Token) → ℕ → ℕ
depth f zero = 0
depth f (suc j) = level_after (part_at f j) (depth f j)

-- the bytes of the values before token j
unfoldable pub size : (ℕ → Token) → ℕ → ℕ
size f zero = 0
size f (suc j) = size f j + length (f j).value

-- how many before j have g
unfoldable pub count : (ℕ → Bool) → ℕ → ℕ
count g zero = 0
count g (suc j) = count g j + (if g j then 1 else 0)

abbrev pub newline_at : (ℕ → Token) → ℕ → Bool
newline_at f j = is_newline (part_at f j)

abbrev pub forbidden_at : (ℕ → Token) → ℕ → Bool
forbidden_at f j = is_forbidden_token (f j)
