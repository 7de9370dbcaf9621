-- All that checks 1 to 4 give of a sheet: what its readers ask.
use Rattle.std.specs.Prelude.{◌≡◌, List, ℕ, ◌+◌, ◌*◌, ◌≤◌, ◌<◌, length, get_or}
use Rattle.rules.specs.declared.Counts.{Counts}
use Rattle.rules.specs.Words.{word_at, place_at, counts_of, tokens_at, params_at, keeps_at, body_at, kind_bits, class_bits, upper_bits}
use Rattle.tokens.specs.Placed.{Inside, Placed}

-- the bounds on the counts
pub record Few (c : Counts) : Type 0 where
  pub tokens : c.tokens ≤ 1024
  pub params : c.params ≤ 256
  pub keeps : c.keeps ≤ 64
  pub bytes : c.bytes ≤ 32768

-- the option words that may not be any number
pub record OptionWords (s : List ℕ) : Type 0 where
  pub head_in : 48 ≤ length s
  pub indent : word_at s 20 ≤ 256
  pub casing : word_at s 24 ≤ 2
  pub inline : word_at s 28 ≤ 2
  pub lines : word_at s 32 ≤ 255

-- the parameter mode; mode 0 has no parameters
pub record ModeWord (s : List ℕ) (c : Counts) : Type 0 where
  pub mode : word_at s 16 ≤ 2
  pub none_has : word_at s 16 ≡ 0 → c.params ≡ 0

-- the words of a token record at a byte offset that may not be any number
pub record TokenWords (s : List ℕ) (at : ℕ) : Type 0 where
  pub kind : kind_bits (word_at s at) ≤ 16
  pub upper : upper_bits (word_at s at) ≡ 0
  pub absent : class_bits (word_at s at) ≡ 0 → word_at s (at + 12) ≡ 0
  pub unnamed : (class_bits (word_at s at) ≡ 1 → ⊥) → word_at s (at + 16) ≡ 0

-- parameter i: its record in the file, its places in the bodies, and no name but in mode 2
pub record ParamIn (s : List ℕ) (c : Counts) (i : ℕ) : Type 0 where
  pub record_in : params_at c + 16 * i + 16 ≤ length s
  pub name_in : Inside s (body_at c) (place_at s (params_at c + 16 * i))
  pub value_in : Inside s (body_at c) (place_at s (params_at c + 16 * i + 8))
  pub nameless : (word_at s 16 ≡ 2 → ⊥) → place_at s (params_at c + 16 * i) ≡ record { start = 0; len = 0 }

-- so for all
pub record ParamsPlaced (s : List ℕ) (c : Counts) : Type 0 where
  pub few : c.params ≤ 256
  pub within : (i : ℕ) → i < c.params → ParamIn s c i

-- keep word i: its record in the file, its place in the bodies
pub record KeepIn (s : List ℕ) (c : Counts) (i : ℕ) : Type 0 where
  pub record_in : keeps_at c + 8 * i + 8 ≤ length s
  pub place_in : Inside s (body_at c) (place_at s (keeps_at c + 8 * i))

-- so for all
pub record KeepsPlaced (s : List ℕ) (c : Counts) : Type 0 where
  pub few : c.keeps ≤ 64
  pub within : (i : ℕ) → i < c.keeps → KeepIn s c i

-- the whole
pub record Sheeted (s : List ℕ) (c : Counts) : Type 0 where
  pub counted : c ≡ counts_of s
  pub few : Few c
  pub long : length s ≡ body_at c + c.bytes
  pub options : OptionWords s
  pub mode : ModeWord s c
  pub tokens : Placed s (body_at c) c.tokens
  pub words : (i : ℕ) → i < c.tokens → TokenWords s (tokens_at + 20 * i)
  pub params : ParamsPlaced s c
  pub keeps : KeepsPlaced s c
  pub ascii : (i : ℕ) → i < c.bytes → get_or s (body_at c + i) 0 < 128
