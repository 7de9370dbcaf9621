-- The table of the second engine: six words for each token (docs/ahead.md).
use Rattle.std.specs.Prelude.{if◌then◌else◌, ◌≡◌, List, ◌∷◌, ℕ, ◌+◌, ◌*◌, ◌≤◌, ◌<◌, eqb, length, get_or}
use Rattle.std.proofs.lemmas.List.Edits.{sets}
use Rattle.rules.specs.declared.TokenKind.TheVariants as kind
use Rattle.rules.specs.declared.Sort.TheVariants as sort
use Rattle.rules.specs.declared.Scan.{Scan}
use Rattle.rules.specs.declared.BlockInfo.{BlockInfo}
use Rattle.rules.specs.Sheet.{token_of, here_at}
use Rattle.rules.specs.Span.{sort_in, scan, unread}
use Rattle.rules.specs.InlineBlock.{build_info}

-- word k of token i
abbrev pub word_of : List ℕ → ℕ → ℕ → ℕ
word_of t i k = get_or t (6 * i + k) 0

-- the table with these words in row i, from word k on
unfoldable pub with_words : List ℕ → ℕ → ℕ → List ℕ → List ℕ
with_words t i k ws = sets t (6 * i + k) ws

-- what was read is in two words from the k-th on
pub record ReadAs (t : List ℕ) (i k : ℕ) (a : Scan) : Type 0 where
  pub full-span : word_of t i k ≡ a.full_span
  pub counts : word_of t i (k + 1) ≡ a.blocks * 65536 + a.arguments

-- the words of a top-level word, by the open level
abbrev pub column : ℕ → ℕ
column o = if eqb o 0 then 2 else 0

-- of every top-level word of n tokens, at every open level
pub record Spans (s : List ℕ) (base n : ℕ) (t : List ℕ) : Type 0 where
  pub spans : (i : ℕ) → i < n → sort_in (token_of s base i) ≡ sort.Head → (o : ℕ) → ReadAs t i (column o) (scan o (here_at s base n i).after (unread o))

-- a block's facts in two words
abbrev pub facts_word : BlockInfo → ℕ
facts_word b = b.top_level_token_span * 4 + (if b.has_forbidden_tokens then 2 else 0) + (if b.has_reserved_tokens then 1 else 0)

pub record BuiltAs (t : List ℕ) (i : ℕ) (b : BlockInfo) : Type 0 where
  pub length : word_of t i 0 ≡ b.length
  pub facts : word_of t i 1 ≡ facts_word b

-- of every opening bracket of n tokens
pub record Blocks (s : List ℕ) (base n : ℕ) (t : List ℕ) : Type 0 where
  pub blocks : (i : ℕ) → i < n → (token_of s base i).kind ≡ kind.OpenParen → BuiltAs t i (build_info ((here_at s base n i).token ∷ (here_at s base n i).after))

-- the whole table
pub record Filled (s : List ℕ) (base n : ℕ) (t : List ℕ) : Type 0 where
  pub long : 6 * n ≤ length t
  pub spans : Spans s base n t
  pub blocks : Blocks s base n t

-- the two words of every opening bracket stay as they were
pub record SameBlocks (s : List ℕ) (base n : ℕ) (t u : List ℕ) : Type 0 where
  pub same : (i : ℕ) → i < n → (token_of s base i).kind ≡ kind.OpenParen → (word_of u i 0 ≡ word_of t i 0) × (word_of u i 1 ≡ word_of t i 1)
