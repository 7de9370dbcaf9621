-- The longest span of the top-level words before a cut, by depths and lengths that are counted from the first token on.
use Rattle.std.specs.Prelude.{if◌then◌else◌, ℕ, zero, suc, ◌-◌, Option, None}
use Rattle.rules.specs.declared.Start.{Start}
use Rattle.rules.specs.Tokens.{Token}
use Rattle.rules.specs.InlineBlock.{is_top, start_after, span_after}
use Rattle.table_blocks.specs.Sums.{part_at, depth, size}

-- k tokens from j on
unfoldable pub read_span : (ℕ → Token) → ℕ → ℕ → Option Start → ℕ → ℕ
read_span f zero j s b = b
read_span f (suc k) j s b =
    read_span f k (suc j) (if is_top (part_at f j) then start_after s (depth f j) (size f (suc j)) else s) (if is_top (part_at f j) then span_after s (depth f j) (size f (suc j)) b else b)

-- from t on and before e, no word being open
unfoldable pub span_from : (ℕ → Token) → ℕ → ℕ → ℕ → ℕ
span_from f t e b = read_span f (e - t) t None b
