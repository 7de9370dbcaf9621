-- The facts, as they are read from the words. Assumes nothing.
use mathlib.Core.Path.{◌≡◌}
use mathlib.Core.List.{List}
use Prim.Native.Nat.{ℕ, ◌+◌, ◌*◌, ◌/◌, ◌%◌, ◌<◌}
use native.Mathlib.Omega.{arith}
use lib.ListN.{get_or}
use Rattle.rules.specs.declared.Sort.TheVariants as sort
use Rattle.rules.specs.declared.FormatOptions.{FormatOptions}
use Rattle.rules.specs.Sheet.{token_of, here_at}
use Rattle.rules.specs.Span.{sort_in, scan, unread, span_of, top_level_tokens_info}
use Rattle.around.specs.Readable.{Readable}
use Rattle.ahead.proofs.Small.{read_small}
use Rattle.table.specs.Table.{column, ReadAs, Filled}

-- ---- a top-level word

module _ (level : ℕ) (s : List ℕ) (base n i : ℕ) (t : List ℕ) (k : ℕ) (r : Readable s base n) (f : Filled s base n t) (h : i < n) (x : sort_in (token_of s base i) ≡ sort.Head) (e : k ≡ column level) where
  read : ReadAs t i k (scan level (here_at s base n i).after (unread level))
  read = rw e (f.spans.spans i h x level)

  counts-as : get_or t (6 * i + k + 1) 0 ≡ (scan level (here_at s base n i).after (unread level)).blocks * 65536 + (scan level (here_at s base n i).after (unread level)).arguments
  counts-as = let j : 6 * i + k + 1 ≡ 6 * i + (k + 1) = omega arith in rw j read.counts

  pub spans-read : (op : FormatOptions) (len any : ℕ)
      → span_of op len (record { level = any; full_span = get_or t (6 * i + k) 0; blocks = get_or t (6 * i + k + 1) 0 / 65536; arguments = get_or t (6 * i + k + 1) 0 % 65536 }) ≡ top_level_tokens_info op level len (here_at s base n i).after
  unfolding top_level_tokens_info
  spans-read op len any =
      let a = scan level (here_at s base n i).after (unread level) in
      let fewer = (read_small s base n i level r h).arguments in
      let w = counts-as in
      let e₁ : get_or t (6 * i + k + 1) 0 / 65536 ≡ a.blocks = omega arith in
      let e₂ : get_or t (6 * i + k + 1) 0 % 65536 ≡ a.arguments = omega arith in rw (read.full-span, e₁, e₂)
