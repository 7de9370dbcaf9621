-- What the words of the table say, as the code reads them: g is read from the row of token t, and o from that of its depth. Assumes nothing.
use mathlib.Core.Path.{◌≡◌}
use mathlib.Core.List.{List}
use Prim.Native.Nat.{ℕ, ◌+◌, ◌*◌, ◌≤◌, ◌<◌}
use native.Mathlib.Omega.{arith}
use lib.ListN.{length}
use Rattle.rules.specs.Tokens.{Token}
use Rattle.table_blocks.specs.declared.Onward.{Onward}
use Rattle.table_blocks.specs.Sums.{depth}
use Rattle.table_blocks.specs.First.{First, top_of, close_to}
use Rattle.table_blocks.specs.Rows.{onward_in, Level, Rows}
use Rattle.table_blocks.proofs.Counts.{depth_le}
use Rattle.table_blocks.proofs.Tables.{level-few}

module _ (f : ℕ → Token) (n j t : ℕ) (a : List ℕ) (q : Rows f n j a) (h : t < n) (g : Onward) (eg : g ≡ onward_in a t) where
  pub depth-at : g.depth ≡ depth f t
  depth-at = rw eg (q.levels t h).depth_is

  pub depth-in : g.depth < n
  depth-in = let e = depth-at in let l = depth_le f t in omega arith

  pub depth-room : 6 * g.depth + 6 ≤ length a
  depth-room = let i = depth-in in let m = q.written.long in omega arith

  module _ (o : Onward) (eo : o ≡ onward_in a g.depth) where
    level : Level f n j g.depth o
    level = rw eo (q.levels g.depth depth-in)

    pub onward-few : (o.top ≤ 1024) × (o.depth ≤ 1024) × (o.close ≤ 1024)
    onward-few = level-few f n q.written.short depth-in level

    pub next-at : First (top_of f (depth f t)) j n o.top
    next-at = rw (← depth-at) level.tops

    pub leaves-at : First (close_to f g.depth) j n o.close
    leaves-at = level.closes

    pub close-at : First (close_to f (depth f t)) j n o.close
    close-at = rw (← depth-at) level.closes
