-- What the code's inline blocks stand for.
use Rattle.std.specs.Prelude.{◌≡◌, List, ℕ}
use Rattle.stacks.specs.Stack.{stack, Kept}
use Rattle.inline_block.specs.declared.InlineBlock.{InlineBlock}

unfoldable pub inline_block_of : InlineBlock → List ℕ
inline_block_of i = stack 0 i.level i.lengths

-- the invariant: the stack is kept
abbrev pub Clean : InlineBlock → Type 0
Clean i = Kept 0 128 i.level i.lengths

-- r is the one value for w
pub record Stands (w : List ℕ) (r : InlineBlock) : Type 0 where
  pub is : inline_block_of r ≡ w
  pub clean : Clean r
