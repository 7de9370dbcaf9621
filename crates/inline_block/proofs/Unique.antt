-- Two results that stand for the same inline blocks are one. Assumes nothing.
use mathlib.Core.Path.{◌≡◌, sym, ap, ◌∙◌}
use mathlib.Core.List.{List}
use Prim.Native.Nat.{ℕ}
use lib.ListN.{length}
use Rattle.stacks.specs.Stack.{stack}
use Rattle.stacks.proofs.StackLaws.{length-stack, kept-one}
use Rattle.inline_block.specs.declared.InlineBlock.{InlineBlock}
use Rattle.inline_block.specs.Of.{inline_block_of, Stands}

pub stands_one : (w : List ℕ) (r q : InlineBlock) → Stands w r → Stands w q → r ≡ q
unfolding inline_block_of
stands_one w r q s t =
    let e : stack 0 r.level r.lengths ≡ stack 0 q.level q.lengths = s.is ∙ sym t.is in
    let n : r.level ≡ q.level = sym (length-stack 0 r.level r.lengths) ∙ ap length e ∙ length-stack 0 q.level q.lengths in
    let a : r.lengths ≡ q.lengths = kept-one 0 s.clean (rw (← n) at t.clean) (rw (← n) at e) in
    let z : mk r.lengths r.level ≡ mk q.lengths q.level = cc in
    z
  where
    mk : List ℕ → ℕ → InlineBlock
    mk l n = record { lengths = l; level = n }
