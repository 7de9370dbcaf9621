-- Laws of the open inline blocks. Assumes nothing.
use mathlib.Core.Path.{◌≡◌, refl, ◌∙◌}
use mathlib.Core.Bool.{Bool, true, false}
use mathlib.Core.List.{[], tail}
use Prim.Native.Nat.{ℕ, ◌+◌, ◌-◌, ◌<◌}
use native.Mathlib.Omega.{arith}
use lib.Dec.{ltb}
use lib.ListN.{length, get_or, set, replicate, take}
use lib.Seq.{set-get_or}
use native.Mathlib.Nat.{add-zero}
use Rattle.std.specs.Prelude.{if◌then◌else◌, min, Option, slice_get, unwrap_or}
use Rattle.std.specs.Int.{from_bool}
use Rattle.std.proofs.Math.Nat.{min-eq_left}
use Rattle.rules.specs.InlineBlock.{is_active, cur_len, begin_if_possible}
use Rattle.stacks.proofs.StackLaws.{length-stack, top_is, stack_push, stack-popped, kept-none, kept_push, kept-pop}
use Rattle.inline_block.specs.declared.InlineBlock.{InlineBlock}
use Rattle.inline_block.specs.Of.{inline_block_of, Clean, Stands}

pub by_new : Stands [] (record { lengths = replicate 128 0; level = 0 })
unfolding inline_block_of
by_new = record { is = refl; clean = kept-none 0 128 }

module _ (i : InlineBlock) where
  pub by_active : ltb 0 i.level ≡ is_active (inline_block_of i)
  unfolding inline_block_of is_active
  by_active = rw (length-stack 0 i.level i.lengths)

module _ (i : InlineBlock) (c : Clean i) where
  begun : (len : ℕ) → i.level < 128 → Stands (begin_if_possible true len (inline_block_of i)) (record { lengths = set i.lengths i.level len; level = i.level + 1 })
  unfolding inline_block_of begin_if_possible
  begun len h =
      let l = c.long in
      let k : i.level < length i.lengths = omega arith in
      record { is = stack_push 0 i.level i.lengths len k; clean = kept_push 0 len h c }

  pub by_begin : (b : Bool) (len at v u : ℕ) → (b ≡ true → i.level < 128) → at ≡ min i.level 127 → v ≡ (if b then len else get_or i.lengths at 0) → u ≡ from_bool b
      → Stands (begin_if_possible b len (inline_block_of i)) (record { lengths = set i.lengths at v; level = i.level + u })
  unfolding begin_if_possible
  by_begin true len at v u h ea ev eu =
      let k = h refl in
      let a : at ≡ i.level = ea ∙ min-eq_left (omega arith) in
      rw (a, ev, eu) (begun len k)
  by_begin false len at v u h ea ev eu = rw (ev, eu, set-get_or i.lengths at 0) (simp add-zero (record { is = refl; clean = c }))

  pub by_end : (at : ℕ) → at ≡ i.level - 1 → Stands (tail (inline_block_of i)) (record { lengths = set i.lengths at 0; level = at })
  unfolding inline_block_of
  by_end at e = rw e (record { is = stack-popped 0 i.level i.lengths; clean = kept-pop 0 (omega arith) c })

  pub by_cur : (o : Option ℕ) (r : ℕ) → o ≡ slice_get (take i.level i.lengths) (length (take i.level i.lengths) - 1) → r ≡ unwrap_or o 0 → r ≡ cur_len (inline_block_of i)
  unfolding inline_block_of cur_len
  by_cur o r eo er = let w = c.within in let l = c.long in top_is 0 i.level i.lengths o r (omega arith) eo er
