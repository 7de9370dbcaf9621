-- Every byte is told: two results that fit the promise of `side_by_side` are one. Assumes nothing.
use mathlib.Core.Path.{◌≡◌, sym, ◌∙◌}
use mathlib.Core.List.{List}
use Prim.Native.Nat.{ℕ, ◌+◌, ◌*◌, ◌/◌, ◌%◌}
use native.Mathlib.Omega.{arith}
use lib.Seq.{ext_get_or}
use Rattle.side.specs.Side.{SideBySide}

pub side_one : (d : List ℕ) (start far : ℕ) (l m : List ℕ) → SideBySide d start far l → SideBySide d start far m → l ≡ m
side_one d start far l m s t =
    ext_get_or 0 l m (s.long ∙ sym t.long) (λ i h.
    let p = s.long in
    let e : 16 * (i / 16) + i % 16 ≡ i = omega arith in
    rw e at (s.told (i / 16) (i % 16) (omega arith) (omega arith) ∙ sym (t.told (i / 16) (i % 16) (omega arith) (omega arith))))
