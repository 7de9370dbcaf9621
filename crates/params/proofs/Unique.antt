-- Two answers of `offends` that fit every count are one. Assumes nothing.
use mathlib.Core.Path.{◌≡◌, sym, ◌∙◌}
use mathlib.Core.Bool.{Bool}
use mathlib.Core.List.{List}
use Rattle.std.specs.Prelude.{Option}
use Prim.Native.Nat.{ℕ}
use Rattle.rules.specs.declared.Counts.{Counts}
use Rattle.rules.specs.declared.PlaceholderKind.{PlaceholderKind}
use Rattle.rules.specs.Words.{body_at}
use Rattle.rules.specs.Sheet.{key_read, params_of}
use Rattle.rules.specs.Params.{offends}

pub offends-one : (s : List ℕ) (key : Option PlaceholderKind) (r q : Bool) → ((c : Counts) → r ≡ offends (params_of s c) (key_read s (body_at c) key)) → ((c : Counts) → q ≡ offends (params_of s c) (key_read s (body_at c) key)) → r ≡ q
offends-one s key r q f g =
    let c : Counts = record { tokens = 0; params = 0; keeps = 0; bytes = 0 } in
    f c ∙ sym (g c)
