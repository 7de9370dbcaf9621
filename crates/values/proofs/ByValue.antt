-- Where a token's value is a sign, the sign's rule is the rule. Assumes nothing.
use mathlib.Core.Path.{◌≡◌, ◌∙◌}
use mathlib.Core.Bool.{Bool, true, false}
use mathlib.Core.List.{List}
use Prim.Native.Nat.{ℕ}
use Prim.Native.String.{String}
use lib.ListN.{length}
use Rattle.ascii.proofs.RunLaws.{same_true}
use Rattle.rules.specs.Base.{choose, same}
use Rattle.rules.specs.Bytes.{bytes}
use Rattle.rules.specs.Sheet.{Env}
use Rattle.rules.specs.State.{State}
use Rattle.rules.specs.Formatter.{format_with_spaces, format_with_space_after, format_without_spaces, format_comma, format_query_separator, format_by_value}
use Rattle.state.specs.declared.State.{State as Code}
use Rattle.state.specs.declared.Context.{Context}
use Rattle.state.specs.Of.{word_of, state_of, env_in, Handled}
use Rattle.values.specs.On.{on_value}

module _ (s : List ℕ) (x : Context) (i : ℕ) (st : Code) (d : List ℕ) (r : Code) (q : List ℕ) where
  abbrev ruled : (Env → List ℕ → State → State) → State
  ruled f = f (env_in s x (length d)) (word_of s x.base i) (state_of s x.base st d)

  by-rule : (f : Env → List ℕ → State → State) → ruled f ≡ ruled format_by_value → Handled s x i (on_value f) st d r q → Handled s x i (on_value format_by_value) st d r q
  by-rule f e p = record { room = p.room; steady = p.steady; state = p.state ∙ e }

  abbrev is_sign : String → Bool
  is_sign b = same (word_of s x.base i) (bytes b)

  -- a query separator is no other sign
  pub is-separator : is_sign ";" ≡ true → Handled s x i (on_value format_query_separator) st d r q → Handled s x i (on_value format_by_value) st d r q
  unfolding format_by_value choose
  is-separator h = by-rule format_query_separator (rw (same_true (word_of s x.base i) (bytes ";") h))

  module _ (comma : Bool) (c : comma ≡ is_sign ",") where
    pub is-comma : comma ≡ true → Handled s x i (on_value format_comma) st d r q → Handled s x i (on_value format_by_value) st d r q
    unfolding format_by_value choose
    is-comma h = by-rule format_comma (rw (← c, h))

    module _ (colon : Bool) (l : colon ≡ is_sign ":") (no : comma ≡ false) where
      pub is-colon : colon ≡ true → Handled s x i (on_value format_with_space_after) st d r q → Handled s x i (on_value format_by_value) st d r q
      unfolding format_by_value choose
      is-colon h = by-rule format_with_space_after (rw (← c, no, ← l, h))

      module _ (dot : Bool) (o : dot ≡ is_sign ".") (nor : colon ≡ false) where
        pub is-dot : dot ≡ true → Handled s x i (on_value format_without_spaces) st d r q → Handled s x i (on_value format_by_value) st d r q
        unfolding format_by_value choose
        is-dot h = by-rule format_without_spaces (rw (← c, no, ← l, nor, ← o, h))

        pub is-other : dot ≡ false → is_sign ";" ≡ false → Handled s x i (on_value format_with_spaces) st d r q → Handled s x i (on_value format_by_value) st d r q
        unfolding format_by_value choose
        is-other h z = by-rule format_with_spaces (rw (← c, no, ← l, nor, ← o, h, z))
