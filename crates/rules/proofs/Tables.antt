-- Tables that are said twice say one thing. Assumes nothing.
use mathlib.Core.Path.{◌≡◌, refl}
use mathlib.Core.List.{[], ◌∷◌, ◌++◌, map}
use Rattle.rules.specs.declared.TokenKind.TheVariants as kind
use Rattle.rules.specs.Tokens.{kind_no}
use Rattle.rules.specs.Words.{kinds}
use Rattle.rules.specs.Sheet.{list_of}

-- the kinds in the order of their numbers, 0 to 16
pub kinds-numbered : map kind_no (kinds ++ kind.Join ∷ []) ≡ list_of (λ n. n) 0 17
unfolding kinds list_of
kinds-numbered = refl
