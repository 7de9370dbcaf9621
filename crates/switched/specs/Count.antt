-- The placeholders of a list of tokens, whatever the switch says.
use Rattle.std.specs.Prelude.{List, [], ◌∷◌, ℕ, suc}
use Rattle.rules.specs.declared.TokenKind.TheVariants.{Placeholder}
use Rattle.rules.specs.Base.{◌▹◌, when}
use Rattle.rules.specs.Tokens.{Token, is}

unfoldable pub most_placeholders : List Token → ℕ
most_placeholders [] = 0
most_placeholders (t ∷ ts) = most_placeholders ts ▹ when (is t.kind Placeholder) suc
