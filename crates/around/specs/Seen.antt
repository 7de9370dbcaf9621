-- The kind of a token that may be missing.
use Rattle.std.specs.Prelude.{Option}
use Rattle.std.specs.Option.{option_map}
use Rattle.rules.specs.declared.TokenKind.{TokenKind}
use Rattle.rules.specs.Tokens.{Token}

abbrev pub seen_of : Option Token → Option TokenKind
seen_of o = option_map (λ t. t.kind) o
