-- What is asked of the kind of a token that may be missing.
use Rattle.std.specs.Prelude.{Option, None, Some}
use mathlib.Core.Path.{◌≡◌}
use mathlib.Core.List.{List}
use Rattle.rules.specs.declared.TokenKind.{TokenKind}
use Rattle.rules.specs.Base.{holds}
use Rattle.rules.specs.Tokens.{Token, is, one_of}
use Rattle.rules.specs.Formatter.{kind_is, kind_in}
use Rattle.around.specs.Seen.{seen_of}

pub seen_in : (ks : List TokenKind) (o : Option Token) (q : Option TokenKind) → q ≡ seen_of o → holds (kind_in ks) o ≡ holds (one_of ks) q
unfolding kind_in
seen_in ks None q e = rw e
seen_in ks (Some t) q e = rw e

pub seen_is : (k : TokenKind) (o : Option Token) (q : Option TokenKind) → q ≡ seen_of o → holds (kind_is k) o ≡ holds (λ x. is x k) q
unfolding kind_is
seen_is k None q e = rw e
seen_is k (Some t) q e = rw e
