-- The reading of a block, a token at a time.
use mathlib.Core.Bool.{true, false}
use mathlib.Core.Path.{◌≡◌, refl}
use mathlib.Core.List.{List, [], ◌∷◌}
use Rattle.rules.specs.declared.BlockInfo.{BlockInfo}
use Rattle.rules.specs.Tokens.{Token}
use Rattle.rules.specs.InlineBlock.{part_of, closes_at, measured, is_forbidden_token, forbid, build_from}

pub build_none : (b : BlockInfo) → build_from [] b ≡ b
unfolding build_from
build_none b = refl

pub build_stop : (t : Token) (ts : List Token) (b : BlockInfo) → closes_at (part_of t.kind) (measured t b).level ≡ true → build_from (t ∷ ts) b ≡ measured t b
unfolding build_from
build_stop t ts b h = rw h

pub build_go : (t : Token) (ts : List Token) (b : BlockInfo) → closes_at (part_of t.kind) (measured t b).level ≡ false → build_from (t ∷ ts) b ≡ build_from ts (forbid (is_forbidden_token t) (measured t b))
unfolding build_from
build_go t ts b h = rw h
