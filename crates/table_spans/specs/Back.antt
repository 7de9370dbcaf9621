-- The reading ahead from the last token back: what a token adds in front of what is read after it.
use Rattle.std.specs.Prelude.{Bool, true, false, ◌||◌, List, [], ◌∷◌, ℕ, zero, suc, ◌+◌, ◌-◌, ◌≤◌, ltb, length}
use Rattle.rules.specs.declared.Sort.{Sort}
use Rattle.rules.specs.declared.Sort.TheVariants as sort
use Rattle.rules.specs.Tokens.{Token}
use Rattle.rules.specs.Span.{sort_in}
use Rattle.table_spans.specs.declared.Rest.{Rest}
use Rattle.table_spans.specs.declared.Rests.{Rests}

abbrev pub bit_of : Bool → ℕ
bit_of true = 1
bit_of false = 0

-- ---- one token

abbrev pub nothing : Rest
nothing = record { full = 0; blocks = 0; commas = 0; first = false }

abbrev pub longer : ℕ → Rest → Rest
longer len r = record { full = r.full + len; blocks = r.blocks; commas = r.commas; first = r.first }

-- a close that no bracket opened; it does not stop at the open level 0
abbrev pub stray_in : Bool → ℕ → Rest → Rest
stray_in true len r = longer len r
stray_in false len r = nothing

-- in front of r, at the level of the reading
abbrev pub own_in : Bool → Sort → ℕ → Rest → Rest
own_in outer sort.Open len r = record { full = r.full + len; blocks = r.blocks + 1; commas = r.commas; first = r.first }
own_in outer sort.Close len r = stray_in outer len r
own_in outer sort.Head len r = nothing
own_in outer sort.White len r = longer 1 r
own_in outer sort.Semicolon len r = nothing
own_in outer sort.Comma len r = record { full = r.full + len; blocks = r.blocks; commas = r.commas + 1; first = false }
own_in outer sort.Other len r = record { full = r.full + len; blocks = r.blocks; commas = r.commas; first = true }

-- in front of r, inside a bracket
abbrev pub inside_in : Sort → ℕ → Rest → Rest
inside_in sort.Open len r = longer len r
inside_in sort.Close len r = longer len r
inside_in sort.Head len r = longer len r
inside_in sort.White len r = longer 1 r
inside_in sort.Semicolon len r = longer len r
inside_in sort.Comma len r = longer len r
inside_in sort.Other len r = record { full = r.full + len; blocks = r.blocks; commas = r.commas; first = true }

-- d being the level above that of the reading
abbrev pub back_in : Bool → ℕ → Sort → ℕ → Rest → Rest
back_in outer zero x len r = own_in outer x len r
back_in outer (suc d) x len r = inside_in x len r

abbrev pub less : ℕ → ℕ
less zero = zero
less (suc d) = d

-- the level after a token
abbrev pub level_in : Sort → ℕ → ℕ
level_in sort.Open d = suc d
level_in sort.Close d = less d
level_in sort.Head d = d
level_in sort.White d = d
level_in sort.Semicolon d = d
level_in sort.Comma d = d
level_in sort.Other d = d

-- it closes the level 0
abbrev pub is_zero : ℕ → Bool
is_zero zero = true
is_zero (suc d) = false

abbrev pub closes_in : Sort → ℕ → Bool
closes_in sort.Open d = false
closes_in sort.Close d = is_zero d
closes_in sort.Head d = false
closes_in sort.White d = false
closes_in sort.Semicolon d = false
closes_in sort.Comma d = false
closes_in sort.Other d = false

-- what it adds to a span
abbrev pub span_in : Sort → ℕ → ℕ
span_in sort.Open len = len
span_in sort.Close len = len
span_in sort.Head len = len
span_in sort.White len = 1
span_in sort.Semicolon len = len
span_in sort.Comma len = len
span_in sort.Other len = len

abbrev pub other_in : Sort → ℕ
other_in sort.Open = 0
other_in sort.Close = 0
other_in sort.Head = 0
other_in sort.White = 0
other_in sort.Semicolon = 0
other_in sort.Comma = 0
other_in sort.Other = 1

-- the index of the close, token i being of the sort
abbrev pub close_in : Sort → ℕ → ℕ → ℕ
close_in sort.Open i close = close
close_in sort.Close i close = i
close_in sort.Head i close = close
close_in sort.White i close = close
close_in sort.Semicolon i close = close
close_in sort.Comma i close = close
close_in sort.Other i close = close

abbrev pub opens_in : Sort → Bool
opens_in sort.Open = true
opens_in sort.Close = false
opens_in sort.Head = false
opens_in sort.White = false
opens_in sort.Semicolon = false
opens_in sort.Comma = false
opens_in sort.Other = false

-- its row is written
abbrev pub saves_in : Sort → Bool
saves_in sort.Open = false
saves_in sort.Close = true
saves_in sort.Head = true
saves_in sort.White = false
saves_in sort.Semicolon = false
saves_in sort.Comma = false
saves_in sort.Other = false

-- ---- the tokens

-- what is read of them; outer: the open level is 0
unfoldable pub read_back : Bool → ℕ → List Token → Rest
read_back outer d [] = nothing
read_back outer d (t ∷ ts) = back_in outer d (sort_in t) (length t.value) (read_back outer (level_in (sort_in t) d) ts)

unfoldable pub total_of : List Token → ℕ
total_of [] = 0
total_of (t ∷ ts) = total_of ts + span_in (sort_in t) (length t.value)

unfoldable pub others_of : List Token → ℕ
others_of [] = 0
others_of (t ∷ ts) = others_of ts + other_in (sort_in t)

abbrev pub closed_in : Bool → List Token → List Token → List Token
closed_in true ts us = ts
closed_in false ts us = us

-- those after the close of the level d
unfoldable pub closed : ℕ → List Token → List Token
closed d [] = []
closed d (t ∷ ts) = closed_in (closes_in (sort_in t) d) ts (closed (level_in (sort_in t) d) ts)

-- ---- the two cases, and the counts

abbrev pub ended : ℕ → Rests
ended n = record { inner = nothing; outer = nothing; total = 0; others = 0; close = n }

abbrev pub front_in : Sort → ℕ → ℕ → Rests → Rests
front_in x len i f =
    record {
      inner = back_in false 0 x len f.inner;
      outer = back_in true 0 x len f.outer;
      total = f.total + span_in x len;
      others = f.others + other_in x;
      close = close_in x i f.close;
    }

-- inside a bracket: so many bytes up to its close, with an argument or without, and then r
abbrev pub under_in : ℕ → Bool → Rest → Rest
under_in within argument r = record { full = r.full + within; blocks = r.blocks; commas = r.commas; first = argument || r.first }

-- p being after the close
abbrev pub through_in : Rests → Rests → Rests
through_in f p =
    record {
      inner = under_in (f.total - p.total) (ltb p.others f.others) p.inner;
      outer = under_in (f.total - p.total) (ltb p.others f.others) p.outer;
      total = f.total;
      others = f.others;
      close = p.close;
    }

-- ---- bounds, so that no sum wraps

pub record Few (r : Rest) : Type 0 where
  pub full : r.full ≤ 67108864
  pub blocks : r.blocks ≤ 1024
  pub commas : r.commas ≤ 1024

pub record FewRests (f : Rests) : Type 0 where
  pub inner : Few f.inner
  pub outer : Few f.outer
  pub total : f.total ≤ 67108864
  pub others : f.others ≤ 1024
  pub close : f.close ≤ 1024
