-- What is asked of a token, what it shows, and what is counted for it.
use Rattle.std.specs.Prelude.{◌≡◌, List, ℕ, ◌≤◌}
use Rattle.rules.specs.declared.Token.{Token}
use Rattle.rules.specs.declared.Turn.{Turn}
use Rattle.rules.specs.declared.Turn.TheVariants as turn
use Rattle.rules.specs.declared.Counts.{Counts}
use Rattle.rules.specs.declared.FormatOptions.{FormatOptions}
use Rattle.rules.specs.Words.{body_at}
use Rattle.rules.specs.Sheet.{body_part, token_read, params_of}
use Rattle.rules.specs.Room.{shown_by, room_of, counter_after}
use Rattle.tokens.specs.Placed.{Inside}
use Rattle.params.specs.declared.Shown.{Shown}
use Rattle.room.specs.declared.Tally.{Tally}

-- no token counts more: 32,768 bytes that are all line feeds, with an indent of 128 * 255 after each, come near it; 1,024 times as much is far below 2 ^ 64
abbrev pub most : ℕ
most = 1100000000

-- r is what it shows, i being the counter
pub record Showing (s : List ℕ) (c : Counts) (t : Token) (i : ℕ) (r : Shown) : Type 0 where
  pub bytes : body_part s (body_at c) r.place ≡ shown_by (params_of s c) i (token_read s (body_at c) t)
  pub place_in : Inside s (body_at c) r.place
  pub counter : r.index ≡ counter_after (params_of s c) turn.LaidOut (token_read s (body_at c) t) i

-- r is what is counted for it, taken so
pub record Tallied (s : List ℕ) (c : Counts) (o : FormatOptions) (u : Turn) (t : Token) (i : ℕ) (r : Tally) : Type 0 where
  pub bytes : r.bytes ≡ room_of o (params_of s c) i u (token_read s (body_at c) t)
  pub few : r.bytes ≤ most
  pub counter : r.index ≡ counter_after (params_of s c) u (token_read s (body_at c) t) i
