-- What a lent buffer and the code's text stand for, and what they are for a text of the rules.
use Rattle.std.specs.Prelude.{if◌then◌else◌, ◌≡◌, Bool, true, false, List, ◌++◌, ℕ, ◌-◌, ◌≤◌, min, eqb, length, take, drop, replicate}
use Rattle.rules.specs.Text.{Text, fits, refused, is_blank, is_white}
use Rattle.text.specs.declared.Text.{Text as Code}

-- the rules' text that t and the buffer d stand for
unfoldable pub text_of : Code → List ℕ → Text
text_of t d = if eqb t.fault 0 then fits t.floor t.low (take t.len d) else refused t.fault

-- the text is within the buffer, zeros follow it, floor and low are within the text, and a refused one is empty
pub record Held (t : Code) (d : List ℕ) : Type 0 where
  pub within : t.len ≤ length d
  pub floored : t.floor ≤ t.len
  pub lowest : t.low ≤ t.len
  pub zeros : drop t.len d ≡ replicate (length d - t.len) 0
  pub empty : (t.fault ≡ 0 → ⊥) → t.len ≡ 0

-- the code's text, and each byte of a buffer of cap bytes, for a text of the rules
unfoldable pub code_of : Text → Code
code_of (fits k m b) = record { len = length b; floor = k; low = m; fault = 0 }
code_of (refused n) = record { len = 0; floor = 0; low = 0; fault = n }

unfoldable pub bytes_of : ℕ → Text → List ℕ
bytes_of cap (fits k m b) = b ++ replicate (cap - length b) 0
bytes_of cap (refused n) = replicate cap 0

-- the answer t and the buffer d are those of w, to the byte; held and text follow from the first two, and are what a caller goes on with
pub record Laid (cap : ℕ) (w : Text) (t : Code) (d : List ℕ) : Type 0 where
  pub room : length d ≡ cap
  pub code : t ≡ code_of w
  pub bytes : d ≡ bytes_of cap w
  pub held : Held t d
  pub text : text_of t d ≡ w

-- the floor is the text's length
abbrev pub held_whole : Code → Code
held_whole t = record { len = t.len; floor = t.len; low = t.low; fault = t.fault }

-- low is the text's length
abbrev pub marked : Code → Code
marked t = record { len = t.len; floor = t.floor; low = t.len; fault = t.fault }

-- a text that was cut to n bytes
abbrev pub cut_to : ℕ → ℕ → ℕ → ℕ → Code
cut_to n floor low fault = record { len = n; floor = floor; low = min low n; fault = fault }

-- the bytes that a cut takes: white, or blanks and tabs alone
abbrev pub cut_bytes : Bool → ℕ → Bool
cut_bytes true = is_white
cut_bytes false = is_blank
