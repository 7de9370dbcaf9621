-- Laws that answer the handlers: where a test holds or fails, and a step after what is laid already. Assumes nothing.
use mathlib.Core.Path.{◌≡◌}
use mathlib.Core.Bool.{Bool, true, false}
use mathlib.Core.List.{List}
use Prim.Native.Nat.{ℕ}
use lib.ListN.{length}
use Rattle.rules.specs.declared.FormatOptions.{FormatOptions}
use Rattle.rules.specs.Text.{Text, append, indent_of, is_on, new_line, closing_line}
use Rattle.text.specs.declared.Text.{Text as Code}
use Rattle.text.specs.Held.{text_of, Held, Laid}
use Rattle.text.proofs.HeldLaws.{laid_same, onward}
use Rattle.query.specs.Query.{line_at, closing_at, blank, with_spaces}
use Rattle.rules.specs.Base.{choose, when}

-- ---- a test

pub by-when : {cap : ℕ} {u : Code} {d : List ℕ} (b : Bool) (f : Text → Text) (w : Text) → b ≡ true → Laid cap (f w) u d → Laid cap (when b f w) u d
unfolding when
by-when b f w h p = rw h p

pub by-unless : (b : Bool) (f : Text → Text) (t : Code) (d : List ℕ) → b ≡ false → Held t d → Laid (length d) (when b f (text_of t d)) t d
unfolding when
by-unless b f t d h k = rw h (laid_same t d k)

module _ {cap : ℕ} {u : Code} {d : List ℕ} (b : Bool) (f g : Text → Text) (w : Text) where
  pub by_first : b ≡ true → Laid cap (f w) u d → Laid cap (choose b f g w) u d
  unfolding choose
  by_first h p = rw h p

  pub by-second : b ≡ false → Laid cap (g w) u d → Laid cap (choose b f g w) u d
  unfolding choose
  by-second h p = rw h p

-- ---- a new line, by the option

pub by-line-at : {cap : ℕ} {u : Code} {d : List ℕ} (o : FormatOptions) (level : ℕ) (w : Text) (b : Bool) → b ≡ is_on o.inline → Laid cap (new_line cap b (indent_of o.indent level) w) u d → Laid cap (line_at cap o level w) u d
unfolding line_at
by-line-at o level w b e p = rw (← e) p

pub by-closing-at : {cap : ℕ} {u : Code} {d : List ℕ} (o : FormatOptions) (level : ℕ) (w : Text) → Laid cap (closing_line cap o.inline (indent_of o.indent level) w) u d → Laid cap (closing_at cap o level w) u d
unfolding closing_at
by-closing-at o level w p = p

-- ---- a step after w, in the one buffer; the step stands first, so that a search goes from the end back to the start

module _ {cap : ℕ} {w : Text} {t u : Code} {d r : List ℕ} where
  pub then_append : (v : List ℕ) → Laid (length d) (append (length d) v (text_of t d)) u r → Laid cap w t d → Laid cap (append cap v w) u r
  then_append v q p = onward (λ n. append n v) p q

  pub then_spaces : (v : List ℕ) → Laid (length d) (with_spaces (length d) v (text_of t d)) u r → Laid cap w t d → Laid cap (with_spaces cap v w) u r
  then_spaces v q p = onward (λ n. with_spaces n v) p q

  pub then_line : (o : FormatOptions) (level : ℕ) → Laid (length d) (line_at (length d) o level (text_of t d)) u r → Laid cap w t d → Laid cap (line_at cap o level w) u r
  then_line o level q p = onward (λ n. line_at n o level) p q

  pub then_closing : (o : FormatOptions) (level : ℕ) → Laid (length d) (closing_at (length d) o level (text_of t d)) u r → Laid cap w t d → Laid cap (closing_at cap o level w) u r
  then_closing o level q p = onward (λ n. closing_at n o level) p q

  module _ (b : Bool) where
    pub then_when : (f : Text → Text) → Laid (length d) (when b f (text_of t d)) u r → Laid cap w t d → Laid cap (when b f w) u r
    then_when f q p = onward (λ n. when b f) p q

    -- a step that takes the room
    pub then_when_in : (f : ℕ → Text → Text) → Laid (length d) (when b (f (length d)) (text_of t d)) u r → Laid cap w t d → Laid cap (when b (f cap) w) u r
    then_when_in f q p = onward (λ n. when b (f n)) p q

    pub then_blank_if : Laid (length d) (when b (blank (length d)) (text_of t d)) u r → Laid cap w t d → Laid cap (when b (blank cap) w) u r
    then_blank_if = then_when_in blank

    pub then_line_if : (o : FormatOptions) (level : ℕ) → Laid (length d) (when b (line_at (length d) o level) (text_of t d)) u r → Laid cap w t d → Laid cap (when b (line_at cap o level) w) u r
    then_line_if o level = then_when_in (λ n. line_at n o level)
