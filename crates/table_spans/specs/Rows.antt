-- The row of a token: what is read after it, in six words.
use Rattle.std.specs.Prelude.{if◌then◌else◌, ◌≡◌, List, [], ◌∷◌, ℕ, ◌+◌, ◌-◌, ◌*◌, ◌/◌, ◌%◌, eqb}
use Rattle.table.specs.Table.{word_of, with_words}
use Rattle.table_spans.specs.declared.Rest.{Rest}
use Rattle.table_spans.specs.declared.Rests.{Rests}
use Rattle.table_spans.specs.Back.{bit_of, ended}

abbrev pub arguments_of : Rest → ℕ
arguments_of r = r.commas + bit_of r.first

abbrev pub counts_of : Rest → ℕ
counts_of r = r.blocks * 65536 + arguments_of r

abbrev pub marks_of : Rests → ℕ
marks_of f = ((f.others * 2 + bit_of f.inner.first) * 2 + bit_of f.outer.first) * 2048 + f.close

-- the row of token i holds f
pub record Holds (t : List ℕ) (i : ℕ) (f : Rests) : Type 0 where
  pub inner_full : word_of t i 0 ≡ f.inner.full
  pub inner_counts : word_of t i 1 ≡ counts_of f.inner
  pub outer_full : word_of t i 2 ≡ f.outer.full
  pub outer_counts : word_of t i 3 ≡ counts_of f.outer
  pub total : word_of t i 4 ≡ f.total
  pub marks : word_of t i 5 ≡ marks_of f

abbrev pub row_words : Rests → List ℕ
row_words f = f.inner.full ∷ counts_of f.inner ∷ f.outer.full ∷ counts_of f.outer ∷ f.total ∷ marks_of f ∷ []

-- written
unfoldable pub with_row : List ℕ → ℕ → Rests → List ℕ
with_row t i f = with_words t i 0 (row_words f)

-- and read
abbrev pub rest_in : ℕ → ℕ → ℕ → Rest
rest_in full counts first = record { full = full; blocks = counts / 65536; commas = counts % 65536 - first; first = eqb first 1 }

unfoldable pub row_in : List ℕ → ℕ → Rests
row_in t i =
    record {
      inner = rest_in (word_of t i 0) (word_of t i 1) (word_of t i 5 / 4096 % 2);
      outer = rest_in (word_of t i 2) (word_of t i 3) (word_of t i 5 / 2048 % 2);
      total = word_of t i 4;
      others = word_of t i 5 / 8192;
      close = word_of t i 5 % 2048;
    }

-- after the close of a level, which is n if there is none
unfoldable pub past_in : List ℕ → ℕ → ℕ → Rests
past_in t n close = if eqb close n then ended n else row_in t close
