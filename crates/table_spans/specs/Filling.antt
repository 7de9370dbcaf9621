-- What is known of the table while it is filled.
use Rattle.std.specs.Prelude.{true, false, ◌≡◌, List, ℕ, ◌+◌, ◌-◌, ◌≤◌, ◌<◌, min}
use Rattle.rules.specs.declared.Sort.TheVariants as sort
use Rattle.rules.specs.Tokens.{Token}
use Rattle.rules.specs.Sheet.{token_of, tokens_from}
use Rattle.rules.specs.Span.{sort_in}
use Rattle.table_spans.specs.declared.Rests.{Rests}
use Rattle.table_spans.specs.Back.{read_back, total_of, others_of, closed, saves_in}
use Rattle.table_spans.specs.Rows.{Holds}

-- c is the index of the close that us come after, from token j of n on; n, and us are none, if there is none
pub record Closes (s : List ℕ) (base n j : ℕ) (us : List Token) (c : ℕ) : Type 0 where
  pub after : us ≡ tokens_from s base (c + 1) (n - (c + 1))
  pub from : min j n ≤ c
  pub to : c ≤ n
  pub at_close : c < n → sort_in (token_of s base c) ≡ sort.Close

-- f is what is read of the tokens from j of n on, d levels in
pub record ReadFrom (d : ℕ) (s : List ℕ) (base n j : ℕ) (f : Rests) : Type 0 where
  pub inner : f.inner ≡ read_back false d (tokens_from s base j (n - j))
  pub outer : f.outer ≡ read_back true d (tokens_from s base j (n - j))
  pub total : f.total ≡ total_of (tokens_from s base j (n - j))
  pub others : f.others ≡ others_of (tokens_from s base j (n - j))
  pub close : Closes s base n j (closed d (tokens_from s base j (n - j))) f.close

-- the row of token k holds what is read after it
pub record Row (s : List ℕ) (base n : ℕ) (t : List ℕ) (k : ℕ) : Type 0 where
  pub after : Rests
  pub read : ReadFrom 0 s base n (k + 1) after
  pub held : Holds t k after

-- so for those from i on that are written
pub record Rows (s : List ℕ) (base n i : ℕ) (t : List ℕ) : Type 0 where
  pub rows : (k : ℕ) → i ≤ k → k < n → saves_in (sort_in (token_of s base k)) ≡ true → Row s base n t k
