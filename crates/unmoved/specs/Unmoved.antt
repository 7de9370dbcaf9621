-- Wish 14: two sheets that say the same but for the values of their parameters, and what their two texts and lists then have in common.
use Rattle.std.specs.Prelude.{◌≡◌, Bool, true, not, ◌&&◌, List, [], ◌∷◌, ◌++◌, map, ℕ, ◌+◌, take, drop, Option, None, Some}
use Rattle.rules.specs.declared.FormatOptions.{FormatOptions}
use Rattle.rules.specs.declared.Report.{Report}
use Rattle.rules.specs.Tokens.{Token}
use Rattle.rules.specs.Text.{last_or}
use Rattle.rules.specs.Words.{counts_of}
use Rattle.rules.specs.Sheet.{Param, QueryParams, NoParams, Indexed, Named, options_of, params_of, keeps_of, tokens_of}
use Rattle.rules.specs.Answer.{report_of, buffer_of}
use Rattle.rules.specs.Rows.{Row, placeholders, listed_report, listed_buffer, list_after}
use Rattle.rules.specs.Due.{white}
use Rattle.rows.specs.Listing.{rows_in}
use Rattle.twigmantle.specs.Once.{once_listed, once_list}

-- ---- the two sheets

-- the parameters with every value empty: their mode, their number and their names
unfoldable pub shape : QueryParams → QueryParams
shape NoParams = NoParams
shape (Indexed vs) = Indexed (map (λ v. []) vs)
shape (Named ps) = Named (map (λ (p : Param). record { name = p.name; value = [] }) ps)

-- all that the layout reads of a sheet, but for the values of its parameters
pub record Common : Type 0 where
  pub options : FormatOptions
  pub params : QueryParams
  pub tokens : List Token
  pub keeps : List (List ℕ)

unfoldable pub common_of : List ℕ → Common
common_of s =
    record {
      options = options_of s;
      params = shape (params_of s (counts_of s));
      tokens = tokens_of s (counts_of s);
      keeps = keeps_of s (counts_of s);
    }

unfoldable pub values : QueryParams → List (List ℕ)
values NoParams = []
values (Indexed vs) = vs
values (Named ps) = map (λ (p : Param). p.value) ps

-- not empty, with no white last byte: an empty value has a blank for its last byte. The wish asks the same of the first byte; nothing rests on that
unfoldable pub firm : List ℕ → Bool
firm v = not (white (last_or 32 v))

unfoldable pub all_firm : List (List ℕ) → Bool
all_firm [] = true
all_firm (v ∷ vs) = firm v && all_firm vs

-- every parameter value of the sheet
unfoldable pub firm_in : List ℕ → Bool
firm_in s = all_firm (values (params_of s (counts_of s)))

-- what is asked of the two, besides that both are laid out
pub record Alike (s t : List ℕ) : Type 0 where
  pub common : common_of s ≡ common_of t
  pub firm_one : firm_in s ≡ true
  pub firm_other : firm_in t ≡ true

-- ---- what a call with a list leaves

pub record Result : Type 0 where
  pub report : Report
  pub buffer : List ℕ
  pub list : List ℕ

-- the engine: the plain one, or the one that reads ahead once, with a table of so many words
pub data Engine : Type 0 where
  plain : Engine
  once : ℕ → Engine

-- in a buffer of room bytes, with a list of k words: the words of the two calls' promises
unfoldable pub called : Engine → List ℕ → ℕ → ℕ → Result
called plain s room k = record { report = listed_report s room k; buffer = listed_buffer s room k; list = list_after s room k }
called (once m) s room k =
    record { report = report_of (once_listed s room k m); buffer = buffer_of room (once_listed s room k m); list = once_list s room k m }

-- ---- what is left of it

-- the rows of the sheet's list, the last of them first
unfoldable pub rows_of : List ℕ → Result → List Row
rows_of s r = rows_in (placeholders (tokens_of s (counts_of s))) r.list

-- the bytes that a row points at are removed where it has an entry
unfoldable pub removed : Option ℕ → Row → List ℕ → List ℕ
removed None r b = b
removed (Some n) r b = take r.start b ++ drop (r.start + r.len) b

-- the last row goes first: what is removed stands after all that is still to go
unfoldable pub left : List Row → List ℕ → List ℕ
left [] b = b
left (r ∷ rs) b = left rs (removed r.entry r b)

unfoldable pub left_of : List ℕ → Result → List ℕ
left_of s r = left (rows_of s r) (take r.report.length r.buffer)

-- of the results r of s and q of t
pub record Unmoved (s t : List ℕ) (r q : Result) : Type 0 where
  pub bytes : left_of s r ≡ left_of t q
  pub tokens : map (λ (x : Row). x.token) (rows_of s r) ≡ map (λ (x : Row). x.token) (rows_of t q)
  pub entries : map (λ (x : Row). x.entry) (rows_of s r) ≡ map (λ (x : Row). x.entry) (rows_of t q)
