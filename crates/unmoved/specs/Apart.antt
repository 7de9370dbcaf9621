-- Why each premise of Wish 14 stands: pairs of sheets that meet all of them but one, and come apart; and some that meet all. Tables, read from the sheets' bytes.
use Rattle.std.specs.Prelude.{◌≡◌, refl, Bool, true, false, ◌&&◌, List, [], ◌∷◌, ◌++◌, map, ℕ}
use Prim.Native.String.{String}
use Rattle.rules.specs.declared.TokenKind.TheVariants as kind
use Rattle.rules.specs.Bytes.{bytes}
use Rattle.rules.specs.Base.{same}
use Rattle.rules.specs.Tokens.{Key, absent, named, zero_indexed, Token}
use Rattle.rules.specs.Sheet.{Param, QueryParams, NoParams, Indexed, Named, options_of}
use Rattle.rules.specs.Encode.{encode}
use Rattle.rules.specs.Rows.{Row, entry_word}
use Rattle.rules.specs.Computed.{computed, computed_list}
use Rattle.rules.specs.Sheets.{W, T, P, unset, options, default, ample, line}
use Rattle.unmoved.specs.Remains.{selected}
use Rattle.unmoved.specs.Unmoved.{shape, Common, common_of, firm, firm_in, Result, plain, called, rows_of, left_of, Unmoved}

-- ---- a pair

-- what the two need not have in common, and the first one's buffer
pub record Pair : Type 0 where
  pub but : Common → Common
  pub one : List ℕ
  pub other : List ℕ
  pub room : ℕ

-- which of the other premises hold, and whether the end does
pub record Judged : Type 0 where
  pub firm_one : Bool
  pub firm_other : Bool
  pub refusal_one : ℕ
  pub refusal_other : ℕ
  pub unmoved : Bool

-- the rows' tokens, and their entries in words
abbrev pub told : List ℕ → Result → List ℕ
told s r = map (λ (x : Row). x.token) (rows_of s r) ++ map (λ (x : Row). entry_word x.entry) (rows_of s r)

abbrev pub one_of : Pair → Result
one_of p = called plain p.one p.room 15

abbrev pub other_of : Pair → Result
other_of p = called plain p.other ample 15

abbrev pub judge : Pair → Judged
judge p =
    record {
      firm_one = firm_in p.one;
      firm_other = firm_in p.other;
      refusal_one = (one_of p).report.refusal;
      refusal_other = (other_of p).report.refusal;
      unmoved = same (left_of p.one (one_of p)) (left_of p.other (other_of p)) && same (told p.one (one_of p)) (told p.other (other_of p));
    }

-- ---- what is forgotten

abbrev nothing : Common → Common
nothing c = c

abbrev the_options : Common → Common
the_options c = record { options = options_of []; params = c.params; tokens = c.tokens; keeps = c.keeps }

abbrev the_keeps : Common → Common
the_keeps c = record { options = c.options; params = c.params; tokens = c.tokens; keeps = [] }

abbrev on_params : (QueryParams → QueryParams) → Common → Common
on_params f c = record { options = c.options; params = f c.params; tokens = c.tokens; keeps = c.keeps }

abbrev on_tokens : (Token → Token) → Common → Common
on_tokens f c = record { options = c.options; params = c.params; tokens = map f c.tokens; keeps = c.keeps }

abbrev unnamed : List ℕ → Param
unnamed v = record { name = []; value = v }

-- a numbered list is one without names
abbrev the_mode : QueryParams → QueryParams
the_mode NoParams = NoParams
the_mode (Indexed vs) = Named (map unnamed vs)
the_mode (Named ps) = Named ps

abbrev the_names : QueryParams → QueryParams
the_names NoParams = NoParams
the_names (Indexed vs) = Indexed vs
the_names (Named ps) = Named (map (λ (p : Param). unnamed p.value) ps)

abbrev the_number : QueryParams → QueryParams
the_number NoParams = NoParams
the_number (Indexed vs) = Indexed []
the_number (Named ps) = Named []

abbrev the_kind : Token → Token
the_kind t = record { kind = kind.Word; value = t.value; key = t.key; create = t.create }

abbrev the_value : Token → Token
the_value t = record { kind = t.kind; value = []; key = t.key; create = t.create }

abbrev the_key : Token → Token
the_key t = record { kind = t.kind; value = t.value; key = absent; create = t.create }

abbrev the_alias : Token → Token
the_alias t = record { kind = t.kind; value = t.value; key = t.key; create = false }

-- ---- the pairs

abbrev indexed : List String → QueryParams
indexed vs = Indexed (map bytes vs)

abbrev calls : String → String → QueryParams
calls n v = Named (record { name = bytes n; value = bytes v } ∷ [])

abbrev calling : String → QueryParams
calling n = calls n "1"

abbrev keyed : Key → Token
keyed k = record { kind = kind.Placeholder; value = bytes "?"; key = k; create = false }

abbrev pair : (Common → Common) → List ℕ → List ℕ → Pair
pair but one other = record { but = but; one = one; other = other; room = ample }

abbrev sheet : QueryParams → List Token → List ℕ
sheet ps ts = encode default ps [] ts

-- a value that is empty; one that ends in a line feed
abbrev pub unfirm : List Pair
unfirm =
    pair nothing (sheet (indexed ("" ∷ [])) (P "?" ∷ W "b" ∷ [])) (sheet (indexed ("a" ∷ [])) (P "?" ∷ W "b" ∷ []))
    ∷ pair nothing (sheet (indexed ("a\n" ∷ [])) (P "?" ∷ T "FROM" ∷ [])) (sheet (indexed ("a" ∷ [])) (P "?" ∷ T "FROM" ∷ []))
    ∷ []

-- other options, another mode, another number of parameters, another name, another kind, value, key or alias of a token, another keep word
abbrev pub unlike : List Pair
unlike =
    pair the_options (encode (options 0 50 unset) NoParams [] (T "from" ∷ [])) (encode (options 1 50 unset) NoParams [] (T "from" ∷ []))
    ∷ pair (on_params the_mode) (sheet (indexed ("1" ∷ [])) (P "?" ∷ [])) (sheet (calling "") (P "?" ∷ []))
    ∷ pair (on_params the_number) (sheet (indexed ("1" ∷ [])) (P "?" ∷ P "?" ∷ [])) (sheet (indexed ("1" ∷ "2" ∷ [])) (P "?" ∷ P "?" ∷ []))
    ∷ pair (on_params the_names) (sheet (calling "a") (keyed (named (bytes "a")) ∷ [])) (sheet (calling "b") (keyed (named (bytes "a")) ∷ []))
    ∷ pair (on_tokens the_kind) (sheet NoParams (W "a" ∷ W "b" ∷ [])) (sheet NoParams (T "a" ∷ W "b" ∷ []))
    ∷ pair (on_tokens the_value) (sheet NoParams (W "a" ∷ [])) (sheet NoParams (W "b" ∷ []))
    ∷ pair (on_tokens the_key) (sheet (indexed ("1" ∷ "1" ∷ [])) (keyed (zero_indexed (record { 0 = 0 })) ∷ [])) (sheet (indexed ("1" ∷ "1" ∷ [])) (keyed (zero_indexed (record { 0 = 1 })) ∷ []))
    ∷ pair (on_tokens the_alias) (sheet NoParams (T "a" ∷ W "b" ∷ [])) (sheet NoParams (record { kind = kind.ReservedTopLevel; value = bytes "a"; key = absent; create = true } ∷ W "b" ∷ []))
    ∷ pair the_keeps (encode (options 1 50 unset) NoParams (bytes "from" ∷ []) (T "from" ∷ [])) (encode (options 1 50 unset) NoParams (bytes "to" ∷ []) (T "from" ∷ []))
    ∷ []

-- the first is refused with 9
abbrev pub unlaid : List Pair
unlaid = record { but = nothing; one = sheet (indexed ("1" ∷ [])) (W "a" ∷ P "?" ∷ []); other = sheet (indexed ("1" ∷ [])) (W "a" ∷ P "?" ∷ []); room = 3 } ∷ []

abbrev pub apart : List Pair
apart = unfirm ++ unlike ++ unlaid

-- but for the first one's values and refusal all holds; the end does not
abbrev only : Bool → ℕ → Judged
only firm refusal = record { firm_one = firm; firm_other = true; refusal_one = refusal; refusal_other = 0; unmoved = false }

abbrev pub wanted : List Judged
wanted = map (λ p. only false 0) unfirm ++ map (λ p. only true 0) unlike ++ map (λ p. only true 9) unlaid

-- pairs that meet every premise: numbered, named, and with a white first byte
abbrev pub together : List Pair
together =
    pair nothing (sheet (indexed ("7" ∷ "12" ∷ [])) selected) (sheet (indexed ("a long\n  note, kept" ∷ "b" ∷ [])) selected)
    ∷ pair nothing (sheet (calls "line" "3") (W "a" ∷ line ∷ T "FROM" ∷ [])) (sheet (calls "line" "a\n, b") (W "a" ∷ line ∷ T "FROM" ∷ []))
    ∷ pair nothing (sheet (indexed ("\n b" ∷ [])) (P "?" ∷ W "c" ∷ [])) (sheet (indexed ("b" ∷ [])) (P "?" ∷ W "c" ∷ []))
    ∷ []

-- none of these pairs is as the theorem says
abbrev pub AllMoved : List Pair → Type 0
AllMoved [] = Unit {0}
AllMoved (p ∷ ps) = (Unmoved p.one p.other (one_of p) (other_of p) → ⊥) × AllMoved ps

-- ---- what the pairs have in common; the rest is claimed in proofs/

-- each pair has in common all that it need not forget
pub apart-alike : map (λ (p : Pair). p.but (common_of p.one)) apart ≡ map (λ (p : Pair). p.but (common_of p.other)) apart
unfolding computed computed_list encode common_of shape
apart-alike = refl

-- those that meet every premise have all of it
pub together-alike : map (λ (p : Pair). common_of p.one) together ≡ map (λ (p : Pair). common_of p.other) together
unfolding computed computed_list encode common_of shape
together-alike = refl
