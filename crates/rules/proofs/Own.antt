-- The rules' casing, lookup and switch are those that demand 3 says in its own words. Assumes nothing.
use mathlib.Core.Path.{◌≡◌, refl, sym, ap, ◌∙◌}
use mathlib.Core.Bool.{Bool, true, false, ◌&&◌}
use Rattle.std.specs.Prelude.{Option, None, Some, if◌then◌else◌, unwrap_or}
use mathlib.Core.List.{List, [], ◌∷◌, map}
use Prim.Native.Nat.{ℕ, zero, suc, ◌+◌, ◌-◌, ◌≤◌, ◌<◌}
use native.Mathlib.Omega.{arith}
use native.Mathlib.Numerals.{sub-one}
use lib.Dec.{eqb, leb, ltb, eqb-suc-zero}
use lib.ListN.{length}
use borrow.Author.Tests.{leb-true, leb-false, ltb-true, ltb-false, eqb-true, eqb-false}
use Rattle.rules.specs.declared.ZeroIndexed.{ZeroIndexed}
use Rattle.rules.specs.declared.TokenKind.{TokenKind}
use Rattle.rules.specs.declared.TokenKind.TheVariants as kind
use Rattle.rules.specs.declared.Case.{Case}
use Rattle.rules.specs.declared.Case.TheVariants as case
use Rattle.rules.specs.declared.OneIndexed.{OneIndexed}
use Rattle.rules.specs.Base.{same, any_of, find, nth?}
use Rattle.rules.specs.Tokens.{Key, absent, named, zero_indexed, one_indexed, from_one}
use Rattle.rules.specs.Sheet.{Env, Param, QueryParams, NoParams, Indexed, Named}
use Rattle.rules.specs.Text.{to_upper, to_lower, byte_in_case, in_case}
use Rattle.rules.specs.Switch as rules
use Rattle.rules.specs.Params.{by_name, by_number, by_index, source, value_in, value_at, value_from, entry, get}
use Rattle.rules.specs.Formatter.{case_for, format_reserved_word}
use Rattle.rules.specs.Due.{role_of, switches, across, smalls, capitals, letter_in, in_asked_case, one_based, called_by, entry_of}

-- ---- the asked case

-- k bytes from a on
up_from : ℕ → ℕ → List ℕ
up_from a zero = []
up_from a (suc k) = a ∷ up_from (suc a) k

-- a byte within the first row, and one that is not
across-in : (k a b c d : ℕ) → a ≤ c → c < a + k → d + a ≡ c + b → across (up_from a k) (up_from b k) c ≡ d
unfolding up_from
across-in zero a b c d low high e = absurd (omega arith)
across-in (suc k) a b c d low high e = go (eqb c a) refl (λ l. across-in k (suc a) (suc b) c d l (omega arith) (omega arith))
  where
    go : (t : Bool) → eqb c a ≡ t → (suc a ≤ c → across (up_from (suc a) k) (up_from (suc b) k) c ≡ d) → (if t then b else across (up_from (suc a) k) (up_from (suc b) k) c) ≡ d
    go true q ih = let h = eqb-true c a q in omega arith
    go false q ih = let h = eqb-false c a q in ih (omega arith)

across-out : (k a b c : ℕ) → ((i : ℕ) → i < k → c ≡ a + i → ⊥) → across (up_from a k) (up_from b k) c ≡ c
unfolding up_from
across-out zero a b c h = refl
across-out (suc k) a b c h = go (eqb c a) refl (across-out k (suc a) (suc b) c (λ i l e. h (suc i) (omega arith) (omega arith)))
  where
    go : (t : Bool) → eqb c a ≡ t → across (up_from (suc a) k) (up_from (suc b) k) c ≡ c → (if t then b else across (up_from (suc a) k) (up_from (suc b) k) c) ≡ c
    go true q ih = let g = eqb-true c a q in absurd (h 0 (omega arith) (omega arith))
    go false q ih = ih

upper_is : (c : ℕ) → to_upper c ≡ across smalls capitals c
unfolding up_from
upper_is c = go (leb 97 c) refl (leb c 122) refl
  where
    go : (s : Bool) → leb 97 c ≡ s → (t : Bool) → leb c 122 ≡ t → (if s && t then c - 32 else c) ≡ across (up_from 97 26) (up_from 65 26) c
    go true e true f =
        let low = leb-true 97 c e in
        let high = leb-true c 122 f in
        sym (across-in 26 97 65 c (c - 32) low (omega arith) (omega arith))
    go true e false f = let high = leb-false c 122 f in sym (across-out 26 97 65 c (λ i l q. omega arith))
    go false e t f = let low = leb-false 97 c e in sym (across-out 26 97 65 c (λ i l q. omega arith))

lower-is : (c : ℕ) → to_lower c ≡ across capitals smalls c
unfolding up_from
lower-is c = go (leb 65 c) refl (leb c 90) refl
  where
    go : (s : Bool) → leb 65 c ≡ s → (t : Bool) → leb c 90 ≡ t → (if s && t then c + 32 else c) ≡ across (up_from 65 26) (up_from 97 26) c
    go true e true f =
        let low = leb-true 65 c e in
        let high = leb-true c 90 f in
        sym (across-in 26 65 97 c (c + 32) low (omega arith) (omega arith))
    go true e false f = let high = leb-false c 90 f in sym (across-out 26 65 97 c (λ i l q. omega arith))
    go false e t f = let low = leb-false 65 c e in sym (across-out 26 65 97 c (λ i l q. omega arith))

letter-is : (k : Case) (c : ℕ) → byte_in_case k c ≡ letter_in k c
letter-is case.AsIs c = refl
letter-is case.Upper c = upper_is c
letter-is case.Lower c = lower-is c

in-case : (k : Case) (v : List ℕ) → in_case k v ≡ map (letter_in k) v
in-case k [] = refl
in-case k (c ∷ cs) = rw (letter-is k c, in-case k cs)

as_is : (v : List ℕ) → in_case case.AsIs v ≡ v
as_is [] = refl
as_is (c ∷ cs) = rw (as_is cs)

pub word-is : (e : Env) (v : List ℕ) → format_reserved_word e v ≡ in_asked_case e.keep e.options.casing v
unfolding format_reserved_word case_for in_asked_case
word-is e v = go (any_of (same v) e.keep)
  where
    go : (kept : Bool) → in_case (if kept then case.AsIs else e.options.casing) v ≡ (if kept then v else map (letter_in e.options.casing) v)
    go true = as_is v
    go false = in-case e.options.casing v

-- ---- a placeholder's entry

-- past the end there is none
nth_past : (vs : List (List ℕ)) (n : ℕ) → length vs ≤ n → nth? vs n ≡ None
nth_past [] n h = refl
nth_past (v ∷ vs) zero h = absurd (omega arith)
nth_past (v ∷ vs) (suc n) h = nth_past vs n (omega arith)

number_is : (vs : List (List ℕ)) (n : ℕ) → value_from (Indexed vs) (by_number vs n) ≡ nth? vs n
unfolding by_number value_from value_at
number_is vs n = go (ltb n (length vs)) refl
  where
    go : (b : Bool) → ltb n (length vs) ≡ b → value_from (Indexed vs) (if b then Some n else None) ≡ nth? vs n
    go true e = refl
    go false e = sym (nth_past vs n (ltb-false n (length vs) e))

-- counted from one more, an entry's number is one more
abbrev one_on : Option ℕ → Option ℕ
one_on None = None
one_on (Some n) = Some (suc n)

find_on : (q : Param → Bool) (n : ℕ) (ps : List Param) → find q (suc n) ps ≡ one_on (find q n ps)
find_on q n [] = refl
find_on q n (p ∷ ps) = go (q p) (find_on q (suc n) ps)
  where
    go : (b : Bool) → find q (suc (suc n)) ps ≡ one_on (find q (suc n) ps) → (if b then Some (suc n) else find q (suc (suc n)) ps) ≡ one_on (if b then Some n else find q (suc n) ps)
    go true ih = refl
    go false ih = ih

value_on : (p : Param) (ps : List Param) (o : Option ℕ) → value_from (Named (p ∷ ps)) (one_on o) ≡ value_from (Named ps) o
unfolding value_from value_at
value_on p ps None = refl
value_on p ps (Some n) = refl

called_is : (n : List ℕ) (ps : List Param) → value_from (Named ps) (by_name ps n) ≡ called_by n ps
unfolding by_name value_from value_at value_in
called_is n [] = refl
called_is n (p ∷ ps) = go (same p.name n) (called_is n ps)
  where
    go : (b : Bool) → value_from (Named ps) (by_name ps n) ≡ called_by n ps
        → value_from (Named (p ∷ ps)) (if b then Some 0 else find (λ (q : Param). same q.name n) 1 ps) ≡ (if b then Some p.value else called_by n ps)
    go true ih = refl
    go false ih = rw (find_on (λ (q : Param). same q.name n) 0 ps) (value_on p ps (by_name ps n) ∙ ih)

numbered_is : (vs : List (List ℕ)) (n : OneIndexed) → value_from (Indexed vs) (by_index vs (from_one n)) ≡ one_based vs n.0
unfolding by_index value_from
numbered_is vs n = go n.0
  where
    go : (m : ℕ) → value_from (Indexed vs) (by_index vs (from_one (record { 0 = m }))) ≡ one_based vs m
    go zero = refl
    go (suc m) = rw (eqb-suc-zero m) (number_is vs (suc m - 1) ∙ ap (nth? vs) (sub-one (suc m)))

entry-is : (ps : QueryParams) (k : Key) (i : ℕ) → entry ps k i ≡ entry_of ps k i
unfolding entry source by_index value_from
entry-is NoParams k i = refl
entry-is (Indexed vs) absent i = number_is vs i
entry-is (Indexed vs) (named []) i = number_is vs i
entry-is (Indexed vs) (named (c ∷ n)) i = refl
entry-is (Indexed vs) (zero_indexed n) i = number_is vs n.0
entry-is (Indexed vs) (one_indexed n) i = numbered_is vs n
entry-is (Named ps) absent i = refl
entry-is (Named ps) (named n) i = called_is n ps
entry-is (Named ps) (zero_indexed n) i = called_is [] ps
entry-is (Named ps) (one_indexed n) i = called_is [] ps

-- an entry's number has a value
abbrev pub Found : QueryParams → Option ℕ → Type 0
Found ps None = Unit {0}
Found ps (Some n) = (v : List ℕ) × (value_at ps n ≡ Some v)

nth-within : (vs : List (List ℕ)) (n : ℕ) → n < length vs → (v : List ℕ) × (nth? vs n ≡ Some v)
nth-within [] n h = absurd (omega arith)
nth-within (v ∷ vs) zero h = (v, refl)
nth-within (v ∷ vs) (suc n) h = nth-within vs n (omega arith)

found_number : (vs : List (List ℕ)) (n : ℕ) → Found (Indexed vs) (by_number vs n)
unfolding by_number value_at
found_number vs n = go (ltb n (length vs)) refl
  where
    go : (b : Bool) → ltb n (length vs) ≡ b → Found (Indexed vs) (if b then Some n else None)
    go true e = nth-within vs n (ltb-true n (length vs) e)
    go false e = tt

found-on : (p : Param) (ps : List Param) (o : Option ℕ) → Found (Named ps) o → Found (Named (p ∷ ps)) (one_on o)
unfolding value_at
found-on p ps None f = tt
found-on p ps (Some n) f = f

found_name : (n : List ℕ) (ps : List Param) → Found (Named ps) (by_name ps n)
unfolding by_name value_at value_in
found_name n [] = tt
found_name n (p ∷ ps) = go (same p.name n) (found_name n ps)
  where
    go : (b : Bool) → Found (Named ps) (by_name ps n) → Found (Named (p ∷ ps)) (if b then Some 0 else find (λ (q : Param). same q.name n) 1 ps)
    go true ih = (p.value, refl)
    go false ih = rw (find_on (λ (q : Param). same q.name n) 0 ps) (found-on p ps (by_name ps n) ih)

found-index : (vs : List (List ℕ)) (n : Option ZeroIndexed) → Found (Indexed vs) (by_index vs n)
unfolding by_index
found-index vs (Some n) = found_number vs n.0
found-index vs None = tt

pub found-source : (ps : QueryParams) (k : Key) (i : ℕ) → Found ps (source ps k i)
unfolding source
found-source NoParams k i = tt
found-source (Indexed vs) absent i = found_number vs i
found-source (Indexed vs) (named []) i = found_number vs i
found-source (Indexed vs) (named (c ∷ n)) i = tt
found-source (Indexed vs) (zero_indexed n) i = found-index vs (Some n)
found-source (Indexed vs) (one_indexed n) i = found-index vs (from_one n)
found-source (Named ps) absent i = tt
found-source (Named ps) (named n) i = found_name n ps
found-source (Named ps) (zero_indexed n) i = found_name [] ps
found-source (Named ps) (one_indexed n) i = found_name [] ps

pub filled_is : (ps : QueryParams) (k : Key) (i : ℕ) (v : List ℕ) → get ps k i v ≡ unwrap_or (entry_of ps k i) v
unfolding get
filled_is ps k i v = ap (λ o. unwrap_or o v) (entry-is ps k i)

-- ---- the switch

pub switch-is : (k : TokenKind) (v : List ℕ) → rules.switch_in k v ≡ switches (role_of k) v
unfolding rules.switch_in
switch-is kind.TypeSpecifier v = refl
switch-is kind.Whitespace v = refl
switch-is kind.String v = refl
switch-is kind.Reserved v = refl
switch-is kind.ReservedTopLevel v = refl
switch-is kind.ReservedTopLevelNoIndent v = refl
switch-is kind.ReservedNewline v = refl
switch-is kind.ReservedNewlineAfter v = refl
switch-is kind.Operator v = refl
switch-is kind.OpenParen v = refl
switch-is kind.CloseParen v = refl
switch-is kind.LineComment v = refl
switch-is kind.BlockComment v = refl
switch-is kind.Number v = refl
switch-is kind.Placeholder v = refl
switch-is kind.Word v = refl
switch-is kind.Join v = refl
